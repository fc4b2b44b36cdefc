use Rattle.std.proofs.Common.{true, ◌≡◌}
use Rattle.usb_device.specs.Skims.{are_taken, pipe_given}
use Rattle.usb_device.proofs.pipe.TablePipe.skim_out.Given as goal

abbrev pub invariant-loop-count : goal.invariant-loop-count
invariant-loop-count l = record {
  taken : are_taken l.size l.bytes l.count l.initial.self ≡ true;
  pipe : l.self ≡ pipe_given l.size l.bytes l.count l.initial.self;
}
