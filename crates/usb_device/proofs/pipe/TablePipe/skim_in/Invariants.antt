use Rattle.std.proofs.Common.{true, ◌≡◌, ◌≤◌, ◌+◌, ◌-◌, ◌*◌, ◌++◌, length}
use Rattle.usb_device.specs.Skims.{are_whole, pipe_behind, read_in}
use Rattle.usb_device.proofs.pipe.TablePipe.skim_in.Given as goal

abbrev pub invariant-loop-count : goal.invariant-loop-count
invariant-loop-count l = record {
  whole : are_whole l.size l.count l.initial.self ≡ true;
  pipe : l.self ≡ pipe_behind l.count l.initial.self;
  bytes : l.bytes.items ≡ l.initial.bytes.items ++ read_in l.count l.initial.self;
  capacity : l.initial.bytes.capacity ≤ l.bytes.capacity;
  lent : l.bytes.lent ≡ l.initial.bytes.lent;
  length : length l.bytes.items ≡ length l.initial.bytes.items + l.count * l.size;
}
