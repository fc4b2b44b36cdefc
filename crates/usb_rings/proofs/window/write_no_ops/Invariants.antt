use Rattle.std.proofs.Common.{◌≡◌, ◌<◌, replicate}
use Rattle.usb_trb.specs.declared.kind.TrbKind.TheVariants.{NoOp}
use Rattle.usb_rings.specs.Line.{places}
use Rattle.usb_rings.specs.Memory.{puts}
use Rattle.usb_rings.proofs.window.write_no_ops.Given as goal

abbrev pub invariant-loop-rest : goal.invariant-loop-rest
invariant-loop-rest l = record {
  place : l.at < 254;
  written : puts places l.segment l.at (replicate l.rest NoOp) ≡ puts places l.initial.segment l.place (replicate l.count NoOp);
}

abbrev pub decreases-loop-rest : goal.decreases-loop-rest
decreases-loop-rest l = l.rest
