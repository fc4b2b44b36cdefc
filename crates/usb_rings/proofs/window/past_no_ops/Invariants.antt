use Rattle.std.proofs.Common.{◌≡◌, ◌≤◌, ◌+◌, ◌-◌}
use Rattle.usb_rings.specs.Written.{kinds}
use Rattle.usb_rings.specs.Line.{places, no_ops}
use Rattle.usb_rings.specs.View.{back}
use Rattle.usb_rings.proofs.window.past_no_ops.Given as goal

abbrev pub invariant-loop-rest : goal.invariant-loop-rest
invariant-loop-rest l = record {
  few : l.rest ≤ l.left;
  passed : (l.left - l.rest) + no_ops (kinds places l.segment (back l.enqueue l.rest) l.rest) ≡ no_ops (kinds places l.segment (back l.enqueue l.left) l.left);
}

abbrev pub decreases-loop-rest : goal.decreases-loop-rest
decreases-loop-rest l = l.rest
