use Rattle.std.proofs.Common.{◌≡◌, ◌≤◌, drop, length}
use Rattle.usb_rings.proofs.counts.Counts.drop_front.Given as goal

abbrev pub invariant-loop-rest : goal.invariant-loop-rest
invariant-loop-rest l = record {
  enough : l.rest ≤ length l.self;
  left : drop l.rest l.self ≡ drop l.count l.initial.self;
}

abbrev pub decreases-loop-rest : goal.decreases-loop-rest
decreases-loop-rest l = l.rest
