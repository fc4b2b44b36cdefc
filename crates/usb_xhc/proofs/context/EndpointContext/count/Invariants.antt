use Rattle.std.proofs.Common.{◌≡◌, ◌≤◌, ◌-◌, Some}
use Rattle.usb_xhc.specs.Transaction.{trb_at}
use Rattle.usb_xhc.proofs.context.EndpointContext.count.Given as goal

abbrev pub invariant-loop-next : goal.invariant-loop-next
invariant-loop-next l = record {
  here : trb_at l.self l.index ≡ Some l.at;
  few : l.index ≤ 126;
}

abbrev pub decreases-loop-next : goal.decreases-loop-next
decreases-loop-next l = 126 - l.index
