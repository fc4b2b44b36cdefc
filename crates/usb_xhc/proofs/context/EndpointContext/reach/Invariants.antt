use Rattle.std.proofs.Common.{◌≡◌, ◌≤◌, ◌+◌, ◌-◌, ◌||◌, suc, Some, drop}
use Rattle.usb_model.specs.Stands.{total}
use Rattle.usb_xhc.specs.Ahead.{lengths, goes_on}
use Rattle.usb_xhc.specs.Context.{trbs}
use Rattle.usb_xhc.specs.Transaction.{trb_at}
use Rattle.usb_xhc.proofs.context.EndpointContext.reach.Given as goal

abbrev pub invariant-loop-sum : goal.invariant-loop-sum
invariant-loop-sum l = record {
  here : trb_at l.self l.index ≡ Some l.at;
  few : l.index ≤ 126;
  bytes : l.sum + total (lengths (drop (suc l.index) (trbs l.self))) ≡ total (lengths (trbs l.self));
  empty : (l.extra || goes_on (drop l.index (trbs l.self))) ≡ goes_on (trbs l.self);
  below : l.sum ≤ l.wanted + 65536;
}

abbrev pub decreases-loop-sum : goal.decreases-loop-sum
decreases-loop-sum l = 126 - l.index
