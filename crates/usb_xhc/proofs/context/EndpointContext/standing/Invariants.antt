use Rattle.std.proofs.Common.{◌≡◌, ◌≤◌, ◌-◌, Some, drop, ◌⊎◌}
use Rattle.usb_model.specs.Stands.{stand, total}
use Rattle.usb_xhc.specs.Ahead.{lengths}
use Rattle.usb_xhc.specs.Context.{trbs, stand_by}
use Rattle.usb_xhc.specs.Transaction.{trb_at}
use Rattle.usb_xhc.proofs.Scans.{on_by}
use Rattle.usb_xhc.proofs.context.EndpointContext.standing.Given as goal

abbrev pub invariant-loop-within : goal.invariant-loop-within
invariant-loop-within l = record {
  here : trb_at l.self l.index ≡ Some l.at;
  few : l.index ≤ 126;
  stands : on_by l.index (stand (lengths (drop l.index (trbs l.self))) l.within) ≡ stand_by l.self l.count;
  fits : (l.within ≤ total (lengths (drop l.index (trbs l.self)))) ⊎ (l.within ≤ 65536);
}

abbrev pub decreases-loop-within : goal.decreases-loop-within
decreases-loop-within l = 126 - l.index
