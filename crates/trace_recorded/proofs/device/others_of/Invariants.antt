-- What is left leads to the whole.
use Rattle.std.proofs.Common.{◌≡◌, drop}
use Rattle.trace_recorded.specs.Devices.{others_of, with_other}
use Rattle.trace_recorded.specs.Folds.{after}
use Rattle.trace_recorded.proofs.device.others_of.Given as goal

abbrev pub invariant-loop-event : goal.invariant-loop-event
invariant-loop-event l = after (with_other l.infos) l.others (drop l.event-index l.events) ≡ others_of l.infos l.events
