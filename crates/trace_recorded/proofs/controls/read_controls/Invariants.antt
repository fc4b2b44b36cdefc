-- What is left leads to the whole.
use Rattle.std.proofs.Common.{◌≡◌, drop}
use Rattle.trace_recorded.specs.Controls.{controls_of, with_control}
use Rattle.trace_recorded.specs.Folds.{after}
use Rattle.trace_recorded.proofs.controls.read_controls.Given as goal

abbrev pub invariant-loop-event : goal.invariant-loop-event
invariant-loop-event l = after with_control l.controls (drop l.event-index l.events) ≡ controls_of l.events
