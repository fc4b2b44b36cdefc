-- What is left leads to the whole.
use Rattle.std.proofs.Common.{◌≡◌, drop}
use Rattle.trace_recorded.specs.Sessions.{session_of, with_session_event}
use Rattle.trace_recorded.specs.Folds.{after}
use Rattle.trace_recorded.proofs.session.session_of.Given as goal

abbrev pub invariant-loop-event : goal.invariant-loop-event
invariant-loop-event l = after with_session_event l.session (drop l.event-index l.events) ≡ session_of l.infos l.events
