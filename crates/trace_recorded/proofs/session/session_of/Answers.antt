-- An event more, and the end.
use Rattle.std.proofs.Common.{arith}
use Rattle.trace_recorded.specs.Sessions.{with_session_event}
use Rattle.trace_recorded.proofs.Folded.{fold_next, fold_end}
use Rattle.trace_recorded.proofs.session.session_of.Goals as goal

pub loop-event-preserved : goal.loop-event-preserved
loop-event-preserved c = fold_next with_session_event c.loop-event.session _ _ c.args.events.now c.loop-event.event-index c.event-item.result c.loop-event-test.true c.event-item.is c.in_ok-read.ensures c.loop-event.invariant

pub returns : goal.returns
returns c = fold_end with_session_event _ _ c.args.events.now c.loop-event.event-index (omega arith) c.loop-event.invariant
