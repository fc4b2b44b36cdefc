-- An event more, and the end.
use Rattle.std.proofs.Common.{arith}
use Rattle.trace_recorded.specs.Controls.{with_control}
use Rattle.trace_recorded.proofs.Folded.{fold_next, fold_end}
use Rattle.trace_recorded.proofs.controls.read_controls.Goals as goal

pub loop-event-preserved : goal.loop-event-preserved
loop-event-preserved c = fold_next with_control c.loop-event.controls _ _ c.args.events.now c.loop-event.event-index c.event-item.result c.loop-event-test.true c.event-item.is c.in_ok-read.ensures c.loop-event.invariant

pub returns : goal.returns
returns c = fold_end with_control _ _ c.args.events.now c.loop-event.event-index (omega arith) c.loop-event.invariant
