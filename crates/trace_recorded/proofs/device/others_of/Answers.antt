-- An event more, and the end.
use Rattle.std.proofs.Common.{arith}
use Rattle.trace_recorded.specs.Devices.{with_other}
use Rattle.trace_recorded.proofs.Folded.{fold_next, fold_end}
use Rattle.trace_recorded.proofs.device.others_of.Goals as goal

pub loop-event-preserved : goal.loop-event-preserved
loop-event-preserved c =
    fold_next (with_other c.args.infos.now) c.loop-event.others _ _ c.args.events.now c.loop-event.event-index c.event-item.result c.loop-event-test.true c.event-item.is c.in_ok-push_other.ensures c.loop-event.invariant

pub returns : goal.returns
returns c = fold_end (with_other c.args.infos.now) _ _ c.args.events.now c.loop-event.event-index (omega arith) c.loop-event.invariant
