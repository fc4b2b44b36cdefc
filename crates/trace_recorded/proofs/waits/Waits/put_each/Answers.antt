-- A wait more, and the end.
use Rattle.std.proofs.Common.{arith}
use Rattle.trace_recorded.specs.Waits.{with_wait}
use Rattle.trace_recorded.proofs.Folded.{fold_next, fold_end}
use Rattle.trace_recorded.proofs.waits.Waits.put_each.Goals as goal

pub loop-count-preserved : goal.loop-count-preserved
loop-count-preserved c = fold_next (with_wait c.args.place) c.loop-count.self _ _ c.args.taken.now c.loop-count.count-index c.count-item.result c.loop-count-test.true c.count-item.is c.in_ok-put.ensures c.loop-count.invariant

pub returns : goal.returns
returns c = fold_end (with_wait c.args.place) _ _ c.args.taken.now c.loop-count.count-index (omega arith) c.loop-count.invariant
