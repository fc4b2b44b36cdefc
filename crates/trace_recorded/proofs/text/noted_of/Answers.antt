-- A transfer more, and the end.
use Rattle.std.proofs.Common.{arith}
use Rattle.trace_recorded.specs.Lines.{with_other_of}
use Rattle.trace_recorded.proofs.Folded.{fold_next, fold_end}
use Rattle.trace_recorded.proofs.text.noted_of.Goals as goal

pub loop-other-preserved : goal.loop-other-preserved
loop-other-preserved c =
    fold_next (with_other_of c.args.ep) c.loop-other.noted _ _ c.args.others.now c.loop-other.other-index c.other-item.result c.loop-other-test.true c.other-item.is c.with_other_of-noted.ensures c.loop-other.invariant

pub returns : goal.returns
returns c = fold_end (with_other_of c.args.ep) _ _ c.args.others.now c.loop-other.other-index (omega arith) c.loop-other.invariant
