-- Step by step.
use Rattle.trace_explain.proofs.TellsTurns.{sorts_agree}
use Rattle.trace_explain.proofs.laws.sorts.Goals as goal

pub returns : goal.returns
returns c = sorts_agree
