-- Call by call, and turn by turn.
use Rattle.trace_explain.proofs.TrueReasons.{reasons_true}
use Rattle.trace_explain.proofs.TrueTurns.{others_true}
use Rattle.trace_explain.proofs.laws.truths.Goals as goal

pub returns-clause-others : goal.returns-clause-others
returns-clause-others c = others_true

pub returns-clause-refused : goal.returns-clause-refused
returns-clause-refused c = reasons_true
