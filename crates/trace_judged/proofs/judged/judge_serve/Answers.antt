use Rattle.trace_judged.proofs.Judges.{always}
use Rattle.trace_judged.proofs.judged.judge_serve.Goals as goal

pub returns-clause-stage : goal.returns-clause-stage
returns-clause-stage c = always c.difference_at.result c.in_ok-perform.ensures.made.1
