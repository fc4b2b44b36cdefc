-- Answer by answer.
use Rattle.trace_recorded.proofs.ByKey.{lines_have_the_answers}
use Rattle.trace_recorded.proofs.laws.requests.Goals as goal

pub returns : goal.returns
returns c = lines_have_the_answers
