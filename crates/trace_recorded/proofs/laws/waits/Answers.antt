-- Wait by wait, and event by event.
use Rattle.trace_recorded.proofs.AnswersWait.{answers_wait}
use Rattle.trace_recorded.proofs.laws.waits.Goals as goal

pub returns : goal.returns
returns c = answers_wait
