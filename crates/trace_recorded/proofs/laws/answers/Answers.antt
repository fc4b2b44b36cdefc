-- Of a read and of a write.
use Rattle.trace_recorded.proofs.Expected.{answers_are_those}
use Rattle.trace_recorded.proofs.laws.answers.Goals as goal

pub returns : goal.returns
returns c = answers_are_those
