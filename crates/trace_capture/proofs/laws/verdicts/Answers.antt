-- By cases on the reply.
use Rattle.trace_capture.proofs.Verdicts.{same_of_verdicts}
use Rattle.trace_capture.proofs.laws.verdicts.Goals as goal

pub returns : goal.returns
returns c = same_of_verdicts
