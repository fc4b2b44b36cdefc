-- By what is kept of transfers.
use Rattle.trace_capture.proofs.Answered.{answers_of_run}
use Rattle.trace_capture.proofs.laws.callbacks.Goals as goal

pub returns : goal.returns
returns c = answers_of_run
