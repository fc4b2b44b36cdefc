-- By how the read ended.
use Rattle.trace_recorded.proofs.ReadAgain.{reads_again}
use Rattle.trace_recorded.proofs.laws.reads.Goals as goal

pub returns : goal.returns
returns c = reads_again
