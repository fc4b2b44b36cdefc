-- By how the write ended.
use Rattle.trace_recorded.proofs.WrittenAgain.{writes_again}
use Rattle.trace_recorded.proofs.laws.writes.Goals as goal

pub returns : goal.returns
returns c = writes_again
