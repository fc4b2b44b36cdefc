-- Field by field.
use Rattle.trace_recorded.proofs.ReadBack.{read_back}
use Rattle.trace_recorded.proofs.laws.events.Goals as goal

pub returns : goal.returns
returns c = read_back
