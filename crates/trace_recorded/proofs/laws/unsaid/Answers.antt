-- By what is missing.
use Rattle.trace_recorded.proofs.Unsaid.{nothing_said_is_put_in}
use Rattle.trace_recorded.proofs.laws.unsaid.Goals as goal

pub returns : goal.returns
returns c = nothing_said_is_put_in
