-- By what is missing.
use Rattle.trace_recorded.proofs.Unsaid.{events_stay, nothing_missing}
use Rattle.trace_recorded.proofs.laws.events_stay.Goals as goal

pub returns-clause-stay : goal.returns-clause-stay
returns-clause-stay c = events_stay

pub returns-clause-same : goal.returns-clause-same
returns-clause-same c = nothing_missing
