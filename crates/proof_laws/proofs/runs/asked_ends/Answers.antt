use Rattle.proof_model.proofs.Bound.AskedEnds.{asked_ends}
use Rattle.proof_laws.proofs.runs.asked_ends.Goals as goal

pub returns : goal.returns
returns c = asked_ends
