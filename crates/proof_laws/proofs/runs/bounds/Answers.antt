use Rattle.proof_model.proofs.Bounds.Runs.{keeps_bounds}
use Rattle.proof_laws.proofs.runs.bounds.Goals as goal

pub returns : goal.returns
returns c = keeps_bounds
