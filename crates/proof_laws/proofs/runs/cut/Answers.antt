use Rattle.proof_model.proofs.Cut.Runs.{cuts_at}
use Rattle.proof_laws.proofs.runs.cut.Goals as goal

pub returns : goal.returns
returns c = cuts_at
