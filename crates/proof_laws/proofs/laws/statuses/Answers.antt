use Rattle.proof_laws.proofs.ToldStatuses.{tells_statuses}
use Rattle.proof_laws.proofs.laws.statuses.Goals as goal

pub returns : goal.returns
returns c = tells_statuses
