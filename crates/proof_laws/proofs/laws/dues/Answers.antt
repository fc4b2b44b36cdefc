use Rattle.proof_laws.proofs.AskedForDues.{asks_for_due}
use Rattle.proof_laws.proofs.laws.dues.Goals as goal

pub returns : goal.returns
returns c = asks_for_due
