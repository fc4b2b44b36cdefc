use Rattle.proof_laws.proofs.Owners.{names_owner, names_nobody, idles_for_nobody}
use Rattle.proof_laws.proofs.isolation.whose.Goals as goal

pub returns-clause-owner : goal.returns-clause-owner
returns-clause-owner c = names_owner

pub returns-clause-nobody : goal.returns-clause-nobody
returns-clause-nobody c = names_nobody

pub returns-clause-idle : goal.returns-clause-idle
returns-clause-idle c = idles_for_nobody
