use Rattle.proof_laws.proofs.Expansion.{expands_alone}
use Rattle.proof_laws.proofs.isolation.plans.Goals as goal

pub returns : goal.returns
returns c = expands_alone
