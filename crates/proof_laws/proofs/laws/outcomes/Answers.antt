use Rattle.proof_laws.proofs.EndedShares.{ends_for_good}
use Rattle.proof_laws.proofs.ToldOutcomes.{tells_outcomes}
use Rattle.proof_laws.proofs.laws.outcomes.Goals as goal

pub returns-clause-told : goal.returns-clause-told
returns-clause-told c = tells_outcomes

pub returns-clause-ended : goal.returns-clause-ended
returns-clause-ended c = ends_for_good
