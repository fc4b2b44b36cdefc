use Rattle.proof_laws.proofs.Held.{tells_of_another, changes_nothing_for_another}
use Rattle.proof_laws.proofs.isolation.held_elsewhere.Goals as goal

pub returns-clause-told : goal.returns-clause-told
returns-clause-told c = tells_of_another

pub returns-clause-unchanged : goal.returns-clause-unchanged
returns-clause-unchanged c = changes_nothing_for_another
