use Rattle.proof_laws.proofs.NothingChanges.{nobody_changes_nothing, refused_changes_nothing}
use Rattle.proof_laws.proofs.laws.idle_and_refused.Goals as goal

pub returns-clause-nobody : goal.returns-clause-nobody
returns-clause-nobody c = nobody_changes_nothing

pub returns-clause-refused : goal.returns-clause-refused
returns-clause-refused c = refused_changes_nothing
