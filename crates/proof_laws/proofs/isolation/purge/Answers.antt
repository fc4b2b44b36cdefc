use Rattle.proof_model.proofs.Handles.Isolation.{sees_alone}
use Rattle.proof_model.proofs.Handles.Alone.{runs_alone}
use Rattle.proof_laws.proofs.isolation.purge.Goals as goal

pub returns-clause-sees : goal.returns-clause-sees
returns-clause-sees c = sees_alone

pub returns-clause-runs : goal.returns-clause-runs
returns-clause-runs c = runs_alone
