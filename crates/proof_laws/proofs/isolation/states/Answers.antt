use Rattle.proof_model.proofs.Handles.Runs.{states_alone}
use Rattle.proof_laws.proofs.isolation.states.Goals as goal

pub returns : goal.returns
returns c = states_alone
