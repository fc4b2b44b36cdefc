use Rattle.proof_laws.proofs.InCallbacks.{keeps_callbacks}
use Rattle.proof_laws.proofs.isolation.in_callbacks.Goals as goal

pub returns : goal.returns
returns c = keeps_callbacks
