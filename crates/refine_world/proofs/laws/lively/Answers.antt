use Rattle.refine_world.proofs.EndpointInvariant.{sound_at}
use Rattle.refine_world.proofs.laws.lively.Goals as goal

pub returns : goal.returns
returns c = λ setup fine steps h d ep e is. (sound_at setup steps fine h).lively d ep e is
