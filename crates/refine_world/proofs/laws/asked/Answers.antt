use Rattle.refine_world.proofs.Asked.{asks_show}
use Rattle.refine_world.proofs.laws.asked.Goals as goal

pub returns : goal.returns
returns c = asks_show
