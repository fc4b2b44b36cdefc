use Rattle.refine_world.proofs.Numbers.{few_places}
use Rattle.refine_world.proofs.laws.few_places.Goals as goal

pub returns : goal.returns
returns c = few_places
