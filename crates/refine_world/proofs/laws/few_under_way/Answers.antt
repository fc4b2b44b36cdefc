use Rattle.refine_world.proofs.UnderWay.{few_under_way}
use Rattle.refine_world.proofs.laws.few_under_way.Goals as goal

pub returns : goal.returns
returns c = λ setup fine w c s. few_under_way setup w c s fine
