use Rattle.refine_world.proofs.Bounds.{few_everywhere}
use Rattle.refine_world.proofs.laws.bounded.Goals as goal

pub returns : goal.returns
returns c = λ setup fine w c s. few_everywhere setup w c s fine
