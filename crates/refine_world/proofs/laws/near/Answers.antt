use Rattle.refine_world.proofs.Bounds.{near_everywhere}
use Rattle.refine_world.proofs.laws.near.Goals as goal

pub returns : goal.returns
returns c = λ setup fine w c s h d e holds. near_everywhere setup w c s fine h d e holds
