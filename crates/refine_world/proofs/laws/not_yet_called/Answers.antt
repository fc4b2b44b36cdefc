use Rattle.refine_world.proofs.Numbers.{not_yet_called}
use Rattle.refine_world.proofs.laws.not_yet_called.Goals as goal

pub returns : goal.returns
returns c = λ setup fine. not_yet_called setup
