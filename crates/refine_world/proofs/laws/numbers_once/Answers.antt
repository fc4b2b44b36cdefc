use Rattle.refine_world.proofs.Numbers.{numbers_once}
use Rattle.refine_world.proofs.laws.numbers_once.Goals as goal

pub returns : goal.returns
returns c = numbers_once
