use Rattle.refine_world.proofs.Calls.Whole.{whole_steps}
use Rattle.refine_world.proofs.laws.stepped_whole.Goals as goal

pub returns : goal.returns
returns c = whole_steps
