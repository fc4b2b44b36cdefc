use Rattle.refine_world.proofs.Wanting.{reached_longer}
use Rattle.refine_world.proofs.living_laws.reached_longer.Goals as goal

pub returns : goal.returns
returns c = reached_longer
