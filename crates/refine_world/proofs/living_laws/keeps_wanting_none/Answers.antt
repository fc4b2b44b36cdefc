use Rattle.refine_world.proofs.NoWants.{keeps_wanting_none}
use Rattle.refine_world.proofs.living_laws.keeps_wanting_none.Goals as goal

pub returns : goal.returns
returns c = keeps_wanting_none
