use Rattle.refine_world.proofs.Fed.{fed_goes_on}
use Rattle.refine_world.proofs.living_laws.fed_goes_on.Goals as goal

pub returns : goal.returns
returns c = fed_goes_on
