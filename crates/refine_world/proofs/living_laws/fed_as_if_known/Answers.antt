use Rattle.refine_world.proofs.Feeding.{fed_as_if_known}
use Rattle.refine_world.proofs.living_laws.fed_as_if_known.Goals as goal

pub returns : goal.returns
returns c = fed_as_if_known
