use Rattle.refine_world.proofs.Runs.{goes_on_unseen}
use Rattle.refine_world.proofs.living_laws.goes_on_unseen.Goals as goal

pub returns : goal.returns
returns c = goes_on_unseen
