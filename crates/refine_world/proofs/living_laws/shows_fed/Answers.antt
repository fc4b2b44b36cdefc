use Rattle.refine_world.proofs.FedCore.{shows_fed}
use Rattle.refine_world.proofs.living_laws.shows_fed.Goals as goal

pub returns : goal.returns
returns c = shows_fed
