use Rattle.refine_core.proofs.Offers.{offers}
use Rattle.refine_core.proofs.laws.offers.Goals as goal

pub returns : goal.returns
returns g c = offers
