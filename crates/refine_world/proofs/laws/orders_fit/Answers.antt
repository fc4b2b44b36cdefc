use Rattle.refine_world.proofs.FirstOrders.{orders_fit}
use Rattle.refine_world.proofs.laws.orders_fit.Goals as goal

pub returns : goal.returns
returns c = orders_fit
