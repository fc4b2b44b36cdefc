use Rattle.refine_core.proofs.Transfers.{asks}
use Rattle.refine_core.proofs.laws.asks.Goals as goal

pub returns : goal.returns
returns g c = asks
