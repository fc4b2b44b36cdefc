use Rattle.refine_core.proofs.Transfers.{pauses}
use Rattle.refine_core.proofs.laws.pauses.Goals as goal

pub returns : goal.returns
returns g c = pauses
