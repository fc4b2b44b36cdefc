use Rattle.refine_core.proofs.Leaves.{withdraws}
use Rattle.refine_core.proofs.laws.withdraws.Goals as goal

pub returns : goal.returns
returns g c = withdraws
