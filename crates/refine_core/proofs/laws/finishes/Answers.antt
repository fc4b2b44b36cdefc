use Rattle.refine_core.proofs.Leaves.{finishes}
use Rattle.refine_core.proofs.laws.finishes.Goals as goal

pub returns : goal.returns
returns g c = finishes
