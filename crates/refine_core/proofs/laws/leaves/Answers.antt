use Rattle.refine_core.proofs.Leaves.{leaves}
use Rattle.refine_core.proofs.laws.leaves.Goals as goal

pub returns : goal.returns
returns g c = leaves
