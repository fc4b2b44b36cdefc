use Rattle.refine_core.proofs.Rows.{runs}
use Rattle.refine_core.proofs.laws.runs.Goals as goal

pub returns : goal.returns
returns g c = runs
