use Rattle.refine_core.proofs.Rows.{does_on}
use Rattle.refine_core.proofs.laws.joins.Goals as goal

pub returns : goal.returns
returns g c = does_on
