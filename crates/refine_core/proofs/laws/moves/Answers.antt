use Rattle.refine_core.proofs.Serves.{moves}
use Rattle.refine_core.proofs.laws.moves.Goals as goal

pub returns : goal.returns
returns g c = moves
