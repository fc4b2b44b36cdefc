use Rattle.refine_core.proofs.Starts.{starts}
use Rattle.refine_core.proofs.laws.starts.Goals as goal

pub returns : goal.returns
returns g c = starts
