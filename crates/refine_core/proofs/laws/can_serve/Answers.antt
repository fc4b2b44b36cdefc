use Rattle.refine_core.proofs.Fronts.{serves_safely}
use Rattle.refine_core.proofs.laws.can_serve.Goals as goal

pub returns : goal.returns
returns g c = serves_safely
