use Rattle.refine_core.proofs.Skims.{skims}
use Rattle.refine_core.proofs.laws.skims.Goals as goal

pub returns : goal.returns
returns g c = skims
