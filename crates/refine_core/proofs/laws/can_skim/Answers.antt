use Rattle.refine_core.proofs.Rests.{skims_safely}
use Rattle.refine_core.proofs.laws.can_skim.Goals as goal

pub returns : goal.returns
returns g c = skims_safely
