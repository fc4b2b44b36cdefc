use Rattle.refine_core.proofs.Errands.{resumes}
use Rattle.refine_core.proofs.laws.resumes.Goals as goal

pub returns : goal.returns
returns g c = resumes
