use Rattle.refine_rings.proofs.Runs.{runs}
use Rattle.refine_rings.proofs.laws.runs.Goals as goal

pub returns : goal.returns
returns c = runs
