use Rattle.refine_rings.proofs.Fine.{fine}
use Rattle.refine_rings.proofs.laws.fine.Goals as goal

pub returns : goal.returns
returns c = fine
