use Rattle.refine_rings.proofs.Made.{added}
use Rattle.refine_rings.proofs.laws.adds.Goals as goal

pub returns : goal.returns
returns c = added
