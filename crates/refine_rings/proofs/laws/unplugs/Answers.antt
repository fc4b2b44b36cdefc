use Rattle.refine_rings.proofs.Unplugs.{unplugs}
use Rattle.refine_rings.proofs.laws.unplugs.Goals as goal

pub returns : goal.returns
returns c = unplugs
