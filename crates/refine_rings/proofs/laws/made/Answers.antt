use Rattle.refine_rings.proofs.Made.{made}
use Rattle.refine_rings.proofs.laws.made.Goals as goal

pub returns : goal.returns
returns c = made
