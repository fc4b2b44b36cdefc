use Rattle.refine_rings.proofs.Made.{is_of}
use Rattle.refine_rings.proofs.laws.is_of.Goals as goal

pub returns : goal.returns
returns c = is_of
