use Rattle.refine_rings.proofs.Events.{takes}
use Rattle.refine_rings.proofs.laws.takes.Goals as goal

pub returns : goal.returns
returns c = takes
