use Rattle.refine_rings.proofs.SlotServes.{serves}
use Rattle.refine_rings.proofs.laws.serves.Goals as goal

pub returns : goal.returns
returns c = serves
