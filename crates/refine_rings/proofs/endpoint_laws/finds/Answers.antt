use Rattle.refine_rings.proofs.Where.{all}
use Rattle.refine_rings.proofs.endpoint_laws.finds.Goals as goal

pub returns : goal.returns
returns c = all
