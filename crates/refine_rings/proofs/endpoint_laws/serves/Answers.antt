use Rattle.refine_rings.proofs.Serves.{serves}
use Rattle.refine_rings.proofs.endpoint_laws.serves.Goals as goal

pub returns : goal.returns
returns c = serves
