use Rattle.refine_rings.proofs.Hosts.{pushes}
use Rattle.refine_rings.proofs.endpoint_laws.pushes.Goals as goal

pub returns : goal.returns
returns c = pushes
