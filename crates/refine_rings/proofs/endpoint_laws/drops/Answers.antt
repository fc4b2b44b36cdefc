use Rattle.refine_rings.proofs.Hosts.{drops}
use Rattle.refine_rings.proofs.endpoint_laws.drops.Goals as goal

pub returns : goal.returns
returns c = drops
