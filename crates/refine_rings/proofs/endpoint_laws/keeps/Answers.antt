use Rattle.refine_rings.proofs.Hosts.{keeps}
use Rattle.refine_rings.proofs.endpoint_laws.keeps.Goals as goal

pub returns : goal.returns
returns c = keeps
