use Rattle.refine_rings.proofs.Renews.{hosts}
use Rattle.refine_rings.proofs.laws.hosts.Goals as goal

pub returns : goal.returns
returns c = hosts
