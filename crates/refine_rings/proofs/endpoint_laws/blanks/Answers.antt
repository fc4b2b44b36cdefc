use Rattle.refine_rings.proofs.Hosts.{blanks}
use Rattle.refine_rings.proofs.endpoint_laws.blanks.Goals as goal

pub returns : goal.returns
returns c = blanks
