use Rattle.refine_rings.proofs.Carries.{carries}
use Rattle.refine_rings.proofs.endpoint_laws.carries.Goals as goal

pub returns : goal.returns
returns c = carries
