use Rattle.refine_rings.proofs.Fine.{lawful_scripts}
use Rattle.refine_rings.proofs.laws.lawful.Goals as goal

pub returns : goal.returns
returns c = lawful_scripts
