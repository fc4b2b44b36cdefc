use Rattle.refine_world.proofs.Strays.{never_stray}
use Rattle.refine_world.proofs.laws.never_stray.Goals as goal

pub returns : goal.returns
returns c = never_stray
