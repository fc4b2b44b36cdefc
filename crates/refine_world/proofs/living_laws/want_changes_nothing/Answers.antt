use Rattle.refine_world.proofs.Wanting.{want_changes_nothing}
use Rattle.refine_world.proofs.living_laws.want_changes_nothing.Goals as goal

pub returns : goal.returns
returns c = want_changes_nothing
