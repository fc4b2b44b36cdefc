use Rattle.refine_core.proofs.Turns.{shows_again, turns}
use Rattle.refine_core.proofs.laws.turns.Goals as goal

pub returns : goal.returns
returns g c = λ old new step entry does. (turns old new step entry does, shows_again old new step entry does)
