use Rattle.refine_world.proofs.Commands.{command_shows}
use Rattle.refine_world.proofs.PauseEvents.{pause_told_if_open}
use Rattle.refine_world.proofs.laws.carried.Goals as goal

pub returns : goal.returns
returns c = λ size ep e o os ns b w sent told some c orderly s. command_shows size ep e o os ns b w sent told c orderly (pause_told_if_open size e some orderly.opens) s
