use Rattle.refine_world.proofs.Submits.{submit_shows}
use Rattle.refine_world.proofs.laws.submitted.Goals as goal

pub returns : goal.returns
returns c = submit_shows
