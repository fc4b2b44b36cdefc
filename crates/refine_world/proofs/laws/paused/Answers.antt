use Rattle.refine_world.proofs.Pauses.{paused_shows}
use Rattle.refine_world.proofs.laws.paused.Goals as goal

pub returns : goal.returns
returns c = λ size ep gone e os ns b sent t told n c s. let r = paused_shows size ep gone e os ns b sent t told n c s in (r.p, r.r, r.found, r.event, r.read, r.handles)
