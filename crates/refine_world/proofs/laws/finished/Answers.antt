use Rattle.refine_world.proofs.Finished.{finished_shows}
use Rattle.refine_world.proofs.laws.finished.Goals as goal

pub returns : goal.returns
returns c = λ size ep gone next e os ns b sent t told n code c s. let r = finished_shows size ep gone next e os ns b sent t told n code c s in (r.p, r.r, r.found, r.event, r.read, r.handles)
