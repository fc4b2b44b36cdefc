use Rattle.refine_world.proofs.Settled.{settled_shows}
use Rattle.refine_world.proofs.laws.settled.Goals as goal

pub returns : goal.returns
returns c = λ size ep gone next e os ns b sent t told o ok c w s. let r = settled_shows size ep gone next e os ns b sent t told o ok c w s in (r.event, r.errand, r.handles)
