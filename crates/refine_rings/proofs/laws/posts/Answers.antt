use Rattle.refine_rings.proofs.Events.{posts}
use Rattle.refine_rings.proofs.laws.posts.Goals as goal

pub returns : goal.returns
returns c = posts
