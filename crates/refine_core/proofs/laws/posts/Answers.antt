use Rattle.refine_core.proofs.Errands.{posts}
use Rattle.refine_core.proofs.laws.posts.Goals as goal

pub returns : goal.returns
returns g c = posts
