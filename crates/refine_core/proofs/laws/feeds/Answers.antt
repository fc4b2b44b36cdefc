use Rattle.refine_core.proofs.Feeds.{feeds}
use Rattle.refine_core.proofs.laws.feeds.Goals as goal

pub returns : goal.returns
returns g c = feeds
