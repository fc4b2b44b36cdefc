use Rattle.refine_core.proofs.Feeds.{feedable}
use Rattle.refine_core.proofs.laws.feeds_feedable.Goals as goal

pub returns : goal.returns
returns g c = feedable
