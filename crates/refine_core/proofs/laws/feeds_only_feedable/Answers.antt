use Rattle.refine_core.proofs.Feeds.{only_feedable}
use Rattle.refine_core.proofs.laws.feeds_only_feedable.Goals as goal

pub returns : goal.returns
returns g c = only_feedable
