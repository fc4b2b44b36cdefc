use Rattle.refine_rings.proofs.Feeds.{holds_fed}
use Rattle.refine_rings.proofs.laws.feeds.Goals as goal

pub returns : goal.returns
returns c = holds_fed
