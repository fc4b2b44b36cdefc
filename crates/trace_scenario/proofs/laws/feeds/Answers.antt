use Rattle.trace_scenario.proofs.Feeds.{fed_alone, fed_later}
use Rattle.trace_scenario.proofs.laws.feeds.Goals as goal

pub returns-clause-later : goal.returns-clause-later
returns-clause-later c = fed_later

pub returns-clause-alone : goal.returns-clause-alone
returns-clause-alone c = fed_alone
