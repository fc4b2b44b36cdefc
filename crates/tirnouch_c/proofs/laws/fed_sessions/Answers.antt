use Rattle.tirnouch_c.proofs.Living.{fed_sessions}
use Rattle.tirnouch_c.proofs.laws.fed_sessions.Goals as goal

pub returns : goal.returns
returns c = fed_sessions
