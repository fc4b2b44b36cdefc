use Rattle.refine_world.proofs.RunningEndpoints.{fresh_while_running}
use Rattle.refine_world.proofs.laws.fresh_running.Goals as goal

pub returns : goal.returns
returns c = λ setup fine w c s h d e holds runs. fresh_while_running setup w c s fine h d e holds runs
