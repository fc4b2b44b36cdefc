use Rattle.refine_world.proofs.RunningEndpoints.{reads_so_far}
use Rattle.refine_world.proofs.laws.reads_so_far.Goals as goal

pub returns : goal.returns
returns c = λ setup fine w c s h d e holds runs y found. reads_so_far setup w c s fine h d e holds runs y found
