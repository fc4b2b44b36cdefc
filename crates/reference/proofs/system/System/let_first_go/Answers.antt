-- The first of a list goes, where the step takes it.
use Rattle.std.proofs.Common.{rules}
use Rattle.reference.proofs.system.System.let_first_go.Goals as goal

pub returns-then-takes_result : goal.returns-then-takes_result
returns-then-takes_result c = search rules
