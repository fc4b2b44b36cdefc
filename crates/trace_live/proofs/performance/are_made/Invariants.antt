use Rattle.std.proofs.Common.{All, IsOk}
use Rattle.trace_live.proofs.performance.are_made.Given as goal

abbrev pub invariant-loop-made : goal.invariant-loop-made
invariant-loop-made l = All (λ made. IsOk made) l.yielded
