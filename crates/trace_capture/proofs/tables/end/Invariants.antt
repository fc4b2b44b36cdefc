-- The first ones are changed, the others aren't yet.
use Rattle.std.proofs.Common.{◌≡◌, ◌++◌, take, drop, map}
use Rattle.trace_capture.specs.Events.{with_code}
use Rattle.trace_capture.proofs.tables.end.Given as goal

abbrev pub invariant-loop-x : goal.invariant-loop-x
invariant-loop-x l = l.tracked ≡ map (with_code l.h l.n l.code) (take l.x-index l.fn.tracked) ++ drop l.x-index l.fn.tracked
