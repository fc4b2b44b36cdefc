-- The handles so far.
use Rattle.std.proofs.Common.{◌≡◌, take}
use Rattle.std.specs.List.{flat_map}
use Rattle.trace_left.specs.Gathered.{joined}
use Rattle.trace_left.proofs.behind.put_together.Given as goal

abbrev pub invariant-loop-one : goal.invariant-loop-one
invariant-loop-one l = l.left.items ≡ flat_map (joined l.fn.waiting) (take l.one-index l.fn.read)
