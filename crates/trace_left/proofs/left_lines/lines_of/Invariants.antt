-- The lines so far.
use Rattle.std.proofs.Common.{◌≡◌, take}
use Rattle.trace_left.specs.LeftText.{lines_left}
use Rattle.trace_left.proofs.left_lines.lines_of.Given as goal

abbrev pub invariant-loop-one : goal.invariant-loop-one
invariant-loop-one l = l.lines.items ≡ lines_left (take l.one-index l.left)
