-- What the lines that are left have at what is left of the index.
use Rattle.std.proofs.Common.{◌≡◌, drop}
use Rattle.std.specs.Prelude.{slice_get}
use Rattle.trace_judged.specs.Expected.{expected_at}
use Rattle.trace_judged.proofs.expected.packet_at.Given as goal

abbrev pub invariant-loop-line : goal.invariant-loop-line
invariant-loop-line l = slice_get (expected_at (drop l.line-index l.lines) l.dev l.ep) l.left ≡ slice_get (expected_at l.lines l.dev l.ep) l.index
