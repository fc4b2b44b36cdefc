use Rattle.std.proofs.Common.{◌≡◌, take}
use Rattle.trace_judged.specs.Expected.{expected_at, packets_of}
use Rattle.trace_judged.proofs.expected.expected_at.Given as goal

abbrev pub invariant-loop-line : goal.invariant-loop-line
invariant-loop-line l = packets_of l.packets.items ≡ expected_at (take l.line-index l.lines) l.dev l.ep
