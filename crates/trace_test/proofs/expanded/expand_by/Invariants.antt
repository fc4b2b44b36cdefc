use Rattle.std.proofs.Common.{◌≡◌, ◌+◌, drop, length}
use Rattle.trace_test.specs.Expanded.{AddsAll, Expands, Expansion, lines_in}
use Rattle.trace_test.proofs.expanded.expand_by.Given as goal

abbrev pub invariant-loop-line : goal.invariant-loop-line
invariant-loop-line l = record {
  counted : l.at ≡ length l.yielded;
  rest : (e : Expansion) → AddsAll (length l.yielded + 1) (drop (length l.yielded) (lines_in l.text)) l.expanded e → Expands l.text e;
}
