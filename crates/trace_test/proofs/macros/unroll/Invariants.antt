use Rattle.std.proofs.Common.{◌≡◌, ◌+◌, drop, length}
use Rattle.trace_test.specs.Expanded.{lines_in}
use Rattle.trace_test.specs.Macros.{behind_lines, nothing_known}
use Rattle.trace_test.proofs.macros.unroll.Given as goal

abbrev pub invariant-loop-line : goal.invariant-loop-line
invariant-loop-line l = record {
  counted : l.at ≡ length l.yielded;
  rest : behind_lines 1 (lines_in l.text) nothing_known ≡ behind_lines (length l.yielded + 1) (drop (length l.yielded) (lines_in l.text)) l.macros;
}
