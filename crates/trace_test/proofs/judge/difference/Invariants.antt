use Rattle.std.proofs.Common.{◌≡◌, ◌+◌, drop, length}
use Rattle.trace_test.specs.Comparison.{difference_from}
use Rattle.trace_test.specs.Expanded.{lines_in}
use Rattle.trace_test.proofs.judge.difference.Given as goal

abbrev pub invariant-loop-line : goal.invariant-loop-line
invariant-loop-line l = record {
  counted : l.at ≡ length l.yielded;
  rest : difference_from 1 (lines_in l.text) l.initial.unmet ≡ difference_from (length l.yielded + 1) (drop (length l.yielded) (lines_in l.text)) l.unmet;
}
