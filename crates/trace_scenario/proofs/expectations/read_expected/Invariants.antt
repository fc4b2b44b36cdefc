-- What is left is what the rest expects.
use Rattle.std.proofs.Common.{◌≡◌, ◌++◌, ◌==◌, length, drop}
use Rattle.std.specs.Prelude.{filter_map}
use Rattle.std.specs.List.{slice_split}
use Rattle.trace_scenario.specs.Expectations.{expected_in_line, expected_of}
use Rattle.trace_scenario.proofs.expectations.read_expected.Given as goal

abbrev pub invariant-loop-line : goal.invariant-loop-line
invariant-loop-line l = l.expected.items ++ filter_map expected_in_line (drop (length l.yielded) (slice_split (λ b. b == 10) l.text)) ≡ expected_of l.text
