use Rattle.std.proofs.Common.{◌≡◌, ◌+◌, ◌++◌, ◌==◌, length, drop, map}
use Rattle.std.specs.List.{slice_split}
use Rattle.trace_scenario.specs.Findings.{bad_from, bad_lines, good_from, good_lines}
use Rattle.trace_scenario.proofs.findings.check.Given as goal

abbrev pub invariant-loop-words : goal.invariant-loop-words
invariant-loop-words l = record {
  counted : l.line ≡ length l.yielded;
  found : bad_lines l.text ≡ map (λ finding. finding.line) l.bad.items ++ bad_from (length l.yielded + 1) l.draft (drop (length l.yielded) (slice_split (λ b. b == 10) l.text));
  taken : good_lines l.text ≡ good_from l.draft (drop (length l.yielded) (slice_split (λ b. b == 10) l.text));
}
