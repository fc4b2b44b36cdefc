use Rattle.std.proofs.Common.{◌≡◌, ◌+◌, ◌==◌, length, drop}
use Rattle.std.specs.List.{slice_split}
use Rattle.trace_main.specs.Lived.{first_unlived}
use Rattle.trace_main.proofs.lived.first_unlived.Given as goal

abbrev pub invariant-loop-line : goal.invariant-loop-line
invariant-loop-line l = record {
  counted : l.at ≡ length l.yielded;
  rest : first_unlived 1 (slice_split (λ b. b == 10) l.text) ≡ first_unlived (length l.yielded + 1) (drop (length l.yielded) (slice_split (λ b. b == 10) l.text));
}
