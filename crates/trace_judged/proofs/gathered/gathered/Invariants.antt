-- The entries so far expect what the lines so far do, and of no endpoint are there two.
use Rattle.std.proofs.Common.{◌≡◌, ℕ}
use Rattle.trace_judged.specs.Expected.{expected_at}
use Rattle.trace_judged.specs.Gathered.{HasEndpointsOnce}
use Rattle.trace_judged.proofs.gathered.gathered.Given as goal

abbrev pub invariant-loop-line : goal.invariant-loop-line
invariant-loop-line l = record {
  once : HasEndpointsOnce l.entries.items;
  expected : (dev ep : ℕ) → expected_at l.entries.items dev ep ≡ expected_at l.yielded dev ep;
}
