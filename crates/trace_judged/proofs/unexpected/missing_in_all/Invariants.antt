use Rattle.std.proofs.Common.{◌≡◌, take}
use Rattle.std.specs.Prelude.{sum_by}
use Rattle.trace_judged.proofs.unexpected.missing_in_all.Given as goal

abbrev pub invariant-loop-m : goal.invariant-loop-m
invariant-loop-m l = l.count ≡ sum_by (λ m. m.count) (take l.m-index l.missing)
