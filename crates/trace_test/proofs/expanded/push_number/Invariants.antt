use Rattle.std.proofs.Common.{◌≡◌, ◌++◌, replicate}
use Rattle.trace_test.proofs.expanded.push_number.Given as goal

abbrev pub invariant-loop : goal.invariant-loop
invariant-loop l = l.numbers.items ≡ l.initial.numbers.items ++ replicate l.counter l.number
