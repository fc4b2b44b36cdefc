use Rattle.std.proofs.Common.{replicate}
use Rattle.trace_test.specs.Expanded.{AddsLines}
use Rattle.trace_test.proofs.expanded.Expanded.push_times.Given as goal

abbrev pub invariant-loop : goal.invariant-loop
invariant-loop l = AddsLines l.at (replicate l.counter l.line) l.initial.self l.self
