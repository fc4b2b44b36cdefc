use Rattle.std.proofs.Common.{map, take}
use Rattle.trace_test.specs.Expanded.{AddsLines, settling_line}
use Rattle.trace_test.proofs.expanded.Expanded.push_steps.Given as goal

abbrev pub invariant-loop-step : goal.invariant-loop-step
invariant-loop-step l = AddsLines l.at (map settling_line (take l.step-index l.steps)) l.initial.self l.self
