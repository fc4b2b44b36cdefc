use Rattle.std.proofs.Common.{◌≡◌, map, take}
use Rattle.trace_test.specs.Expanded.{origin_of}
use Rattle.trace_test.proofs.scenario.first_origins.Given as goal

abbrev pub invariant-loop-origin : goal.invariant-loop-origin
invariant-loop-origin l = l.first.items ≡ map (origin_of l.unrolled) (take l.origin-index l.origins)
