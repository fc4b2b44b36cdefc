use Rattle.std.proofs.Common.{◌≡◌, [], replicate}
use Rattle.trace_live.specs.Lines.{said_by_each}
use Rattle.trace_live.proofs.handles.no_lines.Given as goal

abbrev pub invariant-loop : goal.invariant-loop
invariant-loop g l = said_by_each l.handles.items ≡ replicate l.counter []
