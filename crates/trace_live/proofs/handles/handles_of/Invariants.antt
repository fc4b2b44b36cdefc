use Rattle.std.proofs.Common.{◌≡◌, filter}
use Rattle.trace_live.specs.Lines.{has_steps, said_by_each}
use Rattle.trace_live.proofs.handles.handles_of.Given as goal

abbrev pub invariant-loop-lines : goal.invariant-loop-lines
invariant-loop-lines g l = l.handles.items ≡ filter has_steps (said_by_each l.yielded)
