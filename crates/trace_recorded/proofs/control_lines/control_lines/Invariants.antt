-- The requests that are left lead to the whole.
use Rattle.std.proofs.Common.{◌≡◌}
use Rattle.std.specs.Vec.Iter.{into_iter_items}
use Rattle.trace_recorded.specs.Requests.{control_lines, with_answered}
use Rattle.trace_recorded.specs.Folds.{after}
use Rattle.trace_recorded.proofs.control_lines.control_lines.Given as goal

abbrev pub invariant-loop-request : goal.invariant-loop-request
invariant-loop-request l = after with_answered l.lines (into_iter_items l.request-iterator) ≡ control_lines l.fn.answered
