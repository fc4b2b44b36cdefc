-- What is left leads to the whole.
use Rattle.std.proofs.Common.{◌≡◌, drop}
use Rattle.trace_recorded.specs.Folds.{after}
use Rattle.trace_recorded.specs.Waits.{with_wait}
use Rattle.trace_recorded.proofs.waits.Waits.put_each.Given as goal

abbrev pub invariant-loop-count : goal.invariant-loop-count
invariant-loop-count l = after (with_wait l.place) l.self (drop l.count-index l.taken) ≡ after (with_wait l.place) l.fn.self l.taken
