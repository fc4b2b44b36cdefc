-- What is left leads to the whole.
use Rattle.std.proofs.Common.{◌≡◌, drop}
use Rattle.trace_recorded.specs.Folds.{after}
use Rattle.trace_recorded.specs.Lines.{noted_of, with_other_of}
use Rattle.trace_recorded.proofs.text.noted_of.Given as goal

abbrev pub invariant-loop-other : goal.invariant-loop-other
invariant-loop-other l = after (with_other_of l.ep) l.noted (drop l.other-index l.others) ≡ noted_of l.others l.ep
