-- What was kept so far, with what is kept of the steps and the entries that are left, is all that is kept.
use Rattle.std.proofs.Common.{◌≡◌, length}
use Rattle.std.specs.Vec.Iter.{into_iter_items, into_iter_len}
use Rattle.reference.specs.Part.{own_entries, own_steps}
use Rattle.reference.proofs.PartSteps.{IsSoFar}
use Rattle.reference.proofs.comparison.Part.of.Given as goal

abbrev pub invariant-loop-entry : goal.invariant-loop-entry
invariant-loop-entry l = record {
  steps : IsSoFar (λ x. x.step) l.fn.h l.left (into_iter_items l.entry-iterator) l.part.steps (own_steps l.fn.h l.steps l.fn.all);
  entries : IsSoFar (λ x. x.entry) l.fn.h l.left (into_iter_items l.entry-iterator) l.part.entries (own_entries l.fn.h l.steps l.fn.all);
  left : length (into_iter_items l.entry-iterator) ≡ into_iter_len l.entry-iterator;
}
