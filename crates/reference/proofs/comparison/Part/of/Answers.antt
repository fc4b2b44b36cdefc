-- One place further each turn, as long as there is a step.
use Rattle.std.proofs.Common.{◌≡◌, ◌∷◌, [], length, ◌∙◌, ap, arith}
use Rattle.std.specs.Vec.Iter.{into_iter_items}
use Rattle.reference.specs.Part.{own_entries, own_steps}
use Rattle.reference.proofs.PartSteps.{all_read, none_left, none_more, place_more}
use Rattle.reference.proofs.comparison.Part.of.Goals as goal

pub loop-entry-preserved-in-Some-split_first : goal.loop-entry-preserved-in-Some-split_first
loop-entry-preserved-in-Some-split_first c =
    let first : c.loop-entry.left.now ≡ c.in-Some-split_first.step.now ∷ c.in-Some-split_first.rest.now = c.in-Some-split_first.ensures.cases.0 in
    let taken : into_iter_items c.loop-entry.entry-iterator ≡ c.in-Some.entry ∷ into_iter_items c.next.new.self = c.in-Some.ensures.steps.0 in
    record {
      steps = place_more (λ x. x.step) c.args.h c.in-Some-split_first.step.now c.loop-entry.left.now c.in-Some-split_first.rest.now c.in-Some.entry (into_iter_items c.loop-entry.entry-iterator) (into_iter_items c.next.new.self) c.loop-entry.part.steps c.take.new.self.steps (own_steps c.args.h c.args.steps.now c.args.all) first taken c.in_ok-take-in-Some-split_first.ensures.steps c.loop-entry.invariant.steps;
      entries = place_more (λ x. x.entry) c.args.h c.in-Some-split_first.step.now c.loop-entry.left.now c.in-Some-split_first.rest.now c.in-Some.entry (into_iter_items c.loop-entry.entry-iterator) (into_iter_items c.next.new.self) c.loop-entry.part.entries c.take.new.self.entries (own_entries c.args.h c.args.steps.now c.args.all) first taken c.in_ok-take-in-Some-split_first.ensures.entries c.loop-entry.invariant.entries;
      left = let gone = c.in-Some.ensures.steps.1 in let counted = c.loop-entry.invariant.left in let shorter = ap length taken in omega arith;
    }

pub loop-entry-preserved : goal.loop-entry-preserved
loop-entry-preserved c =
    let none : c.loop-entry.left.now ≡ [] = none_left _ c.in-None-split_first.ensures.cases in
    let taken : into_iter_items c.loop-entry.entry-iterator ≡ c.in-Some.entry ∷ into_iter_items c.next.new.self = c.in-Some.ensures.steps.0 in
    record {
      steps = none_more (λ x. x.step) c.args.h c.loop-entry.left.now (into_iter_items c.loop-entry.entry-iterator) (into_iter_items c.next.new.self) c.loop-entry.part.steps (own_steps c.args.h c.args.steps.now c.args.all) none c.loop-entry.invariant.steps;
      entries = none_more (λ x. x.entry) c.args.h c.loop-entry.left.now (into_iter_items c.loop-entry.entry-iterator) (into_iter_items c.next.new.self) c.loop-entry.part.entries (own_entries c.args.h c.args.steps.now c.args.all) none c.loop-entry.invariant.entries;
      left = let gone = c.in-Some.ensures.steps.1 in let counted = c.loop-entry.invariant.left in let shorter = ap length taken in omega arith;
    }

pub returns-clause-steps : goal.returns-clause-steps
returns-clause-steps c =
    let none : into_iter_items c.loop-entry.entry-iterator ≡ [] = none_left _ (c.loop-entry.invariant.left ∙ c.in-None.ensures.steps.0) in
    all_read (λ x. x.step) c.args.h c.loop-entry.left.now (into_iter_items c.loop-entry.entry-iterator) c.loop-entry.part.steps (own_steps c.args.h c.args.steps.now c.args.all) none c.loop-entry.invariant.steps

pub returns-clause-entries : goal.returns-clause-entries
returns-clause-entries c =
    let none : into_iter_items c.loop-entry.entry-iterator ≡ [] = none_left _ (c.loop-entry.invariant.left ∙ c.in-None.ensures.steps.0) in
    all_read (λ x. x.entry) c.args.h c.loop-entry.left.now (into_iter_items c.loop-entry.entry-iterator) c.loop-entry.part.entries (own_entries c.args.h c.args.steps.now c.args.all) none c.loop-entry.invariant.entries
