-- A place is kept or left out, by the test.
use Rattle.std.proofs.Common.{rules, ◌≡◌, ◌++◌, ◌∷◌, [], ◌∙◌, sym, ap}
use Rattle.reference.proofs.PartSteps.{place_kept, place_left}
use Rattle.reference.proofs.comparison.Part.take.Goals as goal

pub returns-in_ok-push-2-clause-steps : goal.returns-in_ok-push-2-clause-steps
returns-in_ok-push-2-clause-steps c =
    let same : c.in_ok-clone.field-0 ≡ c.args.step.now = search rules in
    place_kept (λ x. x.step) c.args.h c.args.step.now c.args.entry c.args.self.now.steps c.push.new.self (sym c.is_own.ensures ∙ c.if-is_own.true) (c.in_ok-push.ensures.pushed ∙ ap (λ x. c.args.self.now.steps ++ x ∷ []) same)

pub returns-in_ok-push-2-clause-entries : goal.returns-in_ok-push-2-clause-entries
returns-in_ok-push-2-clause-entries c =
    place_kept (λ x. x.entry) c.args.h c.args.step.now c.args.entry c.args.self.now.entries c.push-then-is_own.new.self (sym c.is_own.ensures ∙ c.if-is_own.true) c.in_ok-push-2.ensures.pushed

pub returns-else-is_own-clause-steps : goal.returns-else-is_own-clause-steps
returns-else-is_own-clause-steps c = place_left (λ x. x.step) c.args.h c.args.step.now c.args.entry c.args.self.now.steps (sym c.is_own.ensures ∙ c.if-is_own.false)

pub returns-else-is_own-clause-entries : goal.returns-else-is_own-clause-entries
returns-else-is_own-clause-entries c = place_left (λ x. x.entry) c.args.h c.args.step.now c.args.entry c.args.self.now.entries (sym c.is_own.ensures ∙ c.if-is_own.false)
