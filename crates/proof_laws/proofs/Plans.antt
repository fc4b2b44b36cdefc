-- The steps that a plan may stand for.
use Rattle.std.proofs.Common.{◌≡◌, ℕ, ◌==◌, Bool, true, false, ◌&&◌, List, [], ◌∷◌, ◌++◌, Option, Some, None, refl, ap, ◌∙◌, subst}
use Rattle.std.specs.Prelude.{◌≢◌, if◌then◌else◌}
use Rattle.std.specs.List.{AllByRecursion}
use Rattle.usb_model.specs.declared.status.Status.{Status}
use Rattle.usb_model.specs.declared.step.Step.{Step}
use Rattle.usb_model.specs.declared.reply.Reply.{Reply}
use Rattle.usb_model.specs.declared.reply.Reply.TheVariants.{Number}
use Rattle.usb_model.specs.declared.verdict.Rule.{Rule}
use Rattle.usb_model.specs.declared.verdict.Rule.TheVariants as rule
use Rattle.usb_model.specs.declared.verdict.Verdict.{Verdict}
use Rattle.usb_model.specs.declared.plan.Plan.{Plan}
use Rattle.usb_model.specs.declared.plan.Plan.TheVariants.{Do, Return}
use Rattle.usb_model.specs.declared.result.InCallback.{InCallback}
use Rattle.usb_model.specs.Setup.{Setup}
use Rattle.usb_model.specs.World.{turn}
use Rattle.usb_model.specs.World.Plans.{verdict_of, FitsRule, once_only, Book, noted_by, verdict_by, FitsReturn, return_steps, is_submit, rules_past, rules_after, first_rule, rule_for, Stage, first_stage, returning, steps_of, stage_after, expand_from, ExpandsFrom}
use Rattle.proof_laws.specs.Isolation.{MayExpand, ExpandsOnly}

-- what a callback under a rule answers, fits the rule
fits_rule : (r : Rule) (s : Status) (round : ℕ) → FitsRule r s round (verdict_of r s round)
fits_rule rule.Free s round = tt
fits_rule (rule.Again on rounds) s round = refl

-- so it does at a return
fits : (o : Option InCallback) (r : Rule) → FitsReturn o r (verdict_by o r)
fits None r = refl
fits (Some x) r = fits_rule r x.status x.round

-- what is left of a plan may stand for these steps
pub may_expand_from : (setup : Setup) (s : Stage) (plan : List Plan) → ExpandsFrom setup s plan (expand_from setup s plan)
unfolding expand_from
may_expand_from setup s [] = refl
may_expand_from setup s (Do step ∷ plan) =
    let later : Stage = stage_after setup s (Do step) (step ∷ []) in
    (expand_from setup later plan, refl, may_expand_from setup later plan)
may_expand_from setup s (Return h n ∷ plan) =
    let later : Stage = stage_after setup s (Return h n) (steps_of setup s (Return h n)) in
    (verdict_by (returning s h n) (s.book h n), expand_from setup later plan, fits (returning s h n) (s.book h n), refl, may_expand_from setup later plan)

-- so may a plan
pub may_expand : (setup : Setup) (plan : List Plan) (rules : List Rule) → MayExpand setup plan rules
may_expand setup plan rules = may_expand_from setup (first_stage setup rules) plan

-- a rule that isn't Free
abbrev pub IsFixed : Rule → Type 0
IsFixed r = r ≢ rule.Free

-- rules of which none is
abbrev pub AreFixed : List Rule → Type 0
AreFixed rules = AllByRecursion IsFixed rules

-- a book of such rules
abbrev pub IsFixedBook : Book → Type 0
IsFixedBook book = (h n : ℕ) → IsFixed (book h n)

-- a callback that is called once isn't Free
pub fixed_once : IsFixed once_only
fixed_once e = cc

-- one of two rules
fixed_if : (c : Bool) (a b : Rule) → IsFixed a → IsFixed b → IsFixed (if c then a else b)
fixed_if true a b x y = x
fixed_if false a b x y = y

-- a book with one rule more
fixed_noted : (book : Book) (o : Option ℕ) (reply : Reply) (r : Rule) → IsFixedBook book → IsFixed r → IsFixedBook (noted_by book o reply r)
fixed_noted book (Some h) (Number n) r all fixed g k = fixed_if ((h == g) && (n == k)) r (book g k) fixed (all g k)
fixed_noted book _ _ r all fixed g k = all g k

-- the first of such rules
pub fixed_first : (rules : List Rule) → AreFixed rules → IsFixed (first_rule rules)
fixed_first [] all = fixed_once
fixed_first (r ∷ rules) all = all.0

-- the rule of the number that a piece may give
fixed_for : (book : Book) (rules : List Rule) (piece : Plan) → IsFixedBook book → AreFixed rules → IsFixed (rule_for book rules piece)
fixed_for book rules (Do step) noted all = fixed_if (is_submit step) (first_rule rules) once_only (fixed_first rules all) fixed_once
fixed_for book rules (Return h n) noted all = noted h n

-- the rules past the first
fixed_past : (c : Bool) (rules : List Rule) → AreFixed rules → AreFixed (rules_past c rules)
fixed_past true [] all = tt
fixed_past true (r ∷ rules) all = all.1
fixed_past false rules all = all

-- those that a piece leaves
pub fixed_left : (piece : Plan) (rules : List Rule) → AreFixed rules → AreFixed (rules_after piece rules)
fixed_left (Do step) rules all = fixed_past (is_submit step) rules all
fixed_left (Return h n) rules all = all

-- a stage at which no rule is Free
pub record IsFixedStage (s : Stage) : Type 0 where
  pub noted : IsFixedBook s.book
  pub coming : AreFixed s.rules

-- after a piece none is
pub fixed_after : (setup : Setup) (s : Stage) (piece : Plan) (steps : List Step) → IsFixedStage s → IsFixedStage (stage_after setup s piece steps)
unfolding stage_after
fixed_after setup s piece [] f = f
fixed_after setup s piece (step ∷ steps) f = record {
  noted = fixed_noted s.book (turn setup s.world step).entry.owner (turn setup s.world step).entry.reply (rule_for s.book s.rules piece) f.noted (fixed_for s.book s.rules piece f.noted f.coming);
  coming = fixed_left piece s.rules f.coming;
}

-- one verdict fits a rule that isn't Free
one_verdict : (r : Rule) (s : Status) (round : ℕ) (v : Verdict) → IsFixed r → FitsRule r s round v → v ≡ verdict_of r s round
one_verdict rule.Free s round v fixed e = absurd (fixed refl)
one_verdict (rule.Again on rounds) s round v fixed e = e

-- so it is at a return
pub one_return : (o : Option InCallback) (r : Rule) (v : Verdict) → IsFixed r → FitsReturn o r v → v ≡ verdict_by o r
one_return None r v fixed e = e
one_return (Some x) r v fixed e = one_verdict r x.status x.round v fixed e

-- what stands behind a return with this verdict
abbrev Rest : Setup → Stage → ℕ → ℕ → List Plan → List Step → Verdict → Type 0
Rest setup s h n plan steps v = (rest : List Step) × (steps ≡ return_steps setup s.world h n v ++ rest) × ExpandsFrom setup (stage_after setup s (Return h n) (return_steps setup s.world h n v)) plan rest

-- what is left of a plan stands for these steps alone
only_from : (setup : Setup) (s : Stage) (plan : List Plan) (steps : List Step) → IsFixedStage s → ExpandsFrom setup s plan steps → steps ≡ expand_from setup s plan
unfolding expand_from
only_from setup s [] steps f e = e
only_from setup s (Do step ∷ plan) steps f (rest, e, more) =
    e ∙ ap (λ xs. step ∷ xs) (only_from setup (stage_after setup s (Do step) (step ∷ [])) plan rest (fixed_after setup s (Do step) (step ∷ []) f) more)
only_from setup s (Return h n ∷ plan) steps f (v, rest, fit, e, more) =
    let here : List Step = steps_of setup s (Return h n) in
    let r : Rest setup s h n plan steps (verdict_by (returning s h n) (s.book h n)) =
    subst (Rest setup s h n plan steps) (one_return (returning s h n) (s.book h n) v (f.noted h n) fit) (rest, e, more) in
    r.1 ∙ ap (λ xs. here ++ xs) (only_from setup (stage_after setup s (Return h n) here) plan r.0 (fixed_after setup s (Return h n) here f) r.2)

-- so does a plan
pub expands_only : (setup : Setup) (plan : List Plan) (rules : List Rule) → ExpandsOnly setup plan rules
expands_only setup plan rules all steps e = only_from setup (first_stage setup rules) plan steps (record { noted = λ h n. fixed_once; coming = all }) e
