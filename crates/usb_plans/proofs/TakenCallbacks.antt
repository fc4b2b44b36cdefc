-- The callbacks that are left, taken by the submissions of a plan.
use Rattle.std.proofs.Common.{◌≡◌, ℕ, ◌+◌, Bool, true, false, List, [], ◌∷◌, length, map, Option, refl, ap, sym, ◌∙◌, subst, arith}
use Rattle.std.specs.Prelude.{if◌then◌else◌, is_some}
use Rattle.std.specs.List.{count_by}
use Rattle.usb_model.specs.declared.plan.Plan.{Plan}
use Rattle.usb_model.specs.declared.plan.Plan.TheVariants.{Do, Return}
use Rattle.usb_model.specs.declared.verdict.Rule.{Rule}
use Rattle.usb_model.specs.World.Plans.{first_rule, is_submission, rules_after, rules_past}
use Rattle.proof_model.proofs.Lists.Times.{count-cons}
use Rattle.usb_plans.specs.Drives.{TakesNext}
use Rattle.usb_plans.specs.PlanRuns.{IsUnder}

-- a piece with these behind it, of which this many submit
counted : (piece : Plan) (rest : List Plan) → count_by is_submission (piece ∷ rest) ≡ (if is_submission piece then 1 else 0) + count_by is_submission rest
counted piece rest = count-cons is_submission piece rest

module _ {P : Type 0} (rule : P → Rule) where
  -- a piece took its callback: one of the first rule, where it submits; more: those that are left to the submissions behind it
  pub record Takes (rules : List Rule) (piece : Plan) (rest : List Plan) (callback : Option P) (more : List P) : Type 0 where
    pub under : is_submission piece ≡ true → IsUnder rule (first_rule rules) callback
    pub left : rules_after piece rules ≡ map rule more
    pub enough : length more ≡ count_by is_submission rest

  -- where there is one for each submission, a piece takes its callback
  pub takes : (rules : List Rule) (piece : Plan) (rest : List Plan) (left more : List P) (callback : Option P) → rules ≡ map rule left → length left ≡ count_by is_submission (piece ∷ rest) → TakesNext (is_submission piece) left more callback
      → Takes rules piece rest callback more
  takes rules piece rest left more callback are enough next = record { under = taken.0; left = left_over piece ∙ taken.1; enough = taken.2 }
    where
      IsTaken : Bool → Type 0
      IsTaken b = (b ≡ true → IsUnder rule (first_rule rules) callback) × (rules_past b rules ≡ map rule more) × (length more ≡ count_by is_submission rest)

      by_first : (l : List P) → rules ≡ map rule l → length l ≡ 1 + count_by is_submission rest → TakesNext true l more callback → IsTaken true
      by_first [] are enough t = absurd (omega (arith, enough))
      by_first (c ∷ cs) are enough (out, cs_is) = (
        (λ e. subst (IsUnder rule (first_rule rules)) (sym out) (sym (ap first_rule are))),
        ap (rules_past true) are ∙ ap (map rule) (sym cs_is),
        ap length cs_is ∙ omega (arith, enough),
      )

      by_submits : (b : Bool) → length left ≡ (if b then 1 else 0) + count_by is_submission rest → TakesNext b left more callback → IsTaken b
      by_submits true enough t = by_first left are enough t
      by_submits false enough t = ((λ e. absurd cc), are ∙ ap (map rule) (sym t.1), omega (arith, ap length t.1, enough))

      taken : IsTaken (is_submission piece)
      taken = by_submits (is_submission piece) (enough ∙ counted piece rest) next

      left_over : (p : Plan) → rules_after p rules ≡ rules_past (is_submission p) rules
      left_over (Do step) = refl
      left_over (Return h n) = refl

  -- it has one, where it submits
  pub has_one : (piece : Plan) (rest : List Plan) (left more : List P) (callback : Option P) → length left ≡ count_by is_submission (piece ∷ rest) → TakesNext (is_submission piece) left more callback → is_submission piece ≡ true → is_some callback ≡ true
  has_one piece rest left more callback enough next submits = by_left left enough (subst (λ b. TakesNext b left more callback) submits next)
    where
      by_left : (l : List P) → length l ≡ count_by is_submission (piece ∷ rest) → TakesNext true l more callback → is_some callback ≡ true
      by_left [] enough t = let one : ◌≡◌ {A = ℕ} (if is_submission piece then 1 else 0) 1 = ap (λ (b : Bool). if b then 1 else 0) submits in absurd (omega (arith, enough, counted piece rest, one))
      by_left (c ∷ cs) enough t = ap (λ o. is_some o) t.0
