-- The submissions of a plan, each by its handle and rule, piece by piece.
use Rattle.std.proofs.Common.{◌≡◌, ℕ, zero, suc, List, [], ◌∷◌, ◌++◌, slice_get, Some, refl, sym, subst}
use Rattle.usb_model.specs.declared.plan.Plan.{Plan}
use Rattle.usb_model.specs.declared.plan.Plan.TheVariants.{Do, Return}
use Rattle.usb_model.specs.declared.request.Request.{Request}
use Rattle.usb_model.specs.declared.step.Step.TheVariants as step
use Rattle.usb_model.specs.declared.verdict.Rule.{Rule}
use Rattle.usb_model.specs.World.Plans.{first_rule, once_only, rules_after}
use Rattle.trace_threads.specs.Verdicts.{AreGiven, IsRuleOf, ruled}

-- those of a piece, and behind them those of the plan's rest
ruled_on : (piece : Plan) (plan : List Plan) (rules : List Rule) → ruled (piece ∷ plan) rules ≡ ruled (piece ∷ []) rules ++ ruled plan (rules_after piece rules)
unfolding ruled
ruled_on (Return h n) plan rules = refl
ruled_on (Do (step.Submit h request)) plan [] = refl
ruled_on (Do (step.Submit h request)) plan (rule ∷ rules) = refl
ruled_on (Do (step.Open h dev)) plan rules = refl
ruled_on (Do (step.Close h)) plan rules = refl
ruled_on (Do (step.Claim h i)) plan rules = refl
ruled_on (Do (step.Release h i)) plan rules = refl
ruled_on (Do (step.Reset h)) plan rules = refl
ruled_on (Do (step.ClearHalt h ep)) plan rules = refl
ruled_on (Do (step.Cancel h n)) plan rules = refl
ruled_on (Do (step.Expire h n)) plan rules = refl
ruled_on (Do (step.Serve dev ep)) plan rules = refl
ruled_on (Do step.Command) plan rules = refl
ruled_on (Do step.Deliver) plan rules = refl
ruled_on (Do step.Take) plan rules = refl
ruled_on (Do (step.Answer h n v)) plan rules = refl
ruled_on (Do (step.Unplug dev)) plan rules = refl

left_of : (xs ys : List (ℕ × Rule)) (x : ℕ × Rule) (i : ℕ) → slice_get xs i ≡ Some x → slice_get (xs ++ ys) i ≡ Some x
left_of [] ys x i e = absurd cc
left_of (y ∷ xs) ys x zero e = e
left_of (y ∷ xs) ys x (suc i) e = left_of xs ys x i e

right_of : (xs ys : List (ℕ × Rule)) (h : ℕ) (rule : Rule) → IsRuleOf ys h rule → IsRuleOf (xs ++ ys) h rule
right_of [] ys h rule is = is
right_of (x ∷ xs) ys h rule is = let there = right_of xs ys h rule is in (suc there.0, there.1)

-- where those of a plan are given, so are those of its first piece, and those of its rest
pub of_piece : (given : List (ℕ × Rule)) (piece : Plan) (plan : List Plan) (rules : List Rule) → AreGiven given (ruled (piece ∷ plan) rules) → AreGiven given (ruled (piece ∷ []) rules)
of_piece given piece plan rules are h rule is =
    are h rule (subst (λ l. IsRuleOf l h rule) (sym (ruled_on piece plan rules)) (is.0, left_of (ruled (piece ∷ []) rules) (ruled plan (rules_after piece rules)) (h, rule) is.0 is.1))

pub of_rest : (given : List (ℕ × Rule)) (piece : Plan) (plan : List Plan) (rules : List Rule) → AreGiven given (ruled (piece ∷ plan) rules) → AreGiven given (ruled plan (rules_after piece rules))
of_rest given piece plan rules are h rule is =
    are h rule (subst (λ l. IsRuleOf l h rule) (sym (ruled_on piece plan rules)) (right_of (ruled (piece ∷ []) rules) (ruled plan (rules_after piece rules)) h rule is))

-- of a submission that is given the first rule is one of its handle's
pub of_submission : (given : List (ℕ × Rule)) (h : ℕ) (request : Request) (rules : List Rule) → AreGiven given (ruled (Do (step.Submit h request) ∷ []) rules) → IsRuleOf given h (first_rule rules)
unfolding ruled
of_submission given h request [] are = are h once_only (0, refl)
of_submission given h request (rule ∷ rules) are = are h rule (0, refl)
