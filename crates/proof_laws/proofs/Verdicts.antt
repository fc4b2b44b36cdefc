-- A verdict is always the step of its handle alone.
use Rattle.std.proofs.Common.{◌≡◌, ℕ, ◌==◌, false, inl, inr, Option, Some, refl, sym, subst}
use Rattle.std.proofs.lemmas.Bool.{eqb-false}
use Rattle.usb_model.specs.declared.step.Step.TheVariants.{Answer}
use Rattle.usb_model.specs.declared.verdict.Verdict.{Verdict}
use Rattle.usb_model.specs.Setup.{Setup}
use Rattle.usb_model.specs.World.{World, machine_of, turn}
use Rattle.proof_model.proofs.Handles.Isolation.{IsOwnTurn, IsNothing, IsEither, turn_free, free_own, turn_to}
use Rattle.proof_laws.proofs.UnblockedSteps.{gentle_else}

-- it is its handle's own
pub answer_own : (setup : Setup) (h : ℕ) (w : World) (n : ℕ) (v : Verdict) → IsOwnTurn setup h w (Answer h n v) (turn setup w (Answer h n v))
unfolding turn
answer_own setup h w n v =
    subst (IsOwnTurn setup h w (Answer h n v)) (sym (turn_free setup h w (Answer h n v) (gentle_else setup h w (machine_of setup h w) (Answer h n v) refl)))
    (free_own setup h w (Answer h n v) refl)

-- and nothing to another
pub answer_others : (setup : Setup) (g h : ℕ) (w : World) (n : ℕ) (v : Verdict) → (g == h) ≡ false → IsNothing setup h w (Answer g n v) (turn setup w (Answer g n v))
answer_others setup g h w n v differ = by_turn (turn_to setup h w (Answer g n v))
  where
    same_some : (a b : ℕ) → ◌≡◌ {A = Option ℕ} (Some a) (Some b) → a ≡ b
    same_some a b e = cc

    by_turn : IsEither setup h w (Answer g n v) (turn setup w (Answer g n v)) → IsNothing setup h w (Answer g n v) (turn setup w (Answer g n v))
    by_turn (inl o) = absurd (eqb-false g h differ (same_some g h (o.0 refl)))
    by_turn (inr x) = x
