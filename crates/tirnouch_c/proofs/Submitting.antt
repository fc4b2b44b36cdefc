-- What a submission gave, as it is told.
use Rattle.std.proofs.Common.{◌≡◌, ℕ, Some, Result, Ok, Err, IfErr, IfOk, OnErr, sym, subst}
use Rattle.usb_core.specs.Public.{CarriesMore, State, Stays, StillCarries, TurnsWorld}
use Rattle.usb_core.specs.declared.submission.SubmitError.{SubmitError}
use Rattle.usb_model.specs.declared.refused.Refused.{Refused}
use Rattle.usb_model.specs.declared.refused.Refused.TheVariants.{Busy, HeldElsewhere, InvalidParam, NoDevice, NoMem, NotFound, NotSupported}
use Rattle.usb_model.specs.declared.reply.Reply.{Reply}
use Rattle.usb_model.specs.declared.reply.Reply.TheVariants.{Number, Refused as IsRefused}
use Rattle.usb_model.specs.declared.request.Request.{Request}
use Rattle.usb_model.specs.declared.step.Step.TheVariants.{Submit}
use Rattle.tirnouch_c.specs.Submission.{SubmitsAs}

-- no other cause is want of memory
abbrev Other : Refused → Type 0
Other NoMem = ⊥
Other why = Unit {0}

module _ (h : ℕ) (request : Request) (payload : ℕ) (s t : State ℕ) where
  refused_as : (why : Refused) → ((why ≡ NoMem → ⊥) → TurnsWorld s (Submit h request) (record { owner = Some h; reply = IsRefused why }) t) → Stays s t → StillCarries s t → SubmitsAs h request payload (IsRefused why) s t
  refused_as InvalidParam turn stays still = (turn (λ is. subst Other is tt), still)
  refused_as NoDevice turn stays still = (turn (λ is. subst Other is tt), still)
  refused_as NotFound turn stays still = (turn (λ is. subst Other is tt), still)
  refused_as Busy turn stays still = (turn (λ is. subst Other is tt), still)
  refused_as HeldElsewhere turn stays still = (turn (λ is. subst Other is tt), still)
  refused_as NoMem turn stays still = (stays, still)
  refused_as NotSupported turn stays still = (turn (λ is. subst Other is tt), still)

  -- accepted
  pub accepted_as : {G : Type 0} (r : Result ℕ (SubmitError G ℕ)) (n : ℕ) (reply : Reply) → r ≡ Ok n → reply ≡ Number n → IfOk r (λ k. TurnsWorld s (Submit h request) (record { owner = Some h; reply = Number k }) t)
      → IfOk r (λ k. CarriesMore h k payload s t) → SubmitsAs h request payload reply s t
  accepted_as (Ok k) n reply is told turn carries =
      let same : reply ≡ Number k = cc in
      subst (λ (x : Reply). SubmitsAs h request payload x s t) (sym same) (turn, carries)
  accepted_as (Err x) n reply is told turn carries = absurd cc

  -- or refused
  pub unaccepted_as : {G : Type 0} (r : Result ℕ (SubmitError G ℕ)) (x : SubmitError G ℕ) (reply : Reply) → r ≡ Err x → reply ≡ IsRefused x.why
      → IfErr r (λ y. (y.why ≡ NoMem → ⊥) → TurnsWorld s (Submit h request) (record { owner = Some h; reply = IsRefused y.why }) t) → OnErr r (Stays s t) → OnErr r (StillCarries s t)
      → SubmitsAs h request payload reply s t
  unaccepted_as (Ok k) x reply is told turn stays still = absurd cc
  unaccepted_as (Err y) x reply is told turn stays still =
      let same : reply ≡ IsRefused y.why = cc in
      subst (λ (z : Reply). SubmitsAs h request payload z s t) (sym same) (refused_as y.why turn stays still)
