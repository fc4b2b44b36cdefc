-- A call that may be refused, by its result.
use Rattle.std.proofs.Common.{◌≡◌, ℕ, Some, Result, Ok, Err, IfErr, IfOk, OnErr, subst}
use Rattle.usb_model.specs.declared.entry.Entry.{Entry}
use Rattle.usb_model.specs.declared.refused.Refused.{Refused}
use Rattle.usb_model.specs.declared.refused.Refused.TheVariants.{Busy, HeldElsewhere, InvalidParam, NoDevice, NoMem, NotFound, NotSupported}
use Rattle.usb_model.specs.declared.reply.Reply.TheVariants.{Number, Refused as IsRefused}
use Rattle.usb_model.specs.declared.step.Step.{Step}
use Rattle.usb_core.specs.declared.submission.SubmitError.{SubmitError}
use Rattle.refine_core.specs.Calls.{Stays}
use Rattle.refine_core.specs.State.{IsState, State}
use Rattle.refine_core.specs.Steps.{DoesCoreStep, TurnsWorld}
use Rattle.refine_core.proofs.Turns.{shows_again, turns}
use Rattle.usb_core.specs.Steps.{answered, turned_down}

module _ {P : Type 0} where
  -- where nothing changed that anybody sees, the world is shown as before
  pub stays_shown : (old new : State P) → Stays old new → IsState old → IsState new
  stays_shown old new stays is = (is.0, is.1, (is.2.0, stays is.0 is.2.0 is.2.1, is.2.2))

module _ {P A E : Type 0} (old new : State P) (step : Step) where
  -- where it is accepted it is a turn
  pub turns_if : (r : Result A E) (entry : A → Entry) → IfOk r (λ x. DoesCoreStep old step (entry x) new) → IfOk r (λ x. TurnsWorld old step (entry x) new)
  turns_if (Ok x) entry does = turns old new step (entry x) does
  turns_if (Err e) entry does = tt

  -- where it is refused for this
  pub turns_unless : (r : Result A E) (entry : E → Entry) (For : E → Type 0) → IfErr r (λ x. For x → DoesCoreStep old step (entry x) new) → IfErr r (λ x. For x → TurnsWorld old step (entry x) new)
  turns_unless (Ok x) entry For does = tt
  turns_unless (Err e) entry For does = λ why. turns old new step (entry e) (does why)

  -- in any case some world is shown
  pub shown_either : (r : Result A E) (entry : A → Entry) → IfOk r (λ x. DoesCoreStep old step (entry x) new) → OnErr r (Stays old new) → IsState old → IsState new
  shown_either (Ok x) entry does stays is = shows_again old new step (entry x) does is
  shown_either (Err e) entry does stays is = stays_shown old new stays is

-- no other cause is want of memory
abbrev Other : Refused → Type 0
Other NoMem = ⊥
Other why = Unit {0}

module _ {P : Type 0} (h : ℕ) where
  -- what holds of each refusal but want of memory holds of what was turned down
  pub turned_down_ok : (Q : Entry → Type 0) (why : Refused) (payload : P) → ((why ≡ NoMem → ⊥) → Q (record { owner = Some h; reply = IsRefused why })) → IfOk (turned_down h why payload) (λ x. Q x.entry)
  turned_down_ok Q InvalidParam payload it = it (λ is. subst Other is tt)
  turned_down_ok Q NoDevice payload it = it (λ is. subst Other is tt)
  turned_down_ok Q NotFound payload it = it (λ is. subst Other is tt)
  turned_down_ok Q Busy payload it = it (λ is. subst Other is tt)
  turned_down_ok Q HeldElsewhere payload it = it (λ is. subst Other is tt)
  turned_down_ok Q NoMem payload it = tt
  turned_down_ok Q NotSupported payload it = it (λ is. subst Other is tt)

  -- and what holds anyway holds at want of memory
  pub turned_down_err : (A : Type 0) (why : Refused) (payload : P) → A → OnErr (turned_down h why payload) A
  turned_down_err A InvalidParam payload it = tt
  turned_down_err A NoDevice payload it = tt
  turned_down_err A NotFound payload it = tt
  turned_down_err A Busy payload it = tt
  turned_down_err A HeldElsewhere payload it = tt
  turned_down_err A NoMem payload it = it
  turned_down_err A NotSupported payload it = tt

module _ {P : Type 0} where
  -- a turn by other names for what it is of
  pub as_turn : (old new other : State P) (step its : Step) (entry told : Entry) → step ≡ its → entry ≡ told → new ≡ other → TurnsWorld old its told other → TurnsWorld old step entry new
  as_turn old new other step its entry told step_is entry_is new_is turn = rw (step_is, entry_is, new_is) turn

module _ {P : Type 0} (old new : State P) (step : Step) (h : ℕ) where
  -- what a submission gave is a turn, but for want of memory
  pub answered_turns : {G : Type 0} → (r : Result ℕ (SubmitError G P)) → IfOk r (λ n. TurnsWorld old step (record { owner = Some h; reply = Number n }) new)
      → IfErr r (λ x. (x.why ≡ NoMem → ⊥) → TurnsWorld old step (record { owner = Some h; reply = IsRefused x.why }) new) → IfOk (answered h r) (λ x. TurnsWorld old step x.entry new)
  answered_turns (Ok n) accepted refused = accepted
  answered_turns (Err x) accepted refused = turned_down_ok h (λ e. TurnsWorld old step e new) x.why x.payload refused

  -- where it gave nothing, nothing changed
  pub answered_stays : {G : Type 0} → (r : Result ℕ (SubmitError G P)) → OnErr r (Stays old new) → OnErr (answered h r) (Stays old new)
  answered_stays (Ok n) kept = tt
  answered_stays (Err x) kept = turned_down_err h (Stays old new) x.why x.payload kept
