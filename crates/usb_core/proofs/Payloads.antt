-- What is kept with transfers, over a call and over a step.
use Rattle.std.proofs.Common.{◌≡◌, ℕ, Bool, true, false, Option, Some, Result, Ok, Err, IfErr, IfOk, OnErr, sym, ap, subst, ◌∙◌}
use Rattle.usb_model.specs.declared.entry.Entry.{Entry}
use Rattle.usb_model.specs.declared.step.Step.{Step}
use Rattle.usb_model.specs.Numbers.{takes_payload}
use Rattle.usb_core.specs.declared.submission.SubmitError.{SubmitError}
use Rattle.refine_core.specs.Payloads.{Carries, CarriesMore, Kept, StillCarries}
use Rattle.refine_core.specs.State.{State}
use Rattle.usb_core.specs.Steps.{answered, kept_after, kept_by, turned_down}
use Rattle.usb_core.proofs.Turns.{turned_down_err, turned_down_ok}

module _ {P : Type 0} where
  -- a step that takes no payload, by other names for what it is
  pub as_still : (old new other : State P) (step its : Step) (entry : Entry) (given : Option P) → step ≡ its → takes_payload its ≡ false → new ≡ other → StillCarries old other → (kept : Kept P) → Carries kept old → Carries (kept_after kept step entry given) new
  as_still old new other step its entry given step_is takes new_is still kept carried =
      subst (λ (b : Bool). Carries (kept_by kept b entry.owner entry.reply given) new) (sym (ap takes_payload step_is ∙ takes)) (subst (λ (s : State P). Carries kept s) (sym new_is) (still kept carried))

-- what holds of whatever is given holds of what is given
pub if_ok : {A E : Type 0} (Q : A → Type 0) (r : Result A E) → ((x : A) → Q x) → IfOk r Q
if_ok Q (Ok x) all = all x
if_ok Q (Err e) all = tt

module _ {P : Type 0} (old new : State P) (h : ℕ) where
  -- what is kept after a submission of name h that took this
  abbrev After : P → Entry → Type 0
  After payload entry = (kept : Kept P) → Carries kept old → Carries (kept_by kept true entry.owner entry.reply (Some payload)) new

  -- what it gave says where it is kept
  pub answered_carries : {G : Type 0} → (payload : P) (r : Result ℕ (SubmitError G P)) → IfErr r (λ x. x.payload ≡ payload) → IfOk r (λ n. CarriesMore h n payload old new) → OnErr r (StillCarries old new) → IfOk (answered h r) (λ x. After payload x.entry)
  answered_carries payload (Ok n) back more still = more
  answered_carries payload (Err x) back more still = subst (λ (p : P). IfOk (turned_down h x.why x.payload) (λ y. After p y.entry)) back (turned_down_ok h (After x.payload) x.why x.payload (λ _. still))

  -- where it gave nothing, nothing of it changed
  pub answered_still : {G : Type 0} → (r : Result ℕ (SubmitError G P)) → OnErr r (StillCarries old new) → OnErr (answered h r) (StillCarries old new)
  answered_still (Ok n) still = tt
  answered_still (Err x) still = turned_down_err h (StillCarries old new) x.why x.payload still
