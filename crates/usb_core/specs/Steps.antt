-- What comes of a step, whichever it is.
use Rattle.std.specs.Prelude.{◌≡◌, ℕ, Bool, true, false, List, [], ◌∷◌, ◌++◌, Option, Some, None, Result, Ok, Err, option_map, slice_get}
use Rattle.usb_model.specs.declared.entry.Entry.{Entry}
use Rattle.usb_model.specs.declared.refused.Refused.{Refused}
use Rattle.usb_model.specs.declared.refused.Refused.TheVariants.{NoMem}
use Rattle.usb_model.specs.declared.reply.Reply.{Reply}
use Rattle.usb_model.specs.declared.reply.Reply.TheVariants.{Called, Number, Refused as IsRefused}
use Rattle.usb_model.specs.declared.step.Step.{Step}
use Rattle.usb_model.specs.declared.step.Step.TheVariants.{Take}
use Rattle.usb_model.specs.Numbers.{takes_payload}
use Rattle.usb_core.specs.declared.submission.SubmitError.{SubmitError}
use Rattle.refine_core.specs.Payloads.{Kept, kept_with}
use Rattle.refine_core.specs.State.{State}
use Rattle.refine_core.specs.Steps.{TurnsWorld}
use Rattle.usb_core.specs.declared.step.NoMemory.{NoMemory}
use Rattle.usb_core.specs.declared.step.Stepped.{Stepped}

-- P: what callers keep with their transfers
module _ {P : Type 0} where
  -- what is handed out with the result that waits first
  abbrev pub first_payload : State P → Option P
  first_payload s = option_map (λ x. x.transfer.payload) (slice_get s.flights.ended 0)

  -- what a step hands out
  abbrev pub handed_out : State P → Step → Option P
  handed_out s Take = first_payload s
  handed_out s step = None

  -- what is left of what was given with a step: nothing where its transfer has a number. takes: whether the step takes it
  abbrev pub left_over : (takes : Bool) → Reply → Option P → Option P
  left_over false reply given = given
  left_over true (Number n) given = None
  left_over true reply given = given

  -- what is kept after a call: what it took (takes: whether it takes a payload) is kept under its caller's name and the number that it gives
  abbrev pub kept_by : Kept P → (takes : Bool) → (owner : Option ℕ) → Reply → Option P → Kept P
  kept_by kept true (Some h) (Number n) (Some payload) = kept_with kept h n payload
  kept_by kept takes owner reply given = kept

  -- what is kept after a step with this entry
  abbrev pub kept_after : Kept P → Step → Entry → Option P → Kept P
  kept_after kept step entry given = kept_by kept (takes_payload step) entry.owner entry.reply given

  -- what is handed out, if something is, is what is kept under the name and the number that the callback is given
  abbrev pub GoesOut : Kept P → Option P → Reply → Type 0
  GoesOut kept None reply = Unit {0}
  GoesOut kept (Some payload) (Called r) = kept r.h r.n ≡ Some payload
  GoesOut kept (Some payload) reply = ⊥

  -- a submission of name h was refused for this
  abbrev pub turned_down : ℕ → Refused → P → Result (Stepped P) (NoMemory P)
  turned_down h NoMem payload = Err (record { payload = Some payload })
  turned_down h why payload = Ok (record { entry = record { owner = Some h; reply = IsRefused why }; out = None; back = Some payload })

  -- what a submission of name h gave, whatever it was to send
  abbrev pub answered : {G : Type 0} → ℕ → Result ℕ (SubmitError G P) → Result (Stepped P) (NoMemory P)
  answered h (Ok n) = Ok (record { entry = record { owner = Some h; reply = Number n }; out = None; back = None })
  answered h (Err x) = turned_down h x.why x.payload

  -- a step was made, and its entry stands behind those before
  abbrev pub Advances : (old : State P) → Step → (new : State P) → (before after : List Entry) → Type 0
  Advances old step new before after = (entry : Entry) × (after ≡ before ++ entry ∷ []) × TurnsWorld old step entry new
