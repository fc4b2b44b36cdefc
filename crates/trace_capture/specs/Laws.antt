-- Laws of the bytes, and of the events of any run.
use Rattle.std.specs.Prelude.{◌≡◌, ℕ, ◌+◌, ◌^◌, ◌<◌, List, [], ◌∷◌, ◌++◌, length}
use Rattle.std.specs.List.{All, Contains}
use Rattle.trace_capture.specs.declared.identity.UrbId.{UrbId}
use Rattle.trace_capture.specs.declared.identity.UrbId.TheVariants.{Transfer, Control}
use Rattle.trace_capture.specs.declared.event.CaptureEvent.{CaptureEvent}
use Rattle.trace_capture.specs.declared.event.EventType.TheVariants.{Submission, Callback}
use Rattle.trace_capture.specs.Event.{event_bytes, id_number}
use Rattle.trace_capture.specs.Events.{Recording, DeviceLine, entry_events, entry_after, run_events}
use Rattle.usb_model.specs.declared.entry.Entry.{Entry}
use Rattle.usb_model.specs.declared.step.Step.TheVariants.{Answer}
use Rattle.usb_model.specs.declared.verdict.Verdict.TheVariants.{Stop, Again}
use Rattle.usb_model.specs.World.Journal.{Place}

-- a record has 80 bytes, and then those of its data
abbrev pub RecordsHaveLengths : Type 0
RecordsHaveLengths = (e : CaptureEvent) → length (event_bytes e) ≡ 80 + length e.bytes

-- each of them is below 256 where each of its data is
abbrev pub BytesAreBytes : Type 0
BytesAreBytes = (e : CaptureEvent) → All (λ b. b < 256) e.bytes → All (λ b. b < 256) (event_bytes e)

-- the ids that a run has: it has no 2^32 transfers of a handle, and no 2^31 lines
abbrev pub IsId : UrbId → Type 0
IsId (Transfer h n) = (h < 64) × (n < 2 ^ 32)
IsId (Control line second) = line < 2 ^ 31

-- two of them with one number are one
abbrev pub IdsDiffer : Type 0
IdsDiffer = (x y : UrbId) → IsId x → IsId y → id_number x ≡ id_number y → x ≡ y

-- a callback ends what a submission began: of the same transfer, at the same endpoint of the same device, with the same flags
pub record IsCallbackOf (s e : CaptureEvent) : Type 0 where
  pub began : s.event_type ≡ Submission
  pub id : e.id ≡ s.id
  pub device : e.device ≡ s.device
  pub kind : e.kind ≡ s.kind
  pub ep : e.ep ≡ s.ep
  pub flags : e.flags ≡ s.flags

-- a callback has its submission among the events in front of it
abbrev pub IsAnswer : List CaptureEvent → CaptureEvent → Type 0
IsAnswer front e = e.event_type ≡ Callback → (s : CaptureEvent) × Contains front s × IsCallbackOf s e

-- each of these events does, behind those in front
abbrev pub AreAnswers : List CaptureEvent → List CaptureEvent → Type 0
AreAnswers front [] = Unit {0}
AreAnswers front (e ∷ events) = IsAnswer front e × AreAnswers (front ++ e ∷ []) events

-- so it is in each run, whatever its devices, steps and entries are
abbrev pub CallbacksAnswer : Type 0
CallbacksAnswer = (devices : List DeviceLine) (places : List (ℕ × Place)) → AreAnswers [] (run_events devices places)

-- whether a callback ends or submits the same once more is told by the reply: with either verdict the events are the same, and what is kept
abbrev pub SameOfVerdicts : Type 0
SameOfVerdicts =
    (s : Recording) (line h n : ℕ) (entry : Entry)
    → (entry_events s line (Answer h n Stop) entry ≡ entry_events s line (Answer h n Again) entry) × (entry_after s (Answer h n Stop) entry ≡ entry_after s (Answer h n Again) entry)
