-- When a transfer is in its callback.
use Rattle.std.specs.Prelude.{◌≡◌, ℕ, ◌==◌, Bool, true, false, ◌&&◌, List, Option, Some, None, if◌then◌else◌}
use Rattle.usb_model.specs.declared.reply.Reply.{Reply}
use Rattle.usb_model.specs.declared.reply.Reply.TheVariants.{Called, Done, Number}
use Rattle.usb_model.specs.declared.reply.Returned.{Returned}
use Rattle.usb_model.specs.declared.result.InCallback.{InCallback}
use Rattle.usb_model.specs.declared.step.Step.{Step}
use Rattle.usb_model.specs.declared.step.Step.TheVariants.{Answer, Take}
use Rattle.usb_model.specs.declared.verdict.Verdict.{Verdict}
use Rattle.usb_model.specs.Machine.Calls.{callback_of}
use Rattle.usb_model.specs.Numbers.{takes_payload}
use Rattle.usb_model.specs.Setup.{Setup}
use Rattle.usb_model.specs.World.{World, new_world, turn, world_from}

-- the transfer of a name and a number, where it is in its callback
abbrev pub callback_at : World → (h n : ℕ) → Option InCallback
callback_at w h n = callback_of n (w.names h).in_callbacks

-- whether two pairs are the same: a name and a number
abbrev pub is_there : (h n g m : ℕ) → Bool
is_there h n g m = (h == g) && (n == m)

-- whether a step is a callback's verdict
abbrev pub is_answer : Step → Bool
is_answer (Answer h n verdict) = true
is_answer step = false

-- whether a step takes a result out to its callback, or is a callback's verdict
abbrev pub is_of_callback : Step → Bool
is_of_callback Take = true
is_of_callback step = is_answer step

-- whether a verdict with this reply ended its callback
abbrev pub ends_callback : Reply → Bool
ends_callback Done = true
ends_callback (Number n) = true
ends_callback reply = false

-- the world is one that a run leads to
abbrev pub IsReached : Setup → World → Type 0
IsReached setup w = (steps : List Step) × (w ≡ world_from setup (new_world setup) steps)

-- it has the round and the status that its callback is told
abbrev pub IsTold : Returned → InCallback → Type 0
IsTold r x = (x.round ≡ r.round) × (x.status ≡ r.status)

-- the callback that was called has the transfer of this name and number; all else is as before
pub record CallsBack (r : Returned) (old new : World) : Type 0 where
  pub its : (x : InCallback) × (callback_at new r.h r.n ≡ Some x) × IsTold r x
  pub others : (h n : ℕ) → is_there r.h r.n h n ≡ false → callback_at new h n ≡ callback_at old h n

-- the transfers in callbacks are as before
abbrev pub SameCallbacks : World → World → Type 0
SameCallbacks old new = (h n : ℕ) → callback_at new h n ≡ callback_at old h n

-- what a Take makes of the callbacks, by its reply
abbrev pub TakeCalls : Reply → World → World → Type 0
TakeCalls (Called r) old new = CallsBack r old new
TakeCalls reply old new = SameCallbacks old new

-- and what the verdict for a name and a number does. ends: whether it ended its callback
abbrev pub AnswerEnds : (ends : Bool) → (h n : ℕ) → World → World → Type 0
AnswerEnds true h n old new = (g m : ℕ) → callback_at new g m ≡ (if is_there h n g m then None else callback_at old g m)
AnswerEnds false h n old new = SameCallbacks old new

-- a transfer comes into its callback by a Take, with what its callback is told, and leaves it by a verdict; no other step touches it
pub record KeepsCallbacks (setup : Setup) (w : World) : Type 0 where
  pub takes : TakeCalls (turn setup w Take).entry.reply w (turn setup w Take).world
  pub answers : (h n : ℕ) (v : Verdict) → AnswerEnds (ends_callback (turn setup w (Answer h n v)).entry.reply) h n w (turn setup w (Answer h n v)).world
  pub others : (step : Step) → is_of_callback step ≡ false → SameCallbacks w (turn setup w step).world
  -- a number that is given is given to a submission, and in no callback
  pub fresh : (step : Step) (h n : ℕ) → (turn setup w step).entry.owner ≡ Some h → (turn setup w step).entry.reply ≡ Number n → (takes_payload step ≡ true) × (callback_at w h n ≡ None)
