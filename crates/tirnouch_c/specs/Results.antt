-- What is said of results.
use Rattle.std.specs.Prelude.{◌≡◌, ℕ, ℤ, pos, List, [], Option, Some, None}
use Rattle.usb_core.specs.Public.{Carries, Kept, ShowsWorld, State, StillCarries, TurnsWorld, called_entry}
use Rattle.usb_core.specs.declared.results.Taken.{Taken}
use Rattle.usb_model.specs.declared.step.Step.TheVariants.{Answer, Take}
use Rattle.usb_model.specs.declared.verdict.Verdict.TheVariants.{Stop}
use Rattle.usb_model.specs.Setup.{Setup}
use Rattle.usb_model.specs.World.{World, turn}
use Rattle.tirnouch_c.specs.declared.results.TakenResult.{TakenResult}
use Rattle.tirnouch_c.specs.declared.session.Session.{Session}
use Rattle.tirnouch_c.specs.Buffers.{answer_of, filled, taken_count}
use Rattle.tirnouch_c.specs.Lent.{BytesGo}
use Rattle.tirnouch_c.specs.Replies.{nobody, status_number}
use Rattle.tirnouch_c.specs.declared.lent_memory.LentMemory.{LentMemory}

-- what is answered where a result is asked for: 0 where none waits, 1 where one goes out
abbrev pub went_number : Option (Taken ℕ) → ℤ
went_number None = pos 0
went_number (Some taken) = pos 1

-- a result in numbers, with what was kept with it
abbrev pub result_numbers : Taken ℕ → TakenResult
result_numbers x = record {
  handle = x.returned.h;
  endpoint = x.returned.ep;
  status = status_number x.returned.status;
  actual_length = x.returned.actual;
  number = x.returned.n;
  payload = x.payload;
}

abbrev pub no_result : TakenResult
no_result = record { handle = nobody; endpoint = 0; status = 0; actual_length = 0; number = 0; payload = 0 }

-- what it was that went out
abbrev pub went_numbers : Option (Taken ℕ) → TakenResult
went_numbers None = no_result
went_numbers (Some taken) = result_numbers taken

-- the world behind a result that goes out, and whose callback ends at once
abbrev pub out_and_ended : Setup → World → (h n : ℕ) → World
out_and_ended setup w h n = (turn setup (turn setup w Take).world (Answer h n Stop)).world

-- a result went out: the oldest; its callback ended, and what was kept under its handle and number came out with it
pub record GoesOut (x : Taken ℕ) (s t : State ℕ) : Type 0 where
  pub oldest : (setup : Setup) (w : World) → ShowsWorld setup s w → (turn setup w Take).entry ≡ called_entry (Some x.returned)
  pub shows : (setup : Setup) (w : World) → ShowsWorld setup s w → ShowsWorld setup t (out_and_ended setup w x.returned.h x.returned.n)
  pub its : (kept : Kept ℕ) → Carries kept s → kept x.returned.h x.returned.n ≡ Some x.payload
  pub carries : StillCarries s t

-- the same of a session, and of a result that may not be there: nothing changes then
abbrev pub TakesAs : Option (Taken ℕ) → (old new : LentMemory) → (s t : Session) → Type 0
TakesAs None old new s t = TurnsWorld s.core Take (called_entry None) t.core × (new ≡ old) × (t ≡ s)
TakesAs (Some x) old new s t = GoesOut x s.core t.core × BytesGo x t.out old new × (t.devices ≡ s.devices)

pub record Takes (answer : ℤ) (out : TakenResult) (old new : LentMemory) (s t : Session) : Type 0 where
  pub went : Option (Taken ℕ)
  pub answered : answer ≡ went_number went
  pub out_is : out ≡ went_numbers went
  pub made : TakesAs went old new s t

-- the bytes that are to be fetched
abbrev pub bytes_out : Option (Taken ℕ) → List ℕ
bytes_out None = []
bytes_out (Some x) = x.returned.bytes

-- they are in the buffer, as far as there is room, and can't be fetched again
pub record Fetches (answer : ℤ) (old new : List ℕ) (s t : Session) : Type 0 where
  pub answered : answer ≡ answer_of (taken_count (bytes_out s.out) old)
  pub bytes : new ≡ filled (bytes_out s.out) old
  pub out : t.out ≡ None
  pub core : t.core ≡ s.core
  pub devices : t.devices ≡ s.devices
