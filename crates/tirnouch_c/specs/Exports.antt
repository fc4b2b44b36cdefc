-- What the exports say that make and free sessions, and that take numbers of any kind.
use Rattle.std.specs.Prelude.{◌≡◌, ℕ, ℤ, pos, negsuc, ◌==◌, nat_lt, not, List, Option, Some, None, Err, if◌then◌else◌}
use Rattle.usb_devicetext.specs.DeviceText.{desk_of}
use Rattle.tirnouch_c.specs.declared.complaints.TextComplaint.{TextComplaint}
use Rattle.tirnouch_c.specs.declared.lent_memory.LentMemory.{LentMemory}
use Rattle.tirnouch_c.specs.declared.replies.StepReply.{StepReply}
use Rattle.tirnouch_c.specs.declared.results.TakenResult.{TakenResult}
use Rattle.tirnouch_c.specs.declared.session.Session.{Session}
use Rattle.tirnouch_c.specs.declared.settling.SettleProgress.{SettleProgress}
use Rattle.tirnouch_c.specs.Calls.{no_session, out_of_range}
use Rattle.tirnouch_c.specs.Complaints.{line_numbers}
use Rattle.tirnouch_c.specs.Packets.{Serves}
use Rattle.tirnouch_c.specs.Sessions.{IsMade}
use Rattle.tirnouch_c.specs.Settling.{Settles}
use Rattle.tirnouch_c.specs.Turn.{Works}

-- what came of making a session: there is one; a line isn't taken; no memory; there was one already
pub data Made : Type 0 where
  Session-made : Made
  Line : ℕ → Made
  NoMemory : Made
  Full : Made

abbrev pub made_number : Made → ℤ
made_number Session-made = pos 0
made_number (Line n) = negsuc 1
made_number NoMemory = negsuc 10
made_number Full = negsuc 5

abbrev pub CreatesBy : Made → List ℕ → TextComplaint → (old new : Option Session) → Type 0
CreatesBy Session-made text complaint None (Some s) = IsMade text s
CreatesBy Session-made text complaint old new = ⊥
CreatesBy (Line n) text complaint old new = (desk_of text ≡ Err n) × (complaint ≡ line_numbers n) × (old ≡ None) × (new ≡ None)
CreatesBy NoMemory text complaint old new = (old ≡ None) × (new ≡ None)
CreatesBy Full text complaint None new = ⊥
CreatesBy Full text complaint (Some s) new = new ≡ Some s

pub record Creates (text : List ℕ) (answer : ℤ) (complaint : TextComplaint) (old new : Option Session) : Type 0 where
  pub made : Made
  pub answered : answer ≡ made_number made
  pub is : CreatesBy made text complaint old new

-- a session is freed, if there is one
abbrev pub Destroys : ℤ → (old new : Option Session) → Type 0
Destroys answer None new = (new ≡ None) × (answer ≡ no_session)
Destroys answer (Some s) new = (new ≡ None) × (answer ≡ pos 0)

-- the device of a number, 0 to 3
abbrev pub device_by : ℕ → Option ℕ
device_by dev = if nat_lt dev 4 then Some dev else None

-- packets at an endpoint, of a number that may be no device's
abbrev pub ServesIf : Option ℕ → (ep most : ℕ) → ℤ → StepReply → (s t : Session) → Type 0
ServesIf None ep most answer reply s t = (answer ≡ out_of_range) × (t ≡ s)
ServesIf (Some dev) ep most answer reply s t = (answer ≡ pos 0) × Serves dev ep most reply s t

abbrev pub ServesBy : (dev ep most : ℕ) → ℤ → StepReply → (s t : Session) → Type 0
ServesBy dev ep most answer reply s t = ServesIf (device_by dev) ep most answer reply s t

-- what is to be done, with packets where this isn't 0
abbrev pub SettlesBy : (packets most : ℕ) → ℤ → SettleProgress → (s t : Session) → Type 0
SettlesBy packets most answer progress s t = (answer ≡ pos 0) × Settles (not (packets == 0)) most progress s t

-- packets, what is to be done and the oldest result, of a number that may be no device's
abbrev pub WorksIf : Option ℕ → (ep packets steps : ℕ) → ℤ → TakenResult → (old new : LentMemory) → (s t : Session) → Type 0
WorksIf None ep packets steps answer out old new s t = (answer ≡ out_of_range) × (new ≡ old) × (t ≡ s)
WorksIf (Some dev) ep packets steps answer out old new s t = Works dev ep packets steps answer out old new s t

abbrev pub WorksBy : (dev ep packets steps : ℕ) → ℤ → TakenResult → (old new : LentMemory) → (s t : Session) → Type 0
WorksBy dev ep packets steps answer out old new s t = WorksIf (device_by dev) ep packets steps answer out old new s t
