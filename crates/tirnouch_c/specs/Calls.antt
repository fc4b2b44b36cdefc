-- What a call of a slot says.
use Rattle.std.specs.Prelude.{◌≡◌, ℕ, ℤ, negsuc, ◌==◌, nat_lt, Option, Some, None, if◌then◌else◌}
use Rattle.usb_model.specs.declared.step.Step.{Step}
use Rattle.usb_model.specs.declared.step.Step.TheVariants.{Cancel, Claim, ClearHalt, Close, Expire, Open, Release, Reset, Unplug}
use Rattle.usb_core.specs.Public.{ShowsWorld, StillCarries}
use Rattle.usb_model.specs.Setup.{Setup}
use Rattle.usb_model.specs.World.{World, turn}
use Rattle.tirnouch_c.specs.declared.replies.StepReply.{StepReply}
use Rattle.tirnouch_c.specs.declared.session.Session.{Session}
use Rattle.tirnouch_c.specs.Replies.{code_of, entry_numbers}

-- the answer of a slot that holds no session (libusb's LIBUSB_ERROR_OTHER), and of a call with a number that is out of range (LIBUSB_ERROR_INVALID_PARAM)
abbrev pub no_session : ℤ
no_session = negsuc 98

abbrev pub out_of_range : ℤ
out_of_range = negsuc 1

-- a call of a slot: of one that holds a session this is said of it, before and behind; an empty one stays empty, and the answer says so
abbrev pub InSlot : (old new : Option Session) → ℤ → (Session → Session → Type 0) → Type 0
InSlot None new answer Says = (new ≡ None) × (answer ≡ no_session)
InSlot (Some s) (Some t) answer Says = Says s t
InSlot (Some s) None answer Says = ⊥

-- a call that reads: of a slot that holds a session this is said of it, and it stays
abbrev pub ReadsSlot : (old new : Option Session) → ℤ → (Session → Type 0) → Type 0
ReadsSlot None new answer Says = (new ≡ None) × (answer ≡ no_session)
ReadsSlot (Some s) new answer Says = (new ≡ Some s) × Says s

-- nothing else of a session changed but its core
abbrev pub SameBeside : (s t : Session) → Type 0
SameBeside s t = (t.devices ≡ s.devices) × (t.out ≡ s.out)

-- the step that a verb stands for
unfoldable pub step_by : ℕ → ℕ → ℕ → ℕ → Option Step
step_by verb h a n =
    if verb == 0 then (if nat_lt a 4 then Some (Open h a) else None)
    else if verb == 1 then Some (Close h)
    else if verb == 2 then Some (Claim h a)
    else if verb == 3 then Some (Release h a)
    else if verb == 4 then Some (Reset h)
    else if verb == 5 then Some (ClearHalt h a)
    else if verb == 6 then Some (Cancel h n)
    else if verb == 7 then Some (Expire h n)
    else if verb == 11 then (if nat_lt a 4 then Some (Unplug a) else None)
    else None

-- a step was made: it is the world's turn, the answer is that of its reply, and the reply in numbers is that of its entry
abbrev pub Makes : Step → ℤ → StepReply → Session → Session → Type 0
Makes step answer reply s t =
    ((setup : Setup) (w : World) → ShowsWorld setup s.core w
    → (answer ≡ code_of (turn setup w step).entry.reply) × (reply ≡ entry_numbers (turn setup w step).entry) × ShowsWorld setup t.core (turn setup w step).world)
    × StillCarries s.core t.core × SameBeside s t

-- a step of a verb was made, where there is one
abbrev pub MakesBy : Option Step → ℤ → StepReply → Session → Session → Type 0
MakesBy None answer reply s t = (answer ≡ out_of_range) × (t ≡ s)
MakesBy (Some step) answer reply s t = Makes step answer reply s t

-- the same of a number that may be no handle's
abbrev pub step_of : (verb h a n : ℕ) → Option Step
step_of verb h a n = if nat_lt h 64 then step_by verb h a n else None

abbrev pub Calls : (verb h a n : ℕ) → ℤ → StepReply → Session → Session → Type 0
Calls verb h a n answer reply s t = MakesBy (step_of verb h a n) answer reply s t
