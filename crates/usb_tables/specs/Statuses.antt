-- Which transfers have which status (libusb_transfer_status), read from the status.
use Rattle.std.specs.Prelude.{◌≡◌, ℕ, ◌<◌, ◌==◌, Bool, true, ◌⊎◌, Option, Some, None}
use Rattle.std.specs.Int.RustNames.{bit_and}
use Rattle.usb_model.specs.declared.status.Status.{Status}
use Rattle.usb_model.specs.declared.status.Status.TheVariants as status
use Rattle.usb_model.specs.declared.item.Ask.{Ask}
use Rattle.usb_model.specs.declared.item.Ask.TheVariants.{Cancel, Time}
use Rattle.usb_model.specs.declared.flags.Flags.{Flags}
use Rattle.usb_model.specs.Completion.{success, babble_detected, stall_error, short_packet, stopped}

-- whether a short read is an error (libusb, LIBUSB_TRANSFER_SHORT_NOT_OK)
abbrev pub is_short_an_error : Flags → Bool
is_short_an_error flags = bit_and flags.0 1 == 1

-- it did what was asked, with as many bytes or fewer
abbrev pub IsGood : ℕ → Type 0
IsGood code = (code ≡ success) ⊎ (code ≡ short_packet)

-- it was read short, where that is an error
abbrev pub IsShort : Bool → ℕ → ℕ → Type 0
IsShort short_not_ok length moved = (short_not_ok ≡ true) × (moved < length)

-- any other end
pub record IsOtherEnd (code : ℕ) (ask : Option Ask) : Type 0 where
  pub bad : IsGood code → ⊥
  pub babble : code ≡ babble_detected → ⊥
  pub stall : code ≡ stall_error → ⊥
  pub asked : code ≡ stopped → ask ≡ None

-- the end of a transfer is told as this status
abbrev pub IsToldAs : Status → ℕ → Option Ask → Bool → ℕ → ℕ → Type 0
IsToldAs status.Completed code ask short_not_ok length moved = IsGood code × (IsShort short_not_ok length moved → ⊥)
IsToldAs status.Error code ask short_not_ok length moved = (IsGood code × IsShort short_not_ok length moved) ⊎ IsOtherEnd code ask
IsToldAs status.TimedOut code ask short_not_ok length moved = (code ≡ stopped) × (ask ≡ Some Time)
IsToldAs status.Cancelled code ask short_not_ok length moved = (code ≡ stopped) × (ask ≡ Some Cancel)
IsToldAs status.Stall code ask short_not_ok length moved = code ≡ stall_error
IsToldAs status.NoDevice code ask short_not_ok length moved = ⊥
IsToldAs status.Overflow code ask short_not_ok length moved = code ≡ babble_detected
