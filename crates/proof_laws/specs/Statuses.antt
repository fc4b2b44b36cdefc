-- What a callback is told, by the completion code (libusb_transfer_status; xHCI 1.2, 6.4.5).
use Rattle.std.specs.Prelude.{◌≡◌, ◌≢◌, ◌↔◌, ℕ, ◌<◌, ◌≤◌, ◌⊎◌, Bool, true, false, Option, Some, None}
use Rattle.usb_model.specs.declared.item.Ask.{Ask}
use Rattle.usb_model.specs.declared.item.Ask.TheVariants.{Cancel, Time}
use Rattle.usb_model.specs.declared.status.Status.{Status}
use Rattle.usb_model.specs.declared.status.Status.TheVariants as status
use Rattle.usb_model.specs.Completion.{success, babble_detected, transaction_error, stall_error, short_packet, stopped}
use Rattle.usb_model.specs.Endpoint.Status.{told_status}

-- a transfer that did what was asked, or brought fewer bytes
abbrev pub IsGood : ℕ → Type 0
IsGood code = (code ≡ success) ⊎ (code ≡ short_packet)

-- a code that tells nothing of its own
pub record IsOther (code : ℕ) : Type 0 where
  pub bad : IsGood code → ⊥
  pub no_babble : code ≢ babble_detected
  pub no_failure : code ≢ transaction_error
  pub no_stall : code ≢ stall_error
  pub not_stopped : code ≢ stopped

-- which status it is
abbrev pub IsTold : Bool → ℕ → Option Ask → Bool → ℕ → ℕ → Status → Type 0
IsTold gone code ask short_not_ok length actual status.Completed = IsGood code × (short_not_ok ≡ true → length ≤ actual)
IsTold gone code ask short_not_ok length actual status.Overflow = code ≡ babble_detected
IsTold gone code ask short_not_ok length actual status.Stall = code ≡ stall_error
IsTold gone code ask short_not_ok length actual status.NoDevice = (code ≡ transaction_error) × (gone ≡ true)
IsTold gone code ask short_not_ok length actual status.Cancelled = (code ≡ stopped) × (ask ≡ Some Cancel)
IsTold gone code ask short_not_ok length actual status.TimedOut = (code ≡ stopped) × (ask ≡ Some Time)
IsTold gone code ask short_not_ok length actual status.Error =
    (IsGood code × (short_not_ok ≡ true) × (actual < length))
    ⊎ (((code ≡ transaction_error) × (gone ≡ false))
    ⊎ (((code ≡ stopped) × (ask ≡ None)) ⊎ IsOther code))

-- the status is told just where it is that one
abbrev pub TellsStatuses : Type 0
TellsStatuses = (gone : Bool) (code : ℕ) (ask : Option Ask) (short_not_ok : Bool) (length actual : ℕ) (s : Status)
    → told_status gone code ask short_not_ok length actual ≡ s ↔ IsTold gone code ask short_not_ok length actual s
