-- What a callback is told (libusb_transfer_status), by the completion code (xHCI 1.2, 6.4.5).
use Rattle.std.specs.Prelude.{ℕ, ◌==◌, nat_lt, Bool, true, false, ◌&&◌, ◌||◌, Option, Some, None, if◌then◌else◌}
use Rattle.usb_model.specs.declared.status.Status.{Status}
use Rattle.usb_model.specs.Completion.{success, babble_detected, transaction_error, stall_error, short_packet, stopped}
use Rattle.usb_model.specs.declared.status.Status.TheVariants as status
use Rattle.usb_model.specs.declared.item.Ask.{Ask}
use Rattle.usb_model.specs.declared.item.Ask.TheVariants.{Cancel, Time}

-- a transfer that was withdrawn, by the ask that it end
abbrev pub asked_status : Option Ask → Status
asked_status None = status.Error
asked_status (Some Cancel) = status.Cancelled
asked_status (Some Time) = status.TimedOut

-- neither cancelled nor timed out
abbrev pub is_uncut : Status → Bool
is_uncut status.Cancelled = false
is_uncut status.TimedOut = false
is_uncut _ = true

-- the transfer did what was asked
abbrev pub is_good : ℕ → Bool
is_good code = (code == success) || (code == short_packet)

-- the endpoint halts (xHCI 1.2, 4.8.3)
abbrev pub halts : ℕ → Bool
halts code = (code == babble_detected) || ((code == transaction_error) || (code == stall_error))

unfoldable pub status_of : ℕ → Option Ask → Bool → ℕ → ℕ → Status
status_of code ask short_not_ok length actual =
    if is_good code then (if short_not_ok && nat_lt actual length then status.Error else status.Completed)
    else if code == babble_detected then status.Overflow
    else if code == stall_error then status.Stall
    else if code == stopped then asked_status ask
    else status.Error

-- the same, where the device may be gone: a transaction error of a gone device says that there is none
unfoldable pub told_status : Bool → ℕ → Option Ask → Bool → ℕ → ℕ → Status
told_status gone code ask short_not_ok length actual =
    if gone && (code == transaction_error) then status.NoDevice else status_of code ask short_not_ok length actual
