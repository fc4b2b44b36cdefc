-- What a step replied, in numbers.
use Rattle.std.specs.Prelude.{ℕ, ℤ, pos, Bool, Option, Some, None, if◌then◌else◌}
use Rattle.usb_model.specs.declared.entry.Entry.{Entry}
use Rattle.usb_model.specs.declared.reply.Reply.{Reply}
use Rattle.usb_model.specs.declared.reply.Reply.TheVariants.{Called, Done, Ended, Finished, Idle, Moved, Nak, Number, Paused, Ran, Refused as IsRefused, Settled}
use Rattle.usb_model.specs.declared.status.Status.{Status}
use Rattle.usb_model.specs.declared.status.Status.TheVariants.{Cancelled, Completed, Error, NoDevice, Overflow, Stall, TimedOut}
use Rattle.usb_model.specs.Numbers.{libusb_number}
use Rattle.tirnouch_c.specs.declared.replies.StepReply.{StepReply}

-- libusb's number of a status (libusb_transfer_status)
unfoldable pub status_number : Status → ℕ
status_number Completed = 0
status_number Error = 1
status_number TimedOut = 2
status_number Cancelled = 3
status_number Stall = 4
status_number NoDevice = 5
status_number Overflow = 6

-- the answer of a call: libusb's number of a refusal, else 0
abbrev pub code_of : Reply → ℤ
code_of (IsRefused why) = libusb_number why
code_of _ = pos 0

-- as a number
abbrev pub bit : Bool → ℕ
bit b = if b then 1 else 0

-- the handle of what is nobody's
abbrev pub nobody : ℕ
nobody = 255

-- nothing but whose it is, and its kind
abbrev pub reply_of_kind : (handle kind : ℕ) → StepReply
reply_of_kind handle kind = record { kind = kind; handle = handle; endpoint = 0; code = 0; bytes = 0; packets = 0; number = 0 }

-- where no step was made
abbrev pub nothing_done : StepReply
nothing_done = reply_of_kind nobody 3

-- a reply to a handle
unfoldable pub reply_numbers : ℕ → Reply → StepReply
reply_numbers h Done = reply_of_kind h 0
reply_numbers h (Number n) = record (reply_of_kind h 1) { number = n }
reply_numbers h (IsRefused why) = reply_of_kind h 2
reply_numbers h Idle = reply_of_kind h 3
reply_numbers h (Nak n) = record (reply_of_kind h 4) { number = n }
reply_numbers h (Moved n bytes) = record (reply_of_kind h 5) { number = n; bytes = bytes }
reply_numbers h (Ended n code) = record (reply_of_kind h 6) { number = n; code = code }
reply_numbers h (Ran ep errand ok) = record (reply_of_kind h 7) { endpoint = ep; code = bit ok }
reply_numbers h (Finished n) = record (reply_of_kind h 8) { number = n }
reply_numbers h (Paused n) = record (reply_of_kind h 9) { number = n }
reply_numbers h (Settled ep errand ok) = record (reply_of_kind h 10) { endpoint = ep; code = bit ok }
reply_numbers h (Called r) = record (reply_of_kind h 11) { endpoint = r.ep; code = status_number r.status; bytes = r.actual; number = r.n }

-- an entry
abbrev pub owner_numbers : Option ℕ → Reply → StepReply
owner_numbers None reply = reply_numbers nobody reply
owner_numbers (Some h) reply = reply_numbers h reply

abbrev pub entry_numbers : Entry → StepReply
entry_numbers entry = owner_numbers entry.owner entry.reply
