-- The sort of a reply, and of the reason that is told for it.
use Rattle.std.specs.Prelude.{ℕ, Bool, true, false, Option, Some, None}
use Rattle.usb_model.specs.declared.refused.Refused.{Refused}
use Rattle.usb_model.specs.declared.refused.Refused.TheVariants as refused
use Rattle.usb_model.specs.declared.reply.Reply.{Reply}
use Rattle.usb_model.specs.declared.reply.Reply.TheVariants as reply
use Rattle.usb_model.specs.declared.status.Status.{Status}
use Rattle.usb_model.specs.Completion.{success, babble_detected, transaction_error, stall_error, short_packet}
use Rattle.trace_explain.specs.declared.sentence.TransferEnd.{TransferEnd}
use Rattle.trace_explain.specs.declared.sentence.TransferEnd.TheVariants as ending
use Rattle.trace_explain.specs.declared.sentence.Reason.{Reason}
use Rattle.trace_explain.specs.declared.sentence.Reason.TheVariants as reason
use Rattle.trace_explain.specs.declared.refusal.UnplugRefusal.{UnplugRefusal}
use Rattle.trace_explain.specs.declared.refusal.UnplugRefusal.TheVariants as unplug
use Rattle.usb_model.specs.Refusals.{refused_of}

-- refused for this, idle, no packet, ended with this code, an order that failed at this endpoint, a callback with this status, or nothing to say
pub data Sort : Type 0 where
  Refusal : Refused → Sort
  Idleness : Sort
  NoPacket : Sort
  End : ℕ → Sort
  Failure : ℕ → Sort
  Callback : Status → Sort
  Nothing : Sort

-- an order fails, or not
abbrev pub sort_of_ran : ℕ → Bool → Sort
sort_of_ran ep true = Nothing
sort_of_ran ep false = Failure ep

abbrev pub sort_of_reply : Reply → Sort
sort_of_reply reply.Done = Nothing
sort_of_reply (reply.Number n) = Nothing
sort_of_reply (reply.Refused why) = Refusal why
sort_of_reply reply.Idle = Idleness
sort_of_reply (reply.Nak n) = NoPacket
sort_of_reply (reply.Moved n bytes) = Nothing
sort_of_reply (reply.Ended n code) = End code
sort_of_reply (reply.Ran ep errand ok) = sort_of_ran ep ok
sort_of_reply (reply.Finished n) = Nothing
sort_of_reply (reply.Paused n) = Nothing
sort_of_reply (reply.Settled ep errand ok) = Nothing
sort_of_reply (reply.Called returned) = Callback returned.status

-- the completion code of an end
abbrev pub code_of : TransferEnd → ℕ
code_of (ending.Whole bytes) = success
code_of (ending.Short moved bytes) = short_packet
code_of (ending.Stall ep) = stall_error
code_of (ending.Halted ep) = stall_error
code_of (ending.Broken ep) = transaction_error
code_of (ending.Babble ep) = babble_detected
code_of (ending.Unplugged dev) = transaction_error

-- what an Unplug is refused with
abbrev pub refused_unplug : UnplugRefusal → Refused
refused_unplug (unplug.NoSuchDevice dev) = refused.NotFound
refused_unplug (unplug.Unplugged dev) = refused.NoDevice

abbrev pub sort_of_reason : Reason → Sort
sort_of_reason (reason.Refused x) = Refusal (refused_of x.refusal)
sort_of_reason (reason.UnplugRefused x) = Refusal (refused_unplug x)
sort_of_reason (reason.Idle idleness) = Idleness
sort_of_reason (reason.Nak unready) = NoPacket
sort_of_reason (reason.Ended ending) = End (code_of ending)
sort_of_reason (reason.Failed ep state) = Failure ep
sort_of_reason (reason.Called x) = Callback x.status

abbrev pub sort_of : Option Reason → Sort
sort_of None = Nothing
sort_of (Some reason) = sort_of_reason reason

-- what the step is refused with for a reason, if it is
abbrev pub refusal_of : Reason → Option Refused
refusal_of (reason.Refused x) = Some (refused_of x.refusal)
refusal_of (reason.UnplugRefused x) = Some (refused_unplug x)
refusal_of (reason.Idle idleness) = None
refusal_of (reason.Nak unready) = None
refusal_of (reason.Ended ending) = None
refusal_of (reason.Failed ep state) = None
refusal_of (reason.Called x) = None
