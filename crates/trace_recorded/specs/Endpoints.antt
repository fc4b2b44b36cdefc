-- What an endpoint of a recorded device answered, from the device's events.
use Rattle.std.specs.Prelude.{ℕ, ◌+◌, ◌-◌, ◌/◌, ◌%◌, ◌^◌, ◌==◌, min, nat_le, nat_lt, Bool, true, false, not, ◌&&◌, ◌||◌, List, [], ◌++◌, length, take, Option, Some, None, if◌then◌else◌}
use Rattle.std.specs.List.{filter}
use Rattle.std.specs.Option.{option_map_or}
use Rattle.usb_model.specs.declared.setup.EndpointInfo.{EndpointInfo}
use Rattle.usb_model.specs.Limits.{longest_script, most_bytes}
use Rattle.usb_model.specs.Requests.{is_same_kind}
use Rattle.usb_model.specs.Setup.{is_in}
use Rattle.usb_descriptors.specs.Grammar.{is_transfer_kind}
use Rattle.trace_capture.specs.declared.control_setup.ControlSetup.{ControlSetup}
use Rattle.trace_recorded.specs.declared.event.RecordedEvent.{RecordedEvent}
use Rattle.trace_recorded.specs.declared.event.RecordedType.{RecordedType}
use Rattle.trace_recorded.specs.declared.event.RecordedType.TheVariants.{Submission, Callback, SubmissionError}
use Rattle.trace_recorded.specs.declared.transfer.RecordedEnd.{RecordedEnd}
use Rattle.trace_recorded.specs.declared.transfer.RecordedEnd.TheVariants.{Stalled, TooLong, Withdrawn}
use Rattle.trace_recorded.specs.declared.transfer.RecordedTransfer.{RecordedTransfer}
use Rattle.trace_recorded.specs.declared.note.Noted.{Noted}
use Rattle.trace_recorded.specs.declared.submission.RecordedSubmission.{RecordedSubmission}
use Rattle.trace_recorded.specs.declared.endpoint.RecordedEndpoint.{RecordedEndpoint}
use Rattle.trace_recorded.specs.Answers.{answers_of, end_of, packets_acknowledged}
use Rattle.trace_recorded.specs.Tables.{value_at, with_value, without}
use Rattle.trace_recorded.specs.declared.waits.Source.TheVariants as source
use Rattle.trace_recorded.specs.declared.waits.TakenCount.{TakenCount}
use Rattle.trace_recorded.specs.Waits.{is_awaited, no_waits, with_waits}
use Rattle.trace_recorded.specs.Written.{recorded_answers}

-- so many more are counted; a counter stays at the largest number of 64 bits
abbrev pub counted : ℕ → ℕ → ℕ
counted count more = min (count + more) (2 ^ 64 - 1)

-- none of something, and so many more in a packet
abbrev pub no_note : Noted
no_note = record { count = 0; frame = 0 }

abbrev pub with_noted : ℕ → ℕ → Noted → Noted
with_noted frame more noted = if more == 0 then noted else record { count = counted noted.count more; frame = if noted.count == 0 then frame else noted.frame }

-- whether a request ends the halt of an endpoint (USB 2.0, 9.4.5): CLEAR_FEATURE of ENDPOINT_HALT at it, SET_INTERFACE of its interface, SET_CONFIGURATION
abbrev pub clears_halt : EndpointInfo → ControlSetup → Bool
clears_halt info setup = (setup.request_type == 2) && ((setup.request == 1) && ((setup.value == 0) && (setup.index % 256 == info.address)))

abbrev pub sets_interface : EndpointInfo → ControlSetup → Bool
sets_interface info setup = (setup.request_type == 1) && ((setup.request == 11) && (setup.index % 256 == info.interface))

abbrev pub configures : ControlSetup → Bool
configures setup = (setup.request_type == 0) && (setup.request == 9)

abbrev pub ends_halt : EndpointInfo → ControlSetup → Bool
ends_halt info setup = clears_halt info setup || (sets_interface info setup || configures setup)

-- whether an event is the submission of such a request
abbrev pub ends_halt_by : RecordedType → EndpointInfo → Option ControlSetup → Bool
ends_halt_by Submission info setup = option_map_or (λ s. ends_halt info s) setup false
ends_halt_by _ info setup = false

-- whether an endpoint's answers make a script: it is a bulk or interrupt endpoint; no configuration has one of packet size 0
abbrev pub is_scripted : EndpointInfo → Bool
is_scripted info = is_transfer_kind info.kind && nat_lt 0 info.packet_size

-- whether an event is of a transfer of this endpoint
abbrev pub is_own : EndpointInfo → RecordedEvent → Bool
is_own info event = (event.ep == info.address) && is_same_kind event.kind info.kind

abbrev pub is_stalled : RecordedEnd → Bool
is_stalled Stalled = true
is_stalled _ = false

abbrev pub is_withdrawn : RecordedEnd → Bool
is_withdrawn Withdrawn = true
is_withdrawn _ = false

abbrev pub is_too_long : RecordedEnd → Bool
is_too_long TooLong = true
is_too_long _ = false

-- what is kept of a submission: its length, its flags, its bytes, and how often the halt was ended before
abbrev pub submitted : RecordedEvent → RecordedEndpoint → RecordedSubmission
submitted event x = record { length = event.length; is_counted = event.is_counted; flags = event.flags; bytes = event.bytes; clears = x.clears; frame = event.frame }

-- how many bytes were asked for: where that wasn't recorded as many as moved, and a packet more where too many came; and how many moved: of a write all, where it was done
abbrev pub asked_at_least : ℕ → RecordedEvent → ℕ
asked_at_least size event = if is_too_long (end_of event.status) then min (event.length + size) (2 ^ 32 - 1) else event.length

abbrev pub asked_of : ℕ → RecordedSubmission → RecordedEvent → ℕ
asked_of size s event = if s.is_counted then s.length else asked_at_least size event

abbrev pub moved_of : RecordedSubmission → RecordedEvent → ℕ
moved_of s event = if event.is_counted then event.length else if event.status == 0 then s.length else 0

-- the transfer of a submission and its callback, with what the one wrote or the other read; bit 6 of the flags asks for an empty packet behind whole ones
abbrev pub transfer_of : EndpointInfo → RecordedSubmission → RecordedEvent → RecordedTransfer
transfer_of info s event = record {
  ep = info.address;
  asked = asked_of info.packet_size s event;
  zero_packet = s.flags / 64 % 2 == 1;
  moved = moved_of s event;
  end = end_of event.status;
  bytes = if is_in info.address then event.bytes else s.bytes;
}

-- a transfer of more bytes than a request may have
abbrev pub is_too_large : RecordedTransfer → Bool
is_too_large transfer = nat_lt most_bytes transfer.asked || nat_lt most_bytes transfer.moved

-- a transfer that ended behind a stall, by the host: nothing moved, and the halt was ended as often before it was submitted as before the transfer that got the stall
abbrev pub is_behind_stall : ℕ → RecordedTransfer → RecordedEndpoint → Bool
is_behind_stall clears transfer x = is_stalled transfer.end && ((transfer.moved == 0) && option_map_or (λ stalled_at. stalled_at == clears) x.stalled_at false)

-- how many bytes of a read weren't recorded, and whether one was too long
abbrev pub bytes_lost : RecordedTransfer → ℕ
bytes_lost transfer = if is_in transfer.ep then transfer.moved - length transfer.bytes else 0

abbrev pub reads_too_long : RecordedTransfer → ℕ
reads_too_long transfer = if is_in transfer.ep && is_too_long transfer.end then 1 else 0

-- a transfer's answers, as many as there is room for; all are counted, and the packet is kept that has the first without room
abbrev pub with_answers : ℕ → ℕ → ℕ → RecordedTransfer → RecordedEndpoint → RecordedEndpoint
with_answers size clears frame transfer x = record x {
  stalled_at = if is_stalled transfer.end then Some clears else x.stalled_at;
  answers = x.answers ++ take (longest_script - length x.answers) (recorded_answers size transfer);
  count = counted x.count (length (answers_of size transfer));
  answered = if length (answers_of size transfer) == 0 then x.answered else frame;
  next = if (x.next == 0) && nat_lt (longest_script - length x.answers) (length (answers_of size transfer)) then frame else x.next;
  lost = with_noted frame (bytes_lost transfer) x.lost;
  too_long = with_noted frame (reads_too_long transfer) x.too_long;
}

-- the answers of a read, so many, are to be put behind the others: they wait for the reads that were withdrawn here, and for what others had taken
abbrev pub with_places : List TakenCount → ℕ → RecordedEndpoint → RecordedEndpoint
with_places taken count x =
    if not (is_in x.info.address) || ((count == 0) || nat_le longest_script x.count) then x
    else record x { waits = with_waits x.count (record { source = source.Endpoint x.info.address; count = x.withdrawn; frame = 0 }) taken x.waits }

-- the packets that were taken, or that a read without an answer was withdrawn
abbrev pub with_counts : ℕ → RecordedTransfer → ℕ → RecordedEndpoint → RecordedEndpoint
with_counts size transfer count x =
    if is_in x.info.address then (if is_withdrawn transfer.end && (count == 0) then record x { withdrawn = counted x.withdrawn 1 } else x)
    else record x { acknowledged = counted x.acknowledged (packets_acknowledged size transfer) }

-- a transfer's answers in their turn, perhaps none
abbrev pub with_turn : List TakenCount → ℕ → ℕ → RecordedTransfer → RecordedEndpoint → RecordedEndpoint
with_turn taken clears frame transfer x =
    with_counts x.info.packet_size transfer (length (answers_of x.info.packet_size transfer))
    (with_answers x.info.packet_size clears frame transfer (with_places taken (length (answers_of x.info.packet_size transfer)) x))

-- a transfer ended
unfoldable pub with_transfer : List TakenCount → ℕ → ℕ → RecordedTransfer → RecordedEndpoint → RecordedEndpoint
with_transfer taken clears frame transfer x =
    if is_too_large transfer then record x { left_out = with_noted frame 1 x.left_out }
    else if is_behind_stall clears transfer x then x
    else with_turn taken clears frame transfer x

-- a transfer ended that was submitted so: of all that was taken and given before, a read's answers wait for what its submission leaves open
abbrev pub with_callback : List TakenCount → RecordedSubmission → RecordedEvent → RecordedEndpoint → RecordedEndpoint
with_callback taken s event x = with_transfer (filter (is_awaited x.info.address s.frame) taken) s.clears event.frame (transfer_of x.info s event) x

-- the same, where its submission was recorded; else the length, the flags and the bytes are those of its callback, where that has a length
abbrev pub with_end_of : Option RecordedSubmission → List TakenCount → RecordedEvent → RecordedEndpoint → RecordedEndpoint
with_end_of (Some s) taken event x = with_callback taken s event x
with_end_of None taken event x = if event.is_counted then with_callback taken (submitted event x) event x else x

-- an event of a transfer of this endpoint
abbrev pub with_own_by : RecordedType → List TakenCount → RecordedEvent → RecordedEndpoint → RecordedEndpoint
with_own_by Submission taken event x = record x { waiting = with_value event.id (submitted event x) x.waiting }
with_own_by Callback taken event x = with_end_of (value_at event.id x.waiting) taken event (record x { waiting = without event.id x.waiting })
with_own_by SubmissionError taken event x = record x { waiting = without event.id x.waiting }

-- an event of the device, before which so much was taken
unfoldable pub with_event : List TakenCount → RecordedEvent → RecordedEndpoint → RecordedEndpoint
with_event taken event x =
    if ends_halt_by event.event_type x.info event.setup then record x { clears = counted x.clears 1 }
    else if is_scripted x.info && is_own x.info event then with_own_by event.event_type taken event x
    else x

-- nothing happened yet
abbrev pub no_answers : EndpointInfo → RecordedEndpoint
no_answers info = record { info = info; waiting = []; clears = 0; stalled_at = None; answers = []; count = 0; answered = 0; acknowledged = 0; withdrawn = 0; waits = no_waits; next = 0; lost = no_note; too_long = no_note; left_out = no_note }
