-- An event of a bus as Windows' recorder writes it (USBPcap, "USBPcap Capture format"): each number has its lowest byte first, whatever the file's order is.
use Rattle.std.specs.Prelude.{ℕ, ◌-◌, ◌%◌, ◌^◌, ◌==◌, nat_le, nat_lt, Bool, true, not, ◌&&◌, List, [], ◌∷◌, length, take, drop, slice_index, Option, Some, None, if◌then◌else◌}
use Rattle.usb_model.specs.declared.request.Kind.{Kind}
use Rattle.usb_model.specs.declared.request.Kind.TheVariants.{Control}
use Rattle.usb_model.specs.Setup.{is_in}
use Rattle.trace_capture.specs.Control.{clear_halt}
use Rattle.trace_capture.specs.declared.control_setup.ControlSetup.{ControlSetup}
use Rattle.trace_recorded.specs.declared.number.Endianness.TheVariants.{Little}
use Rattle.trace_recorded.specs.declared.event.RecordedType.{RecordedType}
use Rattle.trace_recorded.specs.declared.event.RecordedType.TheVariants.{Submission, Callback, SubmissionError}
use Rattle.trace_recorded.specs.declared.event.RecordedEvent.{RecordedEvent}
use Rattle.trace_recorded.specs.Answers.{is_one_of}
use Rattle.trace_recorded.specs.Packets.{kind_of, number_at, setup_at}

-- the lowest bit of its flags says whether it goes to the device or comes from it
abbrev pub direction_of : ℕ → RecordedType
direction_of info = if info % 2 == 0 then Submission else Callback

-- Linux' number of the error that a status of Windows says (Windows, usb.h, USBD_STATUS): a short read; a stall; a failed transaction; too many bytes; withdrawn; or the device is gone, or another error
abbrev pub error_of : ℕ → ℕ
error_of status =
    if status == 0 then 0
    else if is_one_of (0x80000900 ∷ 0xc0000009 ∷ []) status then 121
    else if is_one_of (0xc0000004 ∷ 0xc0000030 ∷ []) status then 32
    else if is_one_of (0xc0000001 ∷ 0xc0000002 ∷ 0xc0000003 ∷ 0xc0000005 ∷ 0xc0000006 ∷ 0xc0000007 ∷ 0xc0000011 ∷ 0xc0000014 ∷ []) status then 71
    else if is_one_of (0xc0000008 ∷ 0xc0000012 ∷ []) status then 75
    else if is_one_of (0xc0010000 ∷ []) status then 2
    else 108

-- the same as a status of Linux, 32 bits in two's complement
abbrev pub windows_status : ℕ → ℕ
windows_status status = (2 ^ 32 - error_of status) % 2 ^ 32

-- whether a packet tells how many bytes it is about: the submission of a write, and the callback of a read
abbrev pub is_told : RecordedType → ℕ → Bool
is_told Submission ep = not (is_in ep)
is_told _ ep = is_in ep

-- its data: as many bytes as it says, behind its header, which says how long it is
abbrev pub windows_data : List ℕ → List ℕ
windows_data packet = take (number_at Little 23 4 packet) (drop (number_at Little 0 2 packet) packet)

-- what each packet says, as an event of the kind of the default control endpoint, without data
abbrev pub windows_head : ℕ → List ℕ → RecordedEvent
windows_head frame packet = record {
  frame = frame;
  id = number_at Little 2 8 packet;
  event_type = direction_of (slice_index packet 16);
  kind = Control;
  ep = slice_index packet 21;
  device = slice_index packet 19;
  bus = number_at Little 17 2 packet;
  status = windows_status (number_at Little 10 4 packet);
  length = 0;
  is_counted = true;
  setup = None;
  flags = 0;
  bytes = [];
}

-- of a transfer that isn't for control
abbrev pub windows_transfer : ℕ → Kind → List ℕ → RecordedEvent
windows_transfer frame kind packet = record (windows_head frame packet) {
  kind = kind;
  length = number_at Little 23 4 packet;
  is_counted = is_told (direction_of (slice_index packet 16)) (slice_index packet 21);
  bytes = windows_data packet;
}

-- of a control transfer: its first stage is its submission, which begins with its setup data; the others that go to the device say nothing more
abbrev pub windows_submission : ℕ → List ℕ → List ℕ → RecordedEvent
windows_submission frame packet body = record (windows_head frame packet) { length = (setup_at 0 body).length; setup = Some (setup_at 0 body); bytes = drop 8 body }

abbrev pub windows_callback : ℕ → List ℕ → RecordedEvent
windows_callback frame packet = record (windows_head frame packet) { length = number_at Little 23 4 packet; bytes = windows_data packet }

abbrev pub windows_control_by : RecordedType → ℕ → List ℕ → Option RecordedEvent
windows_control_by Callback frame packet = Some (windows_callback frame packet)
windows_control_by _ frame packet =
    if (slice_index packet 27 == 0) && nat_le 8 (length (windows_data packet)) then Some (windows_submission frame packet (windows_data packet)) else None

abbrev pub windows_control : ℕ → List ℕ → Option RecordedEvent
windows_control frame packet = windows_control_by (direction_of (slice_index packet 16)) frame packet

-- whether a function ends the halt of an endpoint, as CLEAR_FEATURE of ENDPOINT_HALT does (USB 2.0, 9.4.1), without setup data: URB_FUNCTION_SYNC_RESET_PIPE_AND_CLEAR_STALL, and URB_FUNCTION_SYNC_CLEAR_STALL
abbrev pub clears_stall : ℕ → Bool
clears_stall function = is_one_of (0x1e ∷ 0x31 ∷ []) function

abbrev pub setup_of_reset : RecordedType → ℕ → Option ControlSetup
setup_of_reset Submission ep = Some (clear_halt ep)
setup_of_reset _ ep = None

abbrev pub resets_pipe : ℕ → List ℕ → RecordedEvent
resets_pipe frame packet = record (windows_head frame packet) { setup = setup_of_reset (direction_of (slice_index packet 16)) (slice_index packet 21) }

-- by its kind
abbrev pub windows_by : Option Kind → ℕ → List ℕ → Option RecordedEvent
windows_by None frame packet = None
windows_by (Some Control) frame packet = windows_control frame packet
windows_by (Some kind) frame packet = Some (windows_transfer frame kind packet)

-- the event of a packet; None where it is too short for its header, or its kind isn't known
unfoldable pub windows_event : ℕ → List ℕ → Option RecordedEvent
windows_event frame packet =
    if nat_lt (length packet) 27 then None
    else if clears_stall (number_at Little 14 2 packet) then Some (resets_pipe frame packet)
    else windows_by (kind_of (slice_index packet 22)) frame packet
