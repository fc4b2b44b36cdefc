-- An event of a bus, read from the bytes of a captured packet (Linux, Documentation/usb/usbmon.rst, "Raw binary format and API").
use Rattle.std.specs.Prelude.{ℕ, ◌==◌, nat_lt, true, List, length, take, drop, slice_index, Option, Some, None, if◌then◌else◌}
use Rattle.usb_model.specs.declared.request.Kind.{Kind}
use Rattle.usb_model.specs.declared.request.Kind.TheVariants.{Control}
use Rattle.trace_capture.specs.declared.control_setup.ControlSetup.{ControlSetup}
use Rattle.trace_recorded.specs.declared.number.Endianness.{Endianness}
use Rattle.trace_recorded.specs.declared.event.EventHeader.{EventHeader}
use Rattle.trace_recorded.specs.declared.event.EventHeader.TheVariants.{Mapped, Plain, Windows}
use Rattle.trace_recorded.specs.declared.event.RecordedType.{RecordedType}
use Rattle.trace_recorded.specs.declared.event.RecordedType.TheVariants.{Submission, Callback, SubmissionError}
use Rattle.trace_recorded.specs.declared.event.RecordedEvent.{RecordedEvent}
use Rattle.trace_recorded.specs.Packets.{kind_of, number_at, setup_at}
use Rattle.trace_recorded.specs.Windows.{windows_event}

-- how long the header is at least: link type 220, 189 and 249 (pcap-linktype(7))
abbrev pub header_size : EventHeader → ℕ
header_size Mapped = 64
header_size Plain = 48
header_size Windows = 27

-- the letters S, C and E
abbrev pub type_of : ℕ → Option RecordedType
type_of letter = if letter == 0x53 then Some Submission else if letter == 0x43 then Some Callback else if letter == 0x45 then Some SubmissionError else None

-- they are there where their flag is 0, of a control transfer
abbrev pub setup_of : Kind → List ℕ → Option ControlSetup
setup_of Control packet = if slice_index packet 14 == 0 then Some (setup_at 40 packet) else None
setup_of _ packet = None

-- the transfer flags, which the longer header alone has
abbrev pub flags_of : Endianness → EventHeader → List ℕ → ℕ
flags_of order Mapped packet = number_at order 56 4 packet
flags_of order _ packet = 0

-- the data behind the header, at most as many as it says
abbrev pub data_of : Endianness → EventHeader → List ℕ → List ℕ
data_of order header packet = take (number_at order 36 4 packet) (drop (header_size header) packet)

-- an event of this type and kind
abbrev pub event_by : Option RecordedType → Option Kind → Endianness → EventHeader → ℕ → List ℕ → Option RecordedEvent
event_by None kind order header frame packet = None
event_by (Some event_type) None order header frame packet = None
event_by (Some event_type) (Some kind) order header frame packet = Some (record {
  frame = frame;
  id = number_at order 0 8 packet;
  event_type = event_type;
  kind = kind;
  ep = slice_index packet 10;
  device = slice_index packet 11;
  bus = number_at order 12 2 packet;
  status = number_at order 28 4 packet;
  length = number_at order 32 4 packet;
  is_counted = true;
  setup = setup_of kind packet;
  flags = flags_of order header packet;
  bytes = data_of order header packet;
})

-- the event of a packet of usbmon's; None where it is too short for its header, or its type or kind isn't known
unfoldable pub linux_event : Endianness → EventHeader → ℕ → List ℕ → Option RecordedEvent
linux_event order header frame packet =
    if nat_lt (length packet) (header_size header) then None
    else event_by (type_of (slice_index packet 8)) (kind_of (slice_index packet 9)) order header frame packet

-- the event of a packet, by who recorded it
unfoldable pub event_of : Endianness → EventHeader → ℕ → List ℕ → Option RecordedEvent
event_of order Windows frame packet = windows_event frame packet
event_of order header frame packet = linux_event order header frame packet
