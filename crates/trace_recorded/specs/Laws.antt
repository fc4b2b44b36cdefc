-- What is written of an event, and of a file of them, is read back; and a driver that asks as the recorded one did is told what it was told.
use Rattle.std.specs.Prelude.{◌≡◌, ℕ, ◌+◌, ◌-◌, ◌%◌, ◌^◌, ◌<◌, ◌≤◌, ◌⊎◌, ◌==◌, Bool, true, false, List, [], ◌∷◌, ◌++◌, length, take, drop, map, Option, Some, None, Ok, if◌then◌else◌}
use Rattle.std.specs.List.{AllByRecursion, flat_map}
use Rattle.std.specs.Option.{option_to_list, unwrap_or}
use Rattle.usb_model.specs.declared.request.Body.TheVariants.{In, Out}
use Rattle.usb_model.specs.declared.request.Request.{Request}
use Rattle.usb_model.specs.declared.request.Kind.{Kind}
use Rattle.usb_model.specs.declared.request.Kind.TheVariants.{Control}
use Rattle.usb_model.specs.declared.outcome.Outcome.{Outcome}
use Rattle.usb_model.specs.Requests.{is_short_not_ok, adds_zero_packet}
use Rattle.usb_model.specs.Setup.{is_in}
use Rattle.usb_model.specs.Endpoint.{bytes_read}
use Rattle.usb_model.specs.Endpoint.Packets.{Ends, count_of, outcome, packets_by}
use Rattle.usb_model.specs.Endpoint.Status.{told_status}
use Rattle.trace_capture.specs.declared.errno.Errno.{Errno}
use Rattle.trace_capture.specs.declared.errno.Errno.TheVariants.{Success, Pipe, Protocol, Overflow, RemoteIo}
use Rattle.trace_capture.specs.declared.control_setup.ControlSetup.{ControlSetup}
use Rattle.trace_capture.specs.declared.event.CaptureEvent.{CaptureEvent}
use Rattle.trace_capture.specs.declared.event.EventType.{EventType}
use Rattle.trace_capture.specs.declared.event.EventType.TheVariants as written
use Rattle.trace_capture.specs.Event.{errno_number, event_bytes, file_bytes, flags_number, id_number}
use Rattle.trace_capture.specs.Transfer.{errno_of}
use Rattle.trace_recorded.specs.declared.answer.RecordedAnswer.{RecordedAnswer}
use Rattle.trace_recorded.specs.declared.answer.RecordedAnswer.TheVariants.{Given, Taken}
use Rattle.trace_recorded.specs.declared.control_lines.ControlLines.{ControlLines}
use Rattle.trace_recorded.specs.declared.request.AnsweredRequest.{AnsweredRequest}
use Rattle.trace_recorded.specs.declared.transfer.RecordedTransfer.{RecordedTransfer}
use Rattle.trace_recorded.specs.declared.event.RecordedEvent.{RecordedEvent}
use Rattle.trace_recorded.specs.declared.event.RecordedType.{RecordedType}
use Rattle.trace_recorded.specs.declared.event.RecordedType.TheVariants.{Submission, Callback}
use Rattle.trace_recorded.specs.declared.event.EventHeader.TheVariants.{Mapped}
use Rattle.trace_recorded.specs.declared.number.Endianness.TheVariants.{Little}
use Rattle.trace_recorded.specs.Answers.{answers_of, end_of, last_written, packets_acknowledged, recorded_bytes}
use Rattle.trace_recorded.specs.Events.{event_of}
use Rattle.trace_recorded.specs.Files.{next_frame, recording}
use Rattle.trace_recorded.specs.Keys.{key_of}
use Rattle.trace_recorded.specs.Requests.{control_lines}
use Rattle.trace_recorded.specs.Tables.{value_at}
use Rattle.trace_recorded.specs.Written.{recorded_answers, response_of}

-- setup data are of a control transfer, and each field has room
abbrev pub SetupFits : Kind → Option ControlSetup → Type 0
SetupFits kind None = Unit {0}
SetupFits kind (Some s) = (kind ≡ Control) × (s.request_type < 2 ^ 8) × (s.request < 2 ^ 8) × (s.value < 2 ^ 16) × (s.index < 2 ^ 16) × (s.length < 2 ^ 16)

-- an event whose numbers have room in its record
pub record HasRoom (e : CaptureEvent) : Type 0 where
  pub id : id_number e.id < 2 ^ 64
  pub ep : e.ep < 2 ^ 8
  pub device : e.device + 1 < 2 ^ 8
  pub count : e.length < 2 ^ 32
  pub bytes : length e.bytes < 2 ^ 32
  pub setup : SetupFits e.kind e.setup

-- a capture's types, of those two that are written
abbrev pub type_written : EventType → RecordedType
type_written written.Submission = Submission
type_written written.Callback = Callback

-- what is recorded of an event
abbrev pub fields_of : ℕ → CaptureEvent → RecordedEvent
fields_of frame e = record {
  frame = frame;
  id = id_number e.id;
  event_type = type_written e.event_type;
  kind = e.kind;
  ep = e.ep;
  device = e.device + 1;
  bus = 1;
  status = (2 ^ 32 - errno_number e.errno) % 2 ^ 32;
  length = e.length;
  is_counted = true;
  setup = e.setup;
  flags = flags_number e.flags (is_in e.ep);
  bytes = e.bytes;
}

-- what is written of an event is read back: the packet is the record behind its first 16 bytes
abbrev pub EventsAreReadBack : Type 0
EventsAreReadBack = (frame : ℕ) (e : CaptureEvent) → HasRoom e → event_of Little Mapped frame (drop 16 (event_bytes e)) ≡ Some (fields_of frame e)

-- an event whose record has room for its data too
pub record HasRecord (e : CaptureEvent) : Type 0 where
  pub room : HasRoom e
  pub size : 64 + length e.bytes < 2 ^ 32

-- what is recorded of events, of which the first has this number
abbrev pub numbered : ℕ → List CaptureEvent → List RecordedEvent
numbered frame [] = []
numbered frame (e ∷ events) = fields_of frame e ∷ numbered (next_frame frame) events

-- a file of events is read whole, and gives what is recorded of each, with its number
abbrev pub FilesAreReadBack : Type 0
FilesAreReadBack = (events : List CaptureEvent) → AllByRecursion HasRecord events → recording (file_bytes events) ≡ Ok (record { events = numbered 1 events; is_cut = false })

-- before a fault whole packets moved: none, or fewer bytes than were asked for
pub record MovedWhole (size asked moved : ℕ) : Type 0 where
  pub whole : moved % size ≡ 0
  pub room : (moved ≡ 0) ⊎ (moved < asked)

-- what a working host can record of a read with this status; strict: whether a short read is an error
abbrev pub CanRead : Errno → Bool → ℕ → ℕ → ℕ → Type 0
CanRead Success strict size asked moved = (moved ≤ asked) × (strict ≡ true → moved ≡ asked)
CanRead RemoteIo strict size asked moved = (moved < asked) × (strict ≡ true)
CanRead Pipe strict size asked moved = MovedWhole size asked moved
CanRead Protocol strict size asked moved = MovedWhole size asked moved
CanRead Overflow strict size asked moved = MovedWhole size asked moved
CanRead _ strict size asked moved = ⊥

-- and of a write
abbrev pub CanWrite : Errno → ℕ → ℕ → ℕ → Type 0
CanWrite Success size asked moved = moved ≡ asked
CanWrite Pipe size asked moved = MovedWhole size asked moved
CanWrite Protocol size asked moved = MovedWhole size asked moved
CanWrite _ size asked moved = ⊥

-- a transfer with this status, as it stands in a capture
abbrev pub HasStatus : RecordedTransfer → Errno → Type 0
HasStatus x errno = x.end ≡ end_of ((2 ^ 32 - errno_number errno) % 2 ^ 32)

-- a request that takes the answers ends with the last of them, with this completion code; its callback is told these bytes, so many, and the status that is recorded as this one
pub record IsToldAgain (request : Request) (size : ℕ) (x : RecordedTransfer) (errno : Errno) (bytes : List ℕ) : Type 0 where
  pub code : ℕ
  pub end : Outcome
  pub comes : outcome request size (answers_of size x) false ≡ Some end
  pub ends : Ends request size (answers_of size x) code
  pub read : bytes_read request.body end ≡ bytes
  pub moved : count_of end ≡ x.moved
  pub status : errno_of (told_status false code None (is_short_not_ok request) x.asked (count_of end)) (Some code) ≡ errno

-- so it is with each read: of a request of that length
abbrev pub ReadsAreToldAgain : Type 0
ReadsAreToldAgain =
    (request : Request) (size : ℕ) (x : RecordedTransfer) (errno : Errno) → 0 < size → is_in x.ep ≡ true → request.body ≡ In x.asked
    → HasStatus x errno → CanRead errno (is_short_not_ok request) size x.asked x.moved
    → IsToldAgain request size x errno (recorded_bytes x)

-- and with each write: of as many bytes, with an empty packet asked for or not
abbrev pub WritesAreToldAgain : Type 0
WritesAreToldAgain =
    (request : Request) (size : ℕ) (x : RecordedTransfer) (errno : Errno) (bytes : List ℕ) → 0 < size → is_in x.ep ≡ false → request.body ≡ Out bytes
    → length bytes ≡ x.asked → adds_zero_packet request ≡ x.zero_packet
    → HasStatus x errno → CanWrite errno size x.asked x.moved
    → IsToldAgain request size x errno []

-- the answers that are told with what was written are those of the transfer
abbrev pub AnswersAreThose : Type 0
AnswersAreThose = (size : ℕ) (x : RecordedTransfer) → map response_of (recorded_answers size x) ≡ answers_of size x

-- a packet that was taken, and recorded to its end
abbrev pub is_taken : List ℕ → RecordedAnswer
is_taken packet = Taken (record { bytes = packet; is_whole = true })

-- of a write whose bytes were all recorded, the packets are the first of those that a request for the same bytes sends, as many as were acknowledged
abbrev pub PacketsAreWritten : Type 0
PacketsAreWritten =
    (request : Request) (size : ℕ) (x : RecordedTransfer) → is_in x.ep ≡ false → request.body ≡ Out x.bytes → length x.bytes ≡ x.asked → adds_zero_packet request ≡ x.zero_packet
    → recorded_answers size x ≡ map is_taken (take (packets_acknowledged size x) (packets_by request size (Out x.bytes))) ++ map Given (option_to_list (last_written x.end))

-- the answers of the line of a request
abbrev pub line_of : ℕ → ControlLines → List RecordedAnswer
line_of key lines = unwrap_or (value_at key lines.answers) []

-- an answer, where it is to such a request
abbrev pub answer_for : ℕ → AnsweredRequest → List RecordedAnswer
answer_for key request = if key == key_of request.setup then request.answer ∷ [] else []

-- the line of a request has the answers to such requests, and no others, in the order of their ends: so the k-th such request gets the k-th recorded answer
abbrev pub LinesHaveTheAnswers : Type 0
LinesHaveTheAnswers = (key : ℕ) (answered : List AnsweredRequest) → line_of key (control_lines answered) ≡ flat_map (answer_for key) answered
