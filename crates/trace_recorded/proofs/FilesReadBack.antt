-- A file of events is read back, record by record.
use Rattle.std.proofs.Common.{◌≡◌, ℕ, zero, suc, ◌+◌, ◌-◌, ◌^◌, ◌<◌, ◌≤◌, ◌==◌, Bool, true, false, List, [], ◌∷◌, ◌++◌, length, take, drop, Option, Some, None, Ok, refl, ap, sym, ◌∙◌, append_assoc, append-nil, length-append, arith}
use Rattle.std.specs.Prelude.{nat_lt, nat_le, not, ◌&&◌}
use Rattle.std.specs.List.{AllByRecursion, flat_map}
use Rattle.std.proofs.lemmas.Bool.{le-leb, le-ltb}
use Rattle.std.proofs.lemmas.List.{take_at, drop_at, length-drop, take-append-drop}
use Rattle.byteorder.specs.Endian.{little_bytes, little_number}
use Rattle.byteorder.specs.Numbers.{little_number-reads_back}
use Rattle.usb_model.specs.Setup.{is_in}
use Rattle.trace_capture.specs.declared.control_setup.ControlSetup.{ControlSetup}
use Rattle.trace_capture.specs.declared.event.CaptureEvent.{CaptureEvent}
use Rattle.trace_capture.specs.Event.{record_header, who, how, what, rest, event_bytes, events_bytes, file_header, setup_bytes}
use Rattle.trace_recorded.specs.declared.event.EventHeader.TheVariants.{Mapped}
use Rattle.trace_recorded.specs.declared.event.RecordedEvent.{RecordedEvent}
use Rattle.trace_recorded.specs.declared.number.Endianness.TheVariants.{Little}
use Rattle.trace_recorded.specs.declared.recording.Recording.{Recording}
use Rattle.trace_recorded.specs.declared.recording.FileForm.TheVariants.{Pcap}
use Rattle.trace_recorded.specs.Events.{event_of}
use Rattle.trace_recorded.specs.Packets.{number_at}
use Rattle.trace_recorded.specs.Files.{begins_with_record, events_in, form_of, next_frame, packet_of_record, pcap, record_size, recording, recording_in, records_behind}
use Rattle.trace_recorded.specs.Laws.{FilesAreReadBack, HasRecord, fields_of, numbered}
use Rattle.trace_recorded.proofs.ReadBack.{read_back}

-- how long a record is
setup_long : (setup : Option ControlSetup) → length (setup_bytes setup) ≡ 8
setup_long None = refl
setup_long (Some setup) = refl

header_long : (e : CaptureEvent) → length (record_header e) ≡ 16
unfolding record_header
header_long e = refl

who_long : (e : CaptureEvent) → length (who e) ≡ 16
unfolding who
who_long e = refl

how_long : (e : CaptureEvent) → length (how e) ≡ 16
unfolding how
how_long e = refl

what_long : (e : CaptureEvent) → length (what e) ≡ 16
unfolding what
what_long e = omega (arith, setup_long e.setup)

rest_long : (e : CaptureEvent) → length (rest e) ≡ 16
unfolding rest
rest_long e = refl

event_long : (e : CaptureEvent) → length (event_bytes e) ≡ 80 + length e.bytes
unfolding event_bytes
event_long e = simp (length-append, header_long, who_long, how_long, what_long, rest_long) (omega arith)

-- a record begins with its header
split : (e : CaptureEvent) (more : List ℕ) → event_bytes e ++ more ≡ record_header e ++ (drop 16 (event_bytes e) ++ more)
unfolding event_bytes record_header
split e more = refl

-- its header says how many bytes follow
size_is : (e : CaptureEvent) (more : List ℕ) → 64 + length e.bytes < 2 ^ 32 → number_at Little 8 4 (record_header e ++ more) ≡ 64 + length e.bytes
unfolding record_header
size_is e more fits = little_number-reads_back 4 (64 + length e.bytes) (drop 12 (record_header e ++ more)) fits

record_is : (e : CaptureEvent) (more : List ℕ) → 64 + length e.bytes < 2 ^ 32 → record_size Little (event_bytes e ++ more) ≡ 80 + length e.bytes
record_is e more fits =
    let number : number_at Little 8 4 (event_bytes e ++ more) ≡ 64 + length e.bytes = ap (number_at Little 8 4) (split e more) ∙ size_is e (drop 16 (event_bytes e) ++ more) fits in
    omega (arith, number)

begins : (e : CaptureEvent) (more : List ℕ) → 64 + length e.bytes < 2 ^ 32 → begins_with_record Little (event_bytes e ++ more) ≡ true
begins e more fits =
    let long : length (event_bytes e ++ more) ≡ 80 + length e.bytes + length more = omega (arith, length-append (event_bytes e) more, event_long e) in
    let header : nat_le 16 (length (event_bytes e ++ more)) ≡ true = le-leb 16 (length (event_bytes e ++ more)) (omega (arith, long)) in
    let whole : nat_le (record_size Little (event_bytes e ++ more)) (length (event_bytes e ++ more)) ≡ true =
    le-leb (record_size Little (event_bytes e ++ more)) (length (event_bytes e ++ more)) (omega (arith, long, record_is e more fits)) in
    rw (header, whole) refl

-- its packet, and what stands behind it
behind : (e : CaptureEvent) (more : List ℕ) → 64 + length e.bytes < 2 ^ 32 → drop (record_size Little (event_bytes e ++ more)) (event_bytes e ++ more) ≡ more
behind e more fits = drop_at (event_bytes e) more (record_size Little (event_bytes e ++ more)) (omega (arith, event_long e, record_is e more fits))

past_header : (e : CaptureEvent) (more : List ℕ) → drop 16 (event_bytes e ++ more) ≡ drop 16 (event_bytes e) ++ more
unfolding event_bytes record_header
past_header e more = refl

packet_is : (e : CaptureEvent) (more : List ℕ) → 64 + length e.bytes < 2 ^ 32 → packet_of_record Little (event_bytes e ++ more) ≡ drop 16 (event_bytes e)
packet_is e more fits =
    ap (take (record_size Little (event_bytes e ++ more) - 16)) (past_header e more)
    ∙ take_at (drop 16 (event_bytes e)) more (record_size Little (event_bytes e ++ more) - 16) (omega (arith, length-drop 16 (event_bytes e), event_long e, record_is e more fits))

event_is : (frame : ℕ) (e : CaptureEvent) (more : List ℕ) → HasRecord e → events_in Little Mapped frame (packet_of_record Little (event_bytes e ++ more)) ≡ fields_of frame e ∷ []
event_is frame e more h =
    let read : event_of Little Mapped frame (packet_of_record Little (event_bytes e ++ more)) ≡ Some (fields_of frame e) = ap (event_of Little Mapped frame) (packet_is e more h.size) ∙ read_back frame e h.room in
    rw read refl

-- the records of events, behind those before
nothing_left : (most frame : ℕ) (found : List RecordedEvent) → records_behind most Little Mapped frame found [] ≡ record { events = found; is_cut = false }
unfolding records_behind
nothing_left zero frame found = refl
nothing_left (suc most) frame found = refl

one_record : (most frame : ℕ) (found : List RecordedEvent) (bytes : List ℕ) → begins_with_record Little bytes ≡ true
    → records_behind (suc most) Little Mapped frame found bytes
    ≡ records_behind most Little Mapped (next_frame frame) (found ++ events_in Little Mapped frame (packet_of_record Little bytes)) (drop (record_size Little bytes) bytes)
unfolding records_behind
one_record most frame found bytes is = rw is refl

next : (most frame : ℕ) (found : List RecordedEvent) (e : CaptureEvent) (more : List ℕ) → HasRecord e
    → records_behind (suc most) Little Mapped frame found (event_bytes e ++ more) ≡ records_behind most Little Mapped (next_frame frame) (found ++ fields_of frame e ∷ []) more
next most frame found e more h =
    one_record most frame found (event_bytes e ++ more) (begins e more h.size)
    ∙ (ap (λ es. records_behind most Little Mapped (next_frame frame) (found ++ es) (drop (record_size Little (event_bytes e ++ more)) (event_bytes e ++ more))) (event_is frame e more h)
    ∙ ap (records_behind most Little Mapped (next_frame frame) (found ++ fields_of frame e ∷ [])) (behind e more h.size))

all_read : (events : List CaptureEvent) (most frame : ℕ) (found : List RecordedEvent) → AllByRecursion HasRecord events → length (events_bytes events) ≤ most
    → records_behind most Little Mapped frame found (events_bytes events) ≡ record { events = found ++ numbered frame events; is_cut = false }
all_read [] most frame found h few = nothing_left most frame found ∙ ap (λ es. record { events = es; is_cut = false }) (sym (append-nil found))
all_read (e ∷ events) zero frame found h few = absurd (omega (arith, few, length-append (event_bytes e) (events_bytes events), event_long e))
all_read (e ∷ events) (suc most) frame found h few =
    next most frame found e (events_bytes events) h.0
    ∙ (all_read events most (next_frame frame) (found ++ fields_of frame e ∷ []) h.1 (omega (arith, few, length-append (event_bytes e) (events_bytes events), event_long e))
    ∙ ap (λ es. record { events = es; is_cut = false }) (append_assoc found (fields_of frame e ∷ []) (numbered (next_frame frame) events)))

-- behind a file's header
abbrev file : List ℕ → List ℕ
file bytes = file_header ++ bytes

file_long : (bytes : List ℕ) → length (file bytes) ≡ 24 + length bytes
file_long bytes = length-append file_header bytes

form_is : (bytes : List ℕ) → form_of (file bytes) ≡ Some (Pcap Little)
form_is bytes =
    let long : nat_lt (length (file bytes)) 4 ≡ false = le-ltb (length (file bytes)) 4 (omega (arith, file_long bytes)) in
    rw long refl

records_are : (bytes : List ℕ) → pcap Little (file bytes) ≡ Ok (records_behind (length bytes) Little Mapped 1 [] bytes)
unfolding pcap
records_are bytes =
    let long : nat_lt (length (file bytes)) 24 ≡ false = le-ltb (length (file bytes)) 24 (omega (arith, file_long bytes)) in
    rw long refl

pub files_read_back : FilesAreReadBack
unfolding recording
files_read_back events h =
    ap (λ form. recording_in form (file (events_bytes events))) (form_is (events_bytes events))
    ∙ (records_are (events_bytes events) ∙ ap Ok (all_read events (length (events_bytes events)) 1 [] h (omega arith)))
