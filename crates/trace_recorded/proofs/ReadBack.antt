-- What is written of an event is read back, field by field.
use Rattle.std.proofs.Common.{◌≡◌, ℕ, ◌+◌, ◌-◌, ◌%◌, ◌^◌, ◌<◌, ◌≤◌, Bool, true, false, List, ◌++◌, length, take, drop, slice_index, Option, Some, None, refl, ap, ◌∙◌, arith}
use Rattle.std.specs.Prelude.{nat_lt}
use Rattle.std.proofs.lemmas.Bool.{le-ltb}
use Rattle.std.proofs.lemmas.List.{take_all}
use Rattle.byteorder.specs.Endian.{little_bytes, little_number}
use Rattle.byteorder.specs.Numbers.{little_number-reads_back}
use Rattle.usb_model.specs.declared.request.Kind.{Kind}
use Rattle.usb_model.specs.declared.request.Kind.TheVariants.{Isochronous, Interrupt, Control, Bulk}
use Rattle.usb_model.specs.Setup.{is_in}
use Rattle.trace_capture.specs.declared.control_setup.ControlSetup.{ControlSetup}
use Rattle.trace_capture.specs.declared.errno.Errno.{Errno}
use Rattle.trace_capture.specs.declared.errno.Errno.TheVariants.{Success, NoEntry, Pipe, Protocol, Overflow, Shutdown, InProgress, RemoteIo}
use Rattle.trace_capture.specs.declared.event.CaptureEvent.{CaptureEvent}
use Rattle.trace_capture.specs.declared.event.UrbFlags.{UrbFlags}
use Rattle.trace_capture.specs.declared.event.EventType.{EventType}
use Rattle.trace_capture.specs.declared.event.EventType.TheVariants as written
use Rattle.trace_capture.specs.Event.{bit, errno_number, event_bytes, record_header, who, how, what, rest, flags_number, id_number, type_letter, kind_number}
use Rattle.trace_recorded.specs.declared.event.RecordedEvent.{RecordedEvent}
use Rattle.trace_recorded.specs.declared.event.EventHeader.TheVariants.{Mapped}
use Rattle.trace_recorded.specs.declared.number.Endianness.TheVariants.{Little}
use Rattle.trace_recorded.specs.Events.{event_of, linux_event, setup_of, type_of}
use Rattle.trace_recorded.specs.Packets.{kind_of}
use Rattle.trace_recorded.specs.Laws.{EventsAreReadBack, HasRoom, type_written, fields_of}

-- the lowest byte of a small number
byte_is : (x : ℕ) → x < 2 ^ 8 → x % 256 ≡ x
byte_is x small = omega (arith, small)

-- the letter, and the number of the kind
letter_is : (t : EventType) → type_of (type_letter t % 256) ≡ Some (type_written t)
letter_is written.Submission = refl
letter_is written.Callback = refl

number_is : (k : Kind) → kind_of (kind_number k % 256) ≡ Some k
number_is Isochronous = refl
number_is Interrupt = refl
number_is Control = refl
number_is Bulk = refl

-- a status, of which 0 is written with 33 bits
status_bytes : (e : Errno) (rest : List ℕ) → little_number 4 (little_bytes 4 (2 ^ 32 - errno_number e) ++ rest) ≡ (2 ^ 32 - errno_number e) % 2 ^ 32
status_bytes Success rest = refl
status_bytes NoEntry rest = refl
status_bytes Pipe rest = refl
status_bytes Protocol rest = refl
status_bytes Overflow rest = refl
status_bytes Shutdown rest = refl
status_bytes InProgress rest = refl
status_bytes RemoteIo rest = refl

-- the flags are a small number
bit_below : (b : Bool) → bit b ≤ 1
bit_below true = omega arith
bit_below false = omega arith

flags_below : (f : UrbFlags) (inward : Bool) → flags_number f inward < 2 ^ 32
flags_below f inward = omega (arith, bit_below f.short_not_ok, bit_below f.zero_packet, bit_below inward)

-- equal fields make equal events
same_event : (a b : RecordedEvent) → a.frame ≡ b.frame → a.id ≡ b.id → a.event_type ≡ b.event_type → a.kind ≡ b.kind → a.ep ≡ b.ep → a.device ≡ b.device → a.bus ≡ b.bus → a.status ≡ b.status → a.length ≡ b.length
    → a.is_counted ≡ b.is_counted → a.setup ≡ b.setup → a.flags ≡ b.flags → a.bytes ≡ b.bytes → a ≡ b
same_event a b frame id type kind ep device bus status long counted setup flags bytes =
    ap (λ v. record a { frame = v }) frame
    ∙ (ap (λ v. record a { frame = b.frame; id = v }) id
    ∙ (ap (λ v. record a { frame = b.frame; id = b.id; event_type = v }) type
    ∙ (ap (λ v. record a { frame = b.frame; id = b.id; event_type = b.event_type; kind = v }) kind
    ∙ (ap (λ v. record a { frame = b.frame; id = b.id; event_type = b.event_type; kind = b.kind; ep = v }) ep
    ∙ (ap (λ v. record a { frame = b.frame; id = b.id; event_type = b.event_type; kind = b.kind; ep = b.ep; device = v }) device
    ∙ (ap (λ v. record b { bus = v; status = a.status; length = a.length; is_counted = a.is_counted; setup = a.setup; flags = a.flags; bytes = a.bytes }) bus
    ∙ (ap (λ v. record b { status = v; length = a.length; is_counted = a.is_counted; setup = a.setup; flags = a.flags; bytes = a.bytes }) status
    ∙ (ap (λ v. record b { length = v; is_counted = a.is_counted; setup = a.setup; flags = a.flags; bytes = a.bytes }) long
    ∙ (ap (λ v. record b { is_counted = v; setup = a.setup; flags = a.flags; bytes = a.bytes }) counted
    ∙ (ap (λ v. record b { setup = v; flags = a.flags; bytes = a.bytes }) setup
    ∙ (ap (λ v. record b { flags = v; bytes = a.bytes }) flags
    ∙ ap (λ v. record b { bytes = v }) bytes)))))))))))

-- the packet of an event with this setup
abbrev packet : CaptureEvent → List ℕ
packet e = drop 16 (event_bytes e)

-- the parts of a packet: each of its fields
record IsPacket (e : CaptureEvent) (bytes : List ℕ) : Type 0 where
  pub size : 64 ≤ length bytes
  pub id : little_number 8 (drop 0 bytes) ≡ id_number e.id
  pub letter : slice_index bytes 8 ≡ type_letter e.event_type % 256
  pub kind : slice_index bytes 9 ≡ kind_number e.kind % 256
  pub ep : slice_index bytes 10 ≡ e.ep
  pub device : slice_index bytes 11 ≡ e.device + 1
  pub bus : little_number 2 (drop 12 bytes) ≡ 1
  pub status : little_number 4 (drop 28 bytes) ≡ (2 ^ 32 - errno_number e.errno) % 2 ^ 32
  pub count : little_number 4 (drop 32 bytes) ≡ e.length
  pub kept : little_number 4 (drop 36 bytes) ≡ length e.bytes
  pub setup : setup_of e.kind bytes ≡ e.setup
  pub flags : little_number 4 (drop 56 bytes) ≡ flags_number e.flags (is_in e.ep)
  pub behind : drop 64 bytes ≡ e.bytes

-- setup data from their parts
fields : (s : ControlSetup) (bytes : List ℕ) → s.request_type < 2 ^ 8 → s.request < 2 ^ 8 → little_number 2 (drop 42 bytes) ≡ s.value → little_number 2 (drop 44 bytes) ≡ s.index → little_number 2 (drop 46 bytes) ≡ s.length
    → record { request_type = s.request_type % 256; request = s.request % 256; value = little_number 2 (drop 42 bytes); index = little_number 2 (drop 44 bytes); length = little_number 2 (drop 46 bytes) } ≡ s
fields s bytes type request value index long =
    ap (λ v. record s { request_type = v; request = s.request % 256; value = little_number 2 (drop 42 bytes); index = little_number 2 (drop 44 bytes); length = little_number 2 (drop 46 bytes) }) (byte_is s.request_type type)
    ∙ (ap (λ v. record s { request = v; value = little_number 2 (drop 42 bytes); index = little_number 2 (drop 44 bytes); length = little_number 2 (drop 46 bytes) }) (byte_is s.request request)
    ∙ (ap (λ v. record s { value = v; index = little_number 2 (drop 44 bytes); length = little_number 2 (drop 46 bytes) }) value
    ∙ (ap (λ v. record s { index = v; length = little_number 2 (drop 46 bytes) }) index
    ∙ ap (λ v. record s { length = v }) long)))

-- without setup data
no_setup : (e : CaptureEvent) → HasRoom (record e { setup = None }) → IsPacket (record e { setup = None }) (packet (record e { setup = None }))
unfolding event_bytes record_header who how what rest
no_setup e room = record {
  size = omega arith;
  id = little_number-reads_back 8 (id_number e.id) (drop 8 (packet (record e { setup = None }))) room.id;
  letter = refl;
  kind = refl;
  ep = byte_is e.ep room.ep;
  device = byte_is (e.device + 1) room.device;
  bus = refl;
  status = status_bytes e.errno (drop 32 (packet (record e { setup = None })));
  count = little_number-reads_back 4 e.length (drop 36 (packet (record e { setup = None }))) room.count;
  kept = little_number-reads_back 4 (length e.bytes) (drop 40 (packet (record e { setup = None }))) room.bytes;
  setup = none e.kind;
  flags = little_number-reads_back 4 (flags_number e.flags (is_in e.ep)) (drop 60 (packet (record e { setup = None }))) (flags_below e.flags (is_in e.ep));
  behind = refl;
}
  where
    none : (k : Kind) → setup_of k (packet (record e { setup = None })) ≡ None
    none Isochronous = refl
    none Interrupt = refl
    none Control = refl
    none Bulk = refl

-- with them
with_setup : (e : CaptureEvent) (s : ControlSetup) → HasRoom (record e { setup = Some s }) → IsPacket (record e { setup = Some s }) (packet (record e { setup = Some s }))
unfolding event_bytes record_header who how what rest
with_setup e s room = record {
  size = omega arith;
  id = little_number-reads_back 8 (id_number e.id) (drop 8 (packet (record e { setup = Some s }))) room.id;
  letter = refl;
  kind = refl;
  ep = byte_is e.ep room.ep;
  device = byte_is (e.device + 1) room.device;
  bus = refl;
  status = status_bytes e.errno (drop 32 (packet (record e { setup = Some s })));
  count = little_number-reads_back 4 e.length (drop 36 (packet (record e { setup = Some s }))) room.count;
  kept = little_number-reads_back 4 (length e.bytes) (drop 40 (packet (record e { setup = Some s }))) room.bytes;
  setup = ap (λ k. setup_of k (packet (record e { setup = Some s }))) room.setup.0 ∙ ap Some (fields s (packet (record e { setup = Some s })) room.setup.1 room.setup.2 value index long);
  flags = little_number-reads_back 4 (flags_number e.flags (is_in e.ep)) (drop 60 (packet (record e { setup = Some s }))) (flags_below e.flags (is_in e.ep));
  behind = refl;
}
  where
    value : little_number 2 (drop 42 (packet (record e { setup = Some s }))) ≡ s.value
    value = little_number-reads_back 2 s.value (drop 44 (packet (record e { setup = Some s }))) room.setup.3

    index : little_number 2 (drop 44 (packet (record e { setup = Some s }))) ≡ s.index
    index = little_number-reads_back 2 s.index (drop 46 (packet (record e { setup = Some s }))) room.setup.4

    long : little_number 2 (drop 46 (packet (record e { setup = Some s }))) ≡ s.length
    long = little_number-reads_back 2 s.length (drop 48 (packet (record e { setup = Some s }))) room.setup.5

-- with either
is_packet : (e : CaptureEvent) (s : Option ControlSetup) → HasRoom (record e { setup = s }) → IsPacket (record e { setup = s }) (packet (record e { setup = s }))
is_packet e None room = no_setup e room
is_packet e (Some s) room = with_setup e s room

-- an event is read from its parts
reads : (frame : ℕ) (e : CaptureEvent) (bytes : List ℕ) → IsPacket e bytes → event_of Little Mapped frame bytes ≡ Some (fields_of frame e)
unfolding event_of linux_event
reads frame e bytes p =
    let long : nat_lt (length bytes) 64 ≡ false = le-ltb (length bytes) 64 p.size in
    let letter : type_of (slice_index bytes 8) ≡ Some (type_written e.event_type) = ap type_of p.letter ∙ letter_is e.event_type in
    let number : kind_of (slice_index bytes 9) ≡ Some e.kind = ap kind_of p.kind ∙ number_is e.kind in
    let kept : take (little_number 4 (drop 36 bytes)) (drop 64 bytes) ≡ e.bytes =
    ap (λ n. take n (drop 64 bytes)) p.kept ∙ (ap (take (length e.bytes)) p.behind ∙ take_all (length e.bytes) e.bytes (omega arith)) in
    rw (long, letter, number) (ap Some (same_event _ (fields_of frame e) refl p.id refl refl p.ep p.device p.bus p.status p.count refl p.setup p.flags kept))

pub read_back : EventsAreReadBack
read_back frame e room = reads frame e (packet e) (is_packet e e.setup room)
