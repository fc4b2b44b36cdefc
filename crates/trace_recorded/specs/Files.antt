-- The events of a capture file: pcap (pcap-savefile(5)) and pcapng (IETF draft "PCAP Now Generic (pcapng) Capture File Format").
use Rattle.std.specs.Prelude.{ℕ, zero, suc, ◌+◌, ◌-◌, ◌%◌, ◌^◌, ◌==◌, nat_lt, nat_le, Bool, true, false, not, ◌&&◌, ◌||◌, List, [], ◌∷◌, ◌++◌, length, take, drop, slice_get, Option, Some, None, is_some, Result, Ok, Err, if◌then◌else◌}
use Rattle.std.specs.Option.{option_to_list, option_and_then, unwrap_or}
use Rattle.trace_recorded.specs.declared.number.Endianness.{Endianness}
use Rattle.trace_recorded.specs.declared.number.Endianness.TheVariants.{Little, Big}
use Rattle.trace_recorded.specs.declared.event.EventHeader.{EventHeader}
use Rattle.trace_recorded.specs.declared.event.EventHeader.TheVariants.{Mapped, Plain, Windows}
use Rattle.trace_recorded.specs.declared.event.RecordedEvent.{RecordedEvent}
use Rattle.trace_faults.specs.declared.capture_fault.CaptureFault.{CaptureFault}
use Rattle.trace_faults.specs.declared.capture_fault.CaptureFault.TheVariants.{NotACapture, HeaderCutShort, LinkType, NoInterface}
use Rattle.trace_recorded.specs.declared.recording.Recording.{Recording}
use Rattle.trace_recorded.specs.declared.recording.FileForm.{FileForm}
use Rattle.trace_recorded.specs.declared.recording.FileForm.TheVariants.{Pcap, Pcapng}
use Rattle.trace_recorded.specs.declared.block.Front.{Front}
use Rattle.trace_recorded.specs.declared.block.Front.TheVariants.{Block, Amid, Unknown}
use Rattle.trace_recorded.specs.declared.pcapng.PcapngEnd.{PcapngEnd}
use Rattle.trace_recorded.specs.declared.pcapng.PcapngEnd.TheVariants.{Whole, AmidBlock, UnknownOrder}
use Rattle.trace_recorded.specs.declared.pcapng.PcapngReading.{PcapngReading}
use Rattle.trace_recorded.specs.Endpoints.{counted}
use Rattle.trace_recorded.specs.Events.{event_of}
use Rattle.trace_recorded.specs.Packets.{number_at}

-- the form of a file, and the order of a pcap file's numbers, by its first four bytes: of pcap two magic numbers, one of microseconds and one of nanoseconds
abbrev pub form_by : ℕ → Option FileForm
form_by magic =
    if (magic == 0xa1b2c3d4) || (magic == 0xa1b23c4d) then Some (Pcap Little)
    else if (magic == 0xd4c3b2a1) || (magic == 0x4d3cb2a1) then Some (Pcap Big)
    else if magic == 0x0a0d0d0a then Some Pcapng
    else None

abbrev pub form_of : List ℕ → Option FileForm
form_of bytes = if nat_lt (length bytes) 4 then None else form_by (number_at Little 0 4 bytes)

-- usbmon's two link types and that of Windows, and what stands in front of their packets' data
abbrev pub header_of_link : ℕ → Option EventHeader
header_of_link link = if link == 220 then Some Mapped else if link == 189 then Some Plain else if link == 249 then Some Windows else None

-- how many bytes a record of a pcap file has: 16, of which the third number says how many of the packet follow
abbrev pub record_size : Endianness → List ℕ → ℕ
record_size order bytes = 16 + number_at order 8 4 bytes

-- its packet
abbrev pub packet_of_record : Endianness → List ℕ → List ℕ
packet_of_record order bytes = take (record_size order bytes - 16) (drop 16 bytes)

-- whether bytes begin with a whole record
abbrev pub begins_with_record : Endianness → List ℕ → Bool
begins_with_record order bytes = nat_le 16 (length bytes) && nat_le (record_size order bytes) (length bytes)

-- the event of the packet of a number, if it is one of a bus
abbrev pub events_in : Endianness → EventHeader → ℕ → List ℕ → List RecordedEvent
events_in order header frame packet = option_to_list (event_of order header frame packet)

-- the number of the packet behind one
abbrev pub next_frame : ℕ → ℕ
next_frame frame = counted frame 1

-- the events of records, at most so many, the first with this number, behind those before them; the file is cut where bytes are left that begin no record
unfoldable pub records_behind : ℕ → Endianness → EventHeader → ℕ → List RecordedEvent → List ℕ → Recording
records_behind zero order header frame events bytes = record { events = events; is_cut = not (length bytes == 0) }
records_behind (suc most) order header frame events bytes =
    if begins_with_record order bytes
    then records_behind most order header (next_frame frame) (events ++ events_in order header frame (packet_of_record order bytes)) (drop (record_size order bytes) bytes)
    else record { events = events; is_cut = not (length bytes == 0) }

-- all of them
abbrev pub records : Endianness → EventHeader → List ℕ → Recording
records order header bytes = records_behind (length bytes) order header 1 [] bytes

-- of these records, by their link type
abbrev pub pcap_by : Endianness → ℕ → Option EventHeader → List ℕ → Result Recording CaptureFault
pcap_by order link None bytes = Err (LinkType link)
pcap_by order link (Some header) bytes = Ok (records order header bytes)

-- the low 28 bits of the sixth number of a pcap file's header
abbrev pub pcap_link : Endianness → List ℕ → ℕ
pcap_link order bytes = number_at order 20 4 bytes % 2 ^ 28

-- a pcap file: a header of 24 bytes, and records
unfoldable pub pcap : Endianness → List ℕ → Result Recording CaptureFault
pcap order bytes = if nat_lt (length bytes) 24 then Err HeaderCutShort else pcap_by order (pcap_link order bytes) (header_of_link (pcap_link order bytes)) (drop 24 bytes)

-- the types of the blocks of a pcapng file that are read
abbrev pub section_header : ℕ
section_header = 0x0a0d0d0a

abbrev pub interface_description : ℕ
interface_description = 1

abbrev pub old_packet : ℕ
old_packet = 2

abbrev pub simple_packet : ℕ
simple_packet = 3

abbrev pub enhanced_packet : ℕ
enhanced_packet = 6

-- how many bytes their fields have in front of what varies in length
abbrev pub fields_size : ℕ → ℕ
fields_size kind =
    if kind == interface_description then 8
    else if kind == old_packet then 20
    else if kind == simple_packet then 4
    else if kind == enhanced_packet then 20
    else 0

-- the order of a section's numbers, by its byte order magic
abbrev pub order_by : ℕ → Option Endianness
order_by magic = if magic == 0x1a2b3c4d then Some Little else if magic == 0x4d3c2b1a then Some Big else None

-- that of a block: a section header's is its own
abbrev pub block_order : Endianness → List ℕ → Option Endianness
block_order order bytes = if number_at Little 0 4 bytes == section_header then order_by (number_at Little 8 4 bytes) else Some order

-- how many bytes a block has
abbrev pub block_size : Endianness → List ℕ → ℕ
block_size order bytes = number_at order 4 4 bytes

-- whether a whole block of this size stands in front: with its type, its two lengths and its fields it has as many bytes, and a multiple of four
abbrev pub is_whole : ℕ → ℕ → List ℕ → Bool
is_whole kind size bytes = nat_le (12 + fields_size kind) size && ((size % 4 == 0) && nat_le size (length bytes))

-- what stands in front of bytes
abbrev pub front_by : Option Endianness → List ℕ → Front
front_by None bytes = Unknown
front_by (Some order) bytes = if is_whole (number_at order 0 4 bytes) (block_size order bytes) bytes then Block order (block_size order bytes) else Amid

unfoldable pub front_of : Endianness → List ℕ → Front
front_of order bytes = if nat_lt (length bytes) 12 then Amid else front_by (block_order order bytes) bytes

-- an interface more, of this link type
abbrev pub with_interface : Option EventHeader → PcapngReading → PcapngReading
with_interface header reading = record reading { headers = reading.headers ++ header ∷ []; has_usbmon = reading.has_usbmon || is_some header }

-- a packet more, of the interface of this number: an event of a bus, where that is one; each packet is counted
abbrev pub with_packet_by : Option (Option EventHeader) → Endianness → List ℕ → PcapngReading → PcapngReading
with_packet_by (Some (Some header)) order packet reading = record reading { events = reading.events ++ events_in order header reading.frame packet; frame = next_frame reading.frame }
with_packet_by _ order packet reading = record reading { frame = next_frame reading.frame }

abbrev pub with_packet : ℕ → Endianness → List ℕ → PcapngReading → PcapngReading
with_packet interface order packet reading = with_packet_by (slice_get reading.headers interface) order packet reading

-- as many bytes of a block's body from a place on as its number at another says
abbrev pub packet_at : Endianness → ℕ → ℕ → List ℕ → List ℕ
packet_at order length_at place body = take (number_at order length_at 4 body) (drop place body)

-- a block more, by its type; a section header forgets the interfaces before it
unfoldable pub with_block : ℕ → Endianness → List ℕ → PcapngReading → PcapngReading
with_block kind order body reading =
    if kind == section_header then record reading { order = order; headers = [] }
    else if kind == interface_description then with_interface (header_of_link (number_at order 0 2 body)) reading
    else if kind == old_packet then with_packet (number_at order 0 2 body) order (packet_at order 12 20 body) reading
    else if kind == simple_packet then with_packet 0 order (packet_at order 0 4 body) reading
    else if kind == enhanced_packet then with_packet (number_at order 0 4 body) order (packet_at order 12 20 body) reading
    else reading

-- the body of a block: between its type and length and the second length
abbrev pub body_of : ℕ → List ℕ → List ℕ
body_of size bytes = take (size - 4 - 8) (drop 8 bytes)

-- what stands in front is read
abbrev pub with_front : Front → List ℕ → PcapngReading → PcapngReading
with_front (Block order size) bytes reading = with_block (number_at order 0 4 bytes) order (body_of size bytes) reading
with_front Amid bytes reading = record reading { ending = AmidBlock }
with_front Unknown bytes reading = record reading { ending = UnknownOrder }

-- what is left to read behind it
abbrev pub past_front : Front → List ℕ → List ℕ
past_front (Block order size) bytes = drop size bytes
past_front _ bytes = []

-- the blocks of bytes, at most so many, behind what was read before them
unfoldable pub blocks_behind : ℕ → PcapngReading → List ℕ → PcapngReading
blocks_behind zero reading bytes = reading
blocks_behind (suc most) reading bytes =
    if length bytes == 0 then reading
    else blocks_behind most (with_front (front_of reading.order bytes) bytes reading) (past_front (front_of reading.order bytes) bytes)

-- nothing is read yet
abbrev pub nothing_read : PcapngReading
nothing_read = record { order = Little; headers = []; has_usbmon = false; frame = 1; events = []; ending = Whole }

-- a file with this was read
abbrev pub recording_by : PcapngEnd → Bool → List RecordedEvent → Result Recording CaptureFault
recording_by UnknownOrder has_usbmon events = Err NotACapture
recording_by Whole has_usbmon events = if has_usbmon then Ok (record { events = events; is_cut = false }) else Err NoInterface
recording_by AmidBlock has_usbmon events = if has_usbmon then Ok (record { events = events; is_cut = true }) else Err NoInterface

abbrev pub recording_of : PcapngReading → Result Recording CaptureFault
recording_of reading = recording_by reading.ending reading.has_usbmon reading.events

-- a pcapng file: blocks
unfoldable pub pcapng : List ℕ → Result Recording CaptureFault
pcapng bytes = recording_of (blocks_behind (length bytes) nothing_read bytes)

-- the events of a capture file
abbrev pub recording_in : Option FileForm → List ℕ → Result Recording CaptureFault
recording_in None bytes = Err NotACapture
recording_in (Some (Pcap order)) bytes = pcap order bytes
recording_in (Some Pcapng) bytes = pcapng bytes

unfoldable pub recording : List ℕ → Result Recording CaptureFault
recording bytes = recording_in (form_of bytes) bytes
