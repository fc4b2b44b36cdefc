-- The bytes of an event: a record of a pcap file (pcap-savefile(5)), and in it what Linux's usbmon tells (Linux, Documentation/usb/usbmon.rst, "Raw binary format and API").
use Rattle.std.specs.Prelude.{ℕ, ◌+◌, ◌-◌, ◌*◌, ◌/◌, ◌%◌, ◌^◌, Bool, true, false, List, ◌++◌, length, Option, Some, None}
use Rattle.std.specs.List.{flat_map}
use Rattle.byteorder.specs.Endian.{little_bytes}
use Rattle.usb_model.specs.declared.request.Kind.{Kind}
use Rattle.usb_model.specs.declared.request.Kind.TheVariants as kind
use Rattle.usb_model.specs.Setup.{is_in}
use Rattle.trace_capture.specs.declared.identity.UrbId.{UrbId}
use Rattle.trace_capture.specs.declared.identity.UrbId.TheVariants.{Transfer, Control}
use Rattle.trace_capture.specs.declared.errno.Errno.{Errno}
use Rattle.trace_capture.specs.declared.errno.Errno.TheVariants.{Success, NoEntry, Pipe, Protocol, Overflow, Shutdown, InProgress, RemoteIo}
use Rattle.trace_capture.specs.declared.control_setup.ControlSetup.{ControlSetup}
use Rattle.trace_capture.specs.declared.event.EventType.{EventType}
use Rattle.trace_capture.specs.declared.event.EventType.TheVariants.{Submission, Callback}
use Rattle.trace_capture.specs.declared.event.UrbFlags.{UrbFlags}
use Rattle.trace_capture.specs.declared.event.CaptureEvent.{CaptureEvent}

-- a bit as a number
abbrev pub bit : Bool → ℕ
bit true = 1
bit false = 0

-- the number of an id: 2^32 for each handle, from 2^32 on, so that none is 0; the last 2^32 are those of control transfers, two a line
abbrev pub id_number : UrbId → ℕ
id_number (Transfer h n) = 2 ^ 32 * (h + 1) + n % 2 ^ 32
id_number (Control line second) = 2 ^ 64 - 2 ^ 32 + (2 * line + bit second) % 2 ^ 32

-- the number of an error without its minus sign (Linux, include/uapi/asm-generic/errno.h)
abbrev pub errno_number : Errno → ℕ
errno_number Success = 0
errno_number NoEntry = 2
errno_number Pipe = 32
errno_number Protocol = 71
errno_number Overflow = 75
errno_number Shutdown = 108
errno_number InProgress = 115
errno_number RemoteIo = 121

-- the letters S and C
abbrev pub type_letter : EventType → ℕ
type_letter Submission = 0x53
type_letter Callback = 0x43

-- usbmon's number of a kind
abbrev pub kind_number : Kind → ℕ
kind_number kind.Isochronous = 0
kind_number kind.Interrupt = 1
kind_number kind.Control = 2
kind_number kind.Bulk = 3

-- 0 where setup data are there, else a dash
abbrev pub setup_flag : Option ControlSetup → ℕ
setup_flag (Some setup) = 0
setup_flag None = 0x2d

-- 0 where data may be there; else < where they are still to be read, and > where they were written before. By the type, and whether the endpoint is one of IN
abbrev pub data_flag : EventType → Bool → ℕ
data_flag Submission true = 0x3c
data_flag Callback false = 0x3e
data_flag _ _ = 0

-- the eight bytes of setup data (USB 2.0, 9.3), or as many zeros
abbrev pub setup_bytes : Option ControlSetup → List ℕ
setup_bytes (Some setup) = little_bytes 1 setup.request_type ++ little_bytes 1 setup.request ++ little_bytes 2 setup.value ++ little_bytes 2 setup.index ++ little_bytes 2 setup.length
setup_bytes None = little_bytes 8 0

-- URB_SHORT_NOT_OK, URB_ZERO_PACKET and URB_DIR_IN (Linux, include/linux/usb.h)
abbrev pub flags_number : UrbFlags → Bool → ℕ
flags_number flags inward = bit flags.short_not_ok + 0x40 * bit flags.zero_packet + 0x200 * bit inward

-- 16 bytes: the time, in seconds and microseconds, and how many bytes follow, those that were kept and all (pcap-savefile(5))
unfoldable pub record_header : CaptureEvent → List ℕ
record_header e = little_bytes 4 (e.line / 1000000) ++ little_bytes 4 (e.line % 1000000) ++ little_bytes 4 (64 + length e.bytes) ++ little_bytes 4 (64 + length e.bytes)

-- 16 bytes: id, type, transfer type, endpoint, device address, bus 1, flags of setup and of data
unfoldable pub who : CaptureEvent → List ℕ
who e =
    little_bytes 8 (id_number e.id) ++ little_bytes 1 (type_letter e.event_type) ++ little_bytes 1 (kind_number e.kind) ++ little_bytes 1 e.ep ++ little_bytes 1 (e.device + 1)
    ++ little_bytes 2 1 ++ little_bytes 1 (setup_flag e.setup) ++ little_bytes 1 (data_flag e.event_type (is_in e.ep))

-- 16 bytes: seconds, microseconds, the status in two's complement
unfoldable pub how : CaptureEvent → List ℕ
how e = little_bytes 8 (e.line / 1000000) ++ little_bytes 4 (e.line % 1000000) ++ little_bytes 4 (2 ^ 32 - errno_number e.errno)

-- 16 bytes: the length, that of the data, the setup data
unfoldable pub what : CaptureEvent → List ℕ
what e = little_bytes 4 e.length ++ little_bytes 4 (length e.bytes) ++ setup_bytes e.setup

-- 16 bytes: no interval, no start frame, the transfer flags, no isochronous descriptors
unfoldable pub rest : CaptureEvent → List ℕ
rest e = little_bytes 4 0 ++ little_bytes 4 0 ++ little_bytes 4 (flags_number e.flags (is_in e.ep)) ++ little_bytes 4 0

-- the record of an event
unfoldable pub event_bytes : CaptureEvent → List ℕ
event_bytes e = record_header e ++ who e ++ how e ++ what e ++ rest e ++ e.bytes

-- the records of events, in order
abbrev pub events_bytes : List CaptureEvent → List ℕ
events_bytes events = flat_map event_bytes events

-- 24 bytes in front of all records (pcap-savefile(5)): the magic number of microseconds, version 2.4, no time zone, no accuracy, at most 64 + 262,144 bytes of a record, LINKTYPE_USB_LINUX_MMAPPED
abbrev pub file_header : List ℕ
file_header = little_bytes 4 0xa1b2_c3d4 ++ little_bytes 2 2 ++ little_bytes 2 4 ++ little_bytes 4 0 ++ little_bytes 4 0 ++ little_bytes 4 262208 ++ little_bytes 4 220

-- the file of these events
abbrev pub file_bytes : List CaptureEvent → List ℕ
file_bytes events = file_header ++ events_bytes events
