-- Requests on a device's default control endpoint.
use Rattle.std.specs.Prelude.{◌≡◌, ℕ, ℤ, pos, Bool, List, [], length, slice_get, slice_set, take, min, Option, Some, None}
use Rattle.std.specs.Option.{option_map_or}
use Rattle.usb_devicetext.specs.declared.answer.ControlAnswer.{ControlAnswer}
use Rattle.usb_devicetext.specs.declared.answer.ControlAnswer.TheVariants as answer
use Rattle.usb_devicetext.specs.declared.device.DeskDevice.{DeskDevice}
use Rattle.usb_devicetext.specs.declared.packet.Needs.{Needs}
use Rattle.usb_devicetext.specs.declared.packet.Needs.TheVariants as needs
use Rattle.usb_devicetext.specs.declared.packet.SetupPacket.{SetupPacket}
use Rattle.usb_devicetext.specs.Control.{asked_once_more, has_answer, reply_of}
use Rattle.tirnouch_c.specs.declared.requests.ControlResponse.{ControlResponse}
use Rattle.tirnouch_c.specs.declared.requests.Needed.{Needed}
use Rattle.tirnouch_c.specs.declared.session.Session.{Session}
use Rattle.tirnouch_c.specs.Buffers.{filled, taken_count}
use Rattle.tirnouch_c.specs.Calls.{out_of_range}
use Rattle.tirnouch_c.specs.Replies.{bit}

-- the bytes that are read of an answer: at most as many as the request asks for
abbrev pub control_bytes : SetupPacket → ControlAnswer → List ℕ
control_bytes p (answer.Data bytes) = take (min (length bytes) p.length) bytes
control_bytes p _ = []

-- what a host has to hold, in numbers
abbrev pub needs_numbers : Needs → Needed
needs_numbers needs.Nothing = record { kind = 0; interface = 0; endpoint = 0 }
needs_numbers (needs.Interface i) = record { kind = 1; interface = i; endpoint = 0 }
needs_numbers (needs.Endpoint e) = record { kind = 2; interface = 0; endpoint = e }

-- a request that waits, and one that ended with this status and so many bytes; and whether a line of the text answered
abbrev pub waits_numbers : (by_line : Bool) → ControlResponse
waits_numbers by_line = record { is_ready = 0; status = 0; by_line = bit by_line; actual_length = 0 }

abbrev pub ended_numbers : (status moved : ℕ) → (by_line : Bool) → ControlResponse
ended_numbers status moved by_line = record { is_ready = 1; status = status; by_line = bit by_line; actual_length = moved }

-- an answer in numbers: of data how many bytes were read; of a request that writes, that all its bytes were taken; libusb's statuses ERROR (1) and STALL (4)
abbrev pub response_numbers : SetupPacket → ControlAnswer → (moved : ℕ) → (by_line : Bool) → ControlResponse
response_numbers p (answer.Data bytes) moved by_line = ended_numbers 0 moved by_line
response_numbers p answer.Ack moved by_line = ended_numbers 0 p.length by_line
response_numbers p answer.Nak moved by_line = waits_numbers by_line
response_numbers p answer.Stall moved by_line = ended_numbers 4 0 by_line
response_numbers p answer.Broken moved by_line = ended_numbers 1 0 by_line

-- what a device answers to a request, in numbers, with so many bytes read; a line of the text answers it, or its descriptors do, or nothing is said of it
abbrev pub control_numbers : DeskDevice → SetupPacket → ℕ → ControlResponse
control_numbers d p moved = response_numbers p (reply_of d p) moved (has_answer d p)

-- the devices, of which one was asked once more
abbrev pub with_asked : List DeskDevice → ℕ → SetupPacket → List DeskDevice
with_asked ds d p = option_map_or (λ x. slice_set ds d (record x { controls = asked_once_more p x.controls })) (slice_get ds d) ds

-- a device, if there is one, answered a request, and was asked once more
abbrev pub AsksOf : Option DeskDevice → ℕ → SetupPacket → ℤ → ControlResponse → (old new : List ℕ) → (s t : Session) → Type 0
AsksOf None dev p answer response old new s t = (answer ≡ out_of_range) × (new ≡ old) × (t ≡ s)
AsksOf (Some d) dev p answer response old new s t =
    (answer ≡ pos 0) × (response ≡ control_numbers d p (taken_count (control_bytes p (reply_of d p)) old)) × (new ≡ filled (control_bytes p (reply_of d p)) old)
    × (t ≡ record s { devices = with_asked s.devices dev p })

abbrev pub Asks : ℕ → SetupPacket → ℤ → ControlResponse → (old new : List ℕ) → (s t : Session) → Type 0
Asks dev p answer response old new s t = AsksOf (slice_get s.devices dev) dev p answer response old new s t
