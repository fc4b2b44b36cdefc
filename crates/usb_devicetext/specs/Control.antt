-- What a device answers on its default control endpoint.
use Rattle.std.specs.Prelude.{ℕ, ◌+◌, ◌-◌, ◌/◌, ◌%◌, ◌==◌, nat_lt, Bool, true, false, ◌&&◌, List, [], ◌∷◌, drop, length, min, slice_get, slice_set, take, Option, Some, None, if◌then◌else◌}
use Rattle.std.specs.List.{find, list_any, position}
use Rattle.std.specs.Option.{option_map_or, unwrap_or}
use Rattle.usb_devicetext.specs.declared.answer.ControlAnswer.{ControlAnswer}
use Rattle.usb_devicetext.specs.declared.answer.ControlAnswer.TheVariants as answer
use Rattle.usb_devicetext.specs.declared.control.ControlReply.{ControlReply}
use Rattle.usb_devicetext.specs.declared.control.ControlReply.TheVariants as reply
use Rattle.usb_devicetext.specs.declared.device.DeskDevice.{DeskDevice}
use Rattle.usb_devicetext.specs.declared.packet.SetupPacket.{SetupPacket}
use Rattle.usb_devicetext.specs.declared.statement.Control.{Control}
use Rattle.usb_devicetext.specs.declared.statement.Pattern.{Pattern}

-- the answer that is told
abbrev pub shown_answer : ControlReply → ControlAnswer
shown_answer (reply.Data bytes) = answer.Data bytes.now
shown_answer reply.Ack = answer.Ack
shown_answer reply.Nak = answer.Nak
shown_answer reply.Stall = answer.Stall
shown_answer reply.Broken = answer.Broken

-- whether a field is met: by any number, or by this
abbrev pub is_met : Option ℕ → ℕ → Bool
is_met None x = true
is_met (Some wanted) x = wanted == x

-- whether a setup packet is meant
abbrev pub fits : Pattern → SetupPacket → Bool
fits w p = is_met w.kind p.kind && (is_met w.request p.request && (is_met w.value p.value && is_met w.index p.index))

-- the last answer; a stall where there is none
abbrev pub last_answer : List ControlAnswer → ControlAnswer
last_answer answers = unwrap_or (slice_get answers (length answers - 1)) answer.Stall

-- the answer to the request of this index, from 0 on: the last one stays
abbrev pub answer_at : List ControlAnswer → ℕ → ControlAnswer
answer_at answers i = unwrap_or (slice_get answers i) (last_answer answers)

-- the first answers that a request fits
abbrev pub control_for : SetupPacket → List Control → Option Control
control_for p controls = find (λ c. fits c.pattern p) controls

-- whether a request fits any of the answers that the text has for it
abbrev pub has_answer : DeskDevice → SetupPacket → Bool
has_answer d p = list_any (λ c. fits c.pattern p) d.controls

-- these, where those at this place were asked once more, as far as 32 bits go
abbrev pub asked_at : List Control → Option ℕ → List Control
asked_at controls None = controls
asked_at controls (Some i) = option_map_or (λ c. slice_set controls i (record c { asked = min (c.asked + 1) 4294967295 })) (slice_get controls i) controls

-- these, where the first that a request fits were asked once more
abbrev pub asked_once_more : SetupPacket → List Control → List Control
asked_once_more p controls = asked_at controls (position (λ c. fits c.pattern p) controls)

-- the string descriptor of index 0: all strings are in US English; a device without strings has no languages, and it stalls (USB 2.0, 9.6.7)
abbrev pub languages_of : DeskDevice → ControlAnswer
languages_of d = if length d.strings == 0 then answer.Stall else answer.Data (4 ∷ 3 ∷ 9 ∷ 4 ∷ [])

-- a string by its index; that of index 0 says the languages of the others
abbrev pub string_at : DeskDevice → ℕ → ControlAnswer
string_at d i = if i == 0 then languages_of d else option_map_or (λ t. answer.Data t.descriptor) (find (λ t. t.index == i) d.strings) answer.Stall

-- GET_DESCRIPTOR of the device, of its configuration, and of a string (USB 2.0, 9.4.3)
abbrev pub descriptor_read : DeskDevice → SetupPacket → ControlAnswer
descriptor_read d p =
    if (p.value == 256) && (p.index == 0) then answer.Data d.descriptor
    else if (p.value == 512) && (p.index == 0) then answer.Data d.configuration
    else if p.value / 256 == 3 then string_at d (p.value % 256)
    else answer.Stall

-- bConfigurationValue (USB 2.0, 9.6.3)
abbrev pub value_of_configuration : DeskDevice → ControlAnswer
value_of_configuration d = if nat_lt (length d.configuration) 6 then answer.Stall else answer.Data (take 1 (drop 5 d.configuration))

-- whether bmAttributes says that the device is self-powered, as its status
abbrev pub status_by : Option ℕ → ControlAnswer
status_by None = answer.Data (0 ∷ 0 ∷ [])
status_by (Some attributes) = if attributes / 64 % 2 == 1 then answer.Data (1 ∷ 0 ∷ []) else answer.Data (0 ∷ 0 ∷ [])

abbrev pub status_of : DeskDevice → ControlAnswer
status_of d = status_by (slice_get d.configuration 7)

-- GET_DESCRIPTOR, GET_CONFIGURATION and GET_STATUS (USB 2.0, 9.4)
abbrev pub device_read : DeskDevice → SetupPacket → ControlAnswer
device_read d p =
    if p.request == 6 then descriptor_read d p
    else if (p.request == 8) && ((p.value == 0) && (p.index == 0)) then value_of_configuration d
    else if (p.request == 0) && ((p.value == 0) && (p.index == 0)) then status_of d
    else answer.Stall

abbrev pub has_interface : DeskDevice → ℕ → Bool
has_interface d i = nat_lt i 256 && list_any (λ k. k == i) d.interfaces

-- GET_INTERFACE and GET_STATUS of an interface
abbrev pub interface_read : DeskDevice → SetupPacket → ControlAnswer
interface_read d p =
    if has_interface d p.index
    then (if (p.request == 10) && (p.value == 0) then answer.Data (0 ∷ []) else if (p.request == 0) && (p.value == 0) then answer.Data (0 ∷ 0 ∷ []) else answer.Stall)
    else answer.Stall

-- SET_CONFIGURATION of the one that there is
abbrev pub is_its_value : Option ℕ → ℕ → Bool
is_its_value None x = false
is_its_value (Some value) x = value == x

abbrev pub device_write : DeskDevice → SetupPacket → ControlAnswer
device_write d p = if (p.request == 9) && ((p.index == 0) && is_its_value (slice_get d.configuration 5) p.value) then answer.Ack else answer.Stall

-- SET_INTERFACE of the setting that there is
abbrev pub interface_write : DeskDevice → SetupPacket → ControlAnswer
interface_write d p = if (p.request == 11) && ((p.value == 0) && has_interface d p.index) then answer.Ack else answer.Stall

-- what its descriptors answer; other standard requests, those of classes and vendors stall
abbrev pub standard_of : DeskDevice → SetupPacket → ControlAnswer
standard_of d p =
    if p.kind == 128 then device_read d p
    else if p.kind == 129 then interface_read d p
    else if p.kind == 0 then device_write d p
    else if p.kind == 1 then interface_write d p
    else answer.Stall

-- what a device answers to a request: by the first answers that it fits, or by its descriptors
abbrev pub answer_by : DeskDevice → SetupPacket → Option Control → ControlAnswer
answer_by d p (Some c) = answer_at c.answers c.asked
answer_by d p None = standard_of d p

abbrev pub reply_of : DeskDevice → SetupPacket → ControlAnswer
reply_of d p = answer_by d p (control_for p d.controls)
