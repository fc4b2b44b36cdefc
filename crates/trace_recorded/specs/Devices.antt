-- The devices of a recording, and what each answered.
use Rattle.std.specs.Prelude.{ℕ, ◌+◌, ◌*◌, ◌==◌, nat_lt, Bool, true, false, not, ◌&&◌, ◌||◌, List, [], ◌∷◌, ◌++◌, drop, length, Option, Some, None, Result, Ok, Err, if◌then◌else◌}
use Rattle.std.specs.List.{list_any}
use Rattle.std.specs.Option.{option_map_or, unwrap_or}
use Rattle.usb_model.specs.declared.request.Kind.TheVariants.{Control}
use Rattle.usb_model.specs.declared.setup.Configuration.{Configuration}
use Rattle.usb_model.specs.declared.setup.EndpointInfo.{EndpointInfo}
use Rattle.usb_model.specs.Requests.{is_same_kind}
use Rattle.usb_descriptors.specs.declared.fault.DescFault.{DescFault}
use Rattle.usb_descriptors.specs.Grammar.{is_interface, reading}
use Rattle.usb_descriptors.specs.Pieces.{Piece, byte, pieces}
use Rattle.trace_recorded.specs.declared.event.RecordedEvent.{RecordedEvent}
use Rattle.trace_recorded.specs.declared.event.RecordedType.{RecordedType}
use Rattle.trace_recorded.specs.declared.event.RecordedType.TheVariants.{Callback}
use Rattle.trace_recorded.specs.declared.controls.Controls.{Controls}
use Rattle.trace_recorded.specs.declared.endpoint.RecordedEndpoint.{RecordedEndpoint}
use Rattle.trace_recorded.specs.declared.device.OtherTransfer.{OtherTransfer}
use Rattle.trace_recorded.specs.declared.device.RecordedDevice.{RecordedDevice}
use Rattle.trace_recorded.specs.declared.left_out.LeftOut.{LeftOut}
use Rattle.trace_faults.specs.declared.text_reader.TextReader.{TextReader}
use Rattle.trace_faults.specs.declared.text_reader.TextReader.TheVariants.{Library, Scenario}
use Rattle.trace_recorded.specs.declared.left_out.LeftOut.TheVariants.{NoConfiguration, Refused, Hub, NoAnswers}
use Rattle.trace_recorded.specs.Configurations.{configuration_by}
use Rattle.trace_recorded.specs.Controls.{controls_of}
use Rattle.trace_recorded.specs.Endpoints.{is_own, is_scripted}
use Rattle.trace_recorded.specs.Folds.{after}
use Rattle.trace_recorded.specs.Requests.{control_lines}
use Rattle.trace_recorded.specs.Sessions.{session_of}
use Rattle.trace_recorded.specs.Tables.{value_at, with_value, without}

-- a device's number in a table: 256 times its bus, and its address there
abbrev pub device_key : RecordedEvent → ℕ
device_key event = 256 * event.bus + event.device

-- an event more, behind those of its device
abbrev pub behind_others : ℕ → RecordedEvent → List (ℕ × List RecordedEvent) → List (ℕ × List RecordedEvent)
behind_others key event table = with_value key (unwrap_or (value_at key table) [] ++ event ∷ []) (without key table)

unfoldable pub with_device_event : RecordedEvent → List (ℕ × List RecordedEvent) → List (ℕ × List RecordedEvent)
with_device_event event table = behind_others (device_key event) event table

-- the events of each device, by rising bus and address
abbrev pub by_device : List RecordedEvent → List (ℕ × List RecordedEvent)
by_device events = after with_device_event [] events

-- whether an interface was found, with one descriptor more; None where it is an interface of another class than hubs' (USB 2.0, 11.23.1: 9)
abbrev pub found_with : Bool → Piece → Option Bool
found_with found p = if is_interface p then (if byte 5 p.bytes == 9 then Some true else None) else Some found

-- whether one was found, and each has that class
unfoldable pub is_hub_behind : Bool → List Piece → Bool
is_hub_behind found [] = found
is_hub_behind found (p ∷ ps) = option_map_or (λ more. is_hub_behind more ps) (found_with found p) false

-- whether a configuration is a hub's: it has an interface, and each has that class
abbrev pub is_hub : List ℕ → Bool
is_hub descriptor = is_hub_behind false (pieces (byte 0 descriptor) (drop (byte 0 descriptor) descriptor))

-- whether an event is the callback of a transfer of no such endpoint, and of none for control
abbrev pub is_callback : RecordedType → Bool
is_callback Callback = true
is_callback _ = false

abbrev pub has_script : List EndpointInfo → RecordedEvent → Bool
has_script infos event = list_any (λ info. is_scripted info && is_own info event) infos

abbrev pub is_other : List EndpointInfo → RecordedEvent → Bool
is_other infos event = is_callback event.event_type && (not (is_same_kind event.kind Control) && not (has_script infos event))

-- its endpoint and its packet, behind the others
abbrev pub with_other : List EndpointInfo → RecordedEvent → List OtherTransfer → List OtherTransfer
with_other infos event others = if is_other infos event then others ++ record { ep = event.ep; frame = event.frame } ∷ [] else others

abbrev pub others_of : List EndpointInfo → List RecordedEvent → List OtherTransfer
others_of infos events = after (with_other infos) [] events

abbrev pub has_answers : List RecordedEndpoint → Bool
has_answers endpoints = list_any (λ x. not (length x.answers == 0)) endpoints

-- whether something is said of what a device answered: a scenario has no control requests
abbrev pub is_told : TextReader → RecordedDevice → Bool
is_told Library device = has_answers device.endpoints || not (length device.controls.firsts == 0)
is_told Scenario device = has_answers device.endpoints

-- it is kept where something is
abbrev pub with_answers_only : TextReader → RecordedDevice → Result RecordedDevice LeftOut
with_answers_only reader device = if is_told reader device then Ok device else Err NoAnswers

-- what a device with this configuration answered
abbrev pub device_with : List ℕ → List EndpointInfo → Controls → List RecordedEvent → RecordedDevice
device_with descriptor infos controls events = record {
  descriptor = descriptor;
  identity = controls.identity;
  controls = control_lines controls.requests.answered;
  lost = controls.requests.lost;
  left_out = controls.requests.left_out;
  endpoints = (session_of infos events).endpoints;
  others = others_of infos events;
}

abbrev pub device_by : TextReader → Result Configuration DescFault → List ℕ → Controls → List RecordedEvent → Result RecordedDevice LeftOut
device_by reader (Err fault) descriptor controls events = Err Refused
device_by reader (Ok config) descriptor controls events =
    if is_hub descriptor then Err Hub
    else with_answers_only reader (device_with descriptor config.endpoints controls events)

abbrev pub device_from : TextReader → Option (List ℕ) → Controls → List RecordedEvent → Result RecordedDevice LeftOut
device_from reader None controls events = Err NoConfiguration
device_from reader (Some descriptor) controls events = device_by reader (reading descriptor) descriptor controls events

-- what a device with these events answered, or why it is left out
unfoldable pub device_of : TextReader → List RecordedEvent → Result RecordedDevice LeftOut
device_of reader events = device_from reader (configuration_by (controls_of events).configurations) (controls_of events) events
