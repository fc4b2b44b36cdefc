-- Devices as a text describes them: what its lines say together.
use Rattle.std.specs.Prelude.{ℕ, ◌==◌, List, [], ◌∷◌, ◌++◌, length, slice_get, slice_set, Option, Some, None, Result, Ok, Err, if◌then◌else◌}
use Rattle.std.specs.Option.{option_and_then, option_map}
use Rattle.usb_model.specs.declared.setup.DeviceSetup.{DeviceSetup}
use Rattle.usb_scripttext.specs.declared.script.EndpointAnswers.{EndpointAnswers}
use Rattle.usb_scripttext.specs.Devices as scripts
use Rattle.usb_scripttext.specs.Words.{says_nothing}
use Rattle.usb_devicetext.specs.declared.desk.DeviceText.{DeviceText}
use Rattle.usb_devicetext.specs.declared.device.DeskDevice.{DeskDevice}
use Rattle.usb_devicetext.specs.declared.line.DeskLine.{DeskLine}
use Rattle.usb_devicetext.specs.declared.line.DeskLine.TheVariants as line
use Rattle.usb_devicetext.specs.declared.statement.Statement.{Statement}
use Rattle.usb_devicetext.specs.declared.sense.Saying.{Saying}
use Rattle.usb_devicetext.specs.Device.{new_device, said}
use Rattle.usb_devicetext.specs.Line.{line_of_text}
use Rattle.usb_devicetext.specs.Lines.{from_lines, lines_in}
use Rattle.usb_devicetext.specs.Sense.{sayings_of}

-- no line is read yet
abbrev pub nothing_said : DeviceText
nothing_said = record { scripted = []; devices = [] }

-- the devices, where one of those that stand before has the script of one endpoint more
abbrev pub with_script : List DeviceSetup → EndpointAnswers → Option (List DeviceSetup)
with_script ds s = option_and_then (λ x. option_map (λ y. slice_set ds s.dev y) (scripts.device_with s.ep s.answers x)) (slice_get ds s.dev)

-- where one of those that stand before is as a line says
abbrev pub with_statement : List DeskDevice → ℕ → Statement → Option (List DeskDevice)
with_statement ds d what = option_map (λ x. slice_set ds d (said what x)) (slice_get ds d)

-- the devices with what one more line says, where that may stand here: devices by number, and what is said of them behind them
abbrev pub with_line : DeviceText → DeskLine → Option DeviceText
with_line desk (line.Device number configuration config) =
    if number == length desk.scripted
    then Some (record { scripted = desk.scripted ++ scripts.new_device config ∷ []; devices = desk.devices ++ new_device configuration config.interfaces ∷ [] })
    else None
with_line desk (line.Script s) = option_map (λ ds. record desk { scripted = ds }) (with_script desk.scripted s)
with_line desk (line.Says d what) = option_map (λ ds. record desk { devices = ds }) (with_statement desk.devices d what)

-- and with one more line of text
abbrev pub with_text : DeviceText → List ℕ → Option DeviceText
with_text desk text = if says_nothing text then Some desk else option_and_then (with_line desk) (line_of_text text)

-- the devices of some lines, or the number of the first that isn't taken behind those before it; lines are counted from 1
abbrev pub spelled_in : List (List ℕ) → Result DeviceText ℕ
spelled_in texts = from_lines with_text 1 nothing_said texts

-- and of a text
abbrev pub spelled_of : List ℕ → Result DeviceText ℕ
spelled_of text = spelled_in (lines_in text)

-- these, where each line can mean something of them; or the first that can't
abbrev pub sensible : DeviceText → Result (List Saying) ℕ → Result DeviceText ℕ
sensible desk (Ok sayings) = Ok desk
sensible desk (Err at) = Err at

abbrev pub judged : List ℕ → Result DeviceText ℕ → Result DeviceText ℕ
judged text (Ok desk) = sensible desk (sayings_of desk.scripted text)
judged text (Err at) = Err at

-- the devices of a text, or the number of a line: the first that isn't taken, and else the first that can't mean anything
abbrev pub desk_of : List ℕ → Result DeviceText ℕ
desk_of text = judged text (spelled_of text)
