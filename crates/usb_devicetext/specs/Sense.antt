-- Lines that can't mean anything: what a line of a good form says has to apply to its device, as all lines together describe it, and some things are said once.
use Rattle.std.specs.Prelude.{ℕ, ◌==◌, nat_le, nat_lt, Bool, true, false, ◌&&◌, ◌||◌, List, [], ◌∷◌, ◌++◌, length, slice_get, Option, Some, None, Result, if◌then◌else◌}
use Rattle.std.specs.List.{list_all, list_any}
use Rattle.std.specs.Option.{option_and_then, option_map, option_map_or}
use Rattle.usb_model.specs.declared.request.Kind.{Kind}
use Rattle.usb_model.specs.declared.request.Kind.TheVariants.{Bulk, Interrupt}
use Rattle.usb_model.specs.declared.setup.DeviceSetup.{DeviceSetup}
use Rattle.usb_model.specs.Setup.{endpoint_id}
use Rattle.usb_scripttext.specs.Words.{says_nothing}
use Rattle.usb_scripttext.specs.Devices.{takes_script}
use Rattle.usb_devicetext.specs.declared.line.DeskLine.{DeskLine}
use Rattle.usb_devicetext.specs.declared.line.DeskLine.TheVariants as line
use Rattle.usb_devicetext.specs.declared.sense.Saying.{Saying}
use Rattle.usb_devicetext.specs.declared.sense.Subject.{Subject}
use Rattle.usb_devicetext.specs.declared.sense.Subject.TheVariants as subject
use Rattle.usb_devicetext.specs.declared.statement.Awaited.{Awaited}
use Rattle.usb_devicetext.specs.declared.statement.Awaited.TheVariants as awaited
use Rattle.usb_devicetext.specs.declared.statement.Departure.{Departure}
use Rattle.usb_devicetext.specs.declared.statement.DeviceGate.{DeviceGate}
use Rattle.usb_devicetext.specs.declared.statement.Statement.{Statement}
use Rattle.usb_devicetext.specs.declared.statement.Statement.TheVariants as says
use Rattle.usb_devicetext.specs.declared.word.Speed.{Speed}
use Rattle.usb_devicetext.specs.declared.word.Speed.TheVariants.{Full, Low}
use Rattle.usb_devicetext.specs.Line.{line_of_text}
use Rattle.usb_devicetext.specs.Lines.{from_lines, lines_in}

-- how many answers a bulk or interrupt endpoint of a device has, if there is such an endpoint
abbrev pub answer_count : DeviceSetup → ℕ → Option ℕ
answer_count d ep = if takes_script d.config ep then option_map length (slice_get d.scripts (endpoint_id ep)) else None

-- answers wait from one on that the endpoint has, counted from 0
abbrev pub has_place : DeviceSetup → DeviceGate → Bool
has_place d g = option_map_or (nat_lt g.place) (answer_count d g.ep) false

-- and until requests came at the default control endpoint; until packets were taken at a bulk or interrupt endpoint for OUT, or answers given at
-- one for IN; until transfers ended without an answer at the endpoint itself
abbrev pub moves_at : DeviceSetup → ℕ → Bool
moves_at d ep = (ep == 0) || takes_script d.config ep

-- or until any requests were made
abbrev pub can_wait_for : DeviceSetup → Awaited → Bool
can_wait_for d (awaited.At other) = moves_at d other
can_wait_for d (awaited.Requests pattern) = true

abbrev pub can_wait : DeviceSetup → DeviceGate → Bool
can_wait d g = can_wait_for d g.awaited

-- a device is pulled out behind as many answers as the endpoint has at most
abbrev pub has_answers : DeviceSetup → Departure → Bool
has_answers d l = option_map_or (nat_le l.answers) (answer_count d l.ep) false

-- the sizes of packets at each speed: at most 64 bytes at full speed, at most 8 at low speed, which has no bulk endpoints (USB 2.0, 5.7.3, 5.8.3)
abbrev pub is_within : Speed → Kind → ℕ → Bool
is_within Full Bulk size = nat_le size 64
is_within Full Interrupt size = nat_le size 64
is_within Low Bulk size = false
is_within Low Interrupt size = nat_le size 8
is_within speed kind size = true

abbrev pub has_speed : DeviceSetup → Speed → Bool
has_speed d speed = list_all (λ info. is_within speed info.kind info.packet_size) d.config.endpoints

-- whether what a line says applies to its device
abbrev pub applies : DeviceSetup → Statement → Bool
applies d (says.After gate) = has_place d gate && can_wait d gate
applies d (says.Leaves departure) = has_answers d departure
applies d (says.Speed speed) = has_speed d speed
applies d (says.Driver interface) = list_any (λ i. i == interface) d.config.interfaces
applies d statement = true

abbrev pub applies_to : Option DeviceSetup → Statement → Bool
applies_to device statement = option_map_or (λ d. applies d statement) device false

-- what may be said once of a device: its numbers, its class, its descriptor, its speed, when it is pulled out, and each string by its index
abbrev pub subject_of : Statement → Option Subject
subject_of (says.Ids ids) = Some subject.Ids
subject_of (says.Class class) = Some subject.Class
subject_of (says.Descriptor bytes) = Some subject.Descriptor
subject_of (says.Text text) = Some (subject.Text text.index)
subject_of (says.Speed speed) = Some subject.Speed
subject_of (says.Leaves departure) = Some subject.Leaves
subject_of statement = None

abbrev pub is_same : Subject → Subject → Bool
is_same subject.Ids subject.Ids = true
is_same subject.Class subject.Class = true
is_same subject.Descriptor subject.Descriptor = true
is_same (subject.Text i) (subject.Text j) = i == j
is_same subject.Speed subject.Speed = true
is_same subject.Leaves subject.Leaves = true
is_same one other = false

-- whether a line said this of the device
abbrev pub is_said : List Saying → ℕ → Subject → Bool
is_said sayings dev about = list_any (λ s. (s.dev == dev) && is_same s.subject about) sayings

-- what was said so far, with what one more line says, where that isn't among it
abbrev pub with_subject : List Saying → ℕ → Option Subject → Option (List Saying)
with_subject sayings dev None = Some sayings
with_subject sayings dev (Some about) = if is_said sayings dev about then None else Some (sayings ++ record { dev = dev; subject = about } ∷ [])

-- what was said once so far, with one more line, where that can mean something
abbrev pub with_saying : List DeviceSetup → List Saying → DeskLine → Option (List Saying)
with_saying devices sayings (line.Says dev what) = if applies_to (slice_get devices dev) what then with_subject sayings dev (subject_of what) else None
with_saying devices sayings (line.Device number configuration config) = Some sayings
with_saying devices sayings (line.Script script) = Some sayings

-- and with one more line of text
abbrev pub with_text : List DeviceSetup → List Saying → List ℕ → Option (List Saying)
with_text devices sayings text = if says_nothing text then Some sayings else option_and_then (with_saying devices sayings) (line_of_text text)

-- what the lines of a text say once of its devices, or the number of the first line that can't mean anything
abbrev pub sayings_of : List DeviceSetup → List ℕ → Result (List Saying) ℕ
sayings_of devices text = from_lines (with_text devices) 1 [] (lines_in text)
