-- A scenario: what its lines say together.
use Rattle.std.specs.Prelude.{ℕ, ◌+◌, ◌==◌, nat_le, Bool, false, ◌&&◌, List, [], ◌∷◌, ◌++◌, length, Option, Some, None, Result, Ok, Err, slice_get, slice_set, unwrap_or, if◌then◌else◌}
use Rattle.std.specs.Option.{option_map, option_and_then}
use Rattle.std.specs.List.{slice_split}
use Rattle.usb_model.specs.declared.response.Response.{Response}
use Rattle.usb_model.specs.declared.setup.DeviceSetup.{DeviceSetup}
use Rattle.usb_model.specs.declared.plan.Plan.{Plan}
use Rattle.usb_model.specs.declared.plan.Plan.TheVariants.{Do}
use Rattle.usb_model.specs.declared.step.Step.TheVariants as step
use Rattle.usb_model.specs.Limits.{longest_script}
use Rattle.usb_model.specs.Setup.{endpoint_id}
use Rattle.trace_scenario.specs.declared.line.Line.{Line}
use Rattle.trace_scenario.specs.declared.line.Line.TheVariants as line
use Rattle.trace_scenario.specs.declared.scenario.Scenario.{Scenario}
use Rattle.trace_scenario.specs.Line.{line_of_text}
use Rattle.usb_scripttext.specs.Devices.{device_with, new_device, takes_script}
use Rattle.usb_scripttext.specs.Words.{says_nothing}

-- no line is read yet
abbrev pub nothing_said : Scenario
nothing_said = record { setup = []; plan = []; rules = [] }

-- the script at an id; none is empty
abbrev pub script_at : ℕ → List (List Response) → List Response
script_at id scripts = unwrap_or (slice_get scripts id) []

-- whether so many more answers fit behind a script that is there
abbrev pub fits_behind : ℕ → Option (List Response) → Bool
fits_behind more None = false
fits_behind more (Some script) = nat_le (length script + more) longest_script

-- whether so many more answers fit behind the script at an id
abbrev pub has_room : ℕ → ℕ → List (List Response) → Bool
has_room id more scripts = fits_behind more (slice_get scripts id)

-- this device with answers behind the script of one of its endpoints, where they fit
abbrev pub device_fed : ℕ → List Response → DeviceSetup → Option DeviceSetup
device_fed ep answers device =
    if takes_script device.config ep && has_room (endpoint_id ep) (length answers) device.scripts
    then Some (record device { scripts = slice_set device.scripts (endpoint_id ep) (script_at (endpoint_id ep) device.scripts ++ answers) })
    else None

-- the scenario with one more piece of its plan
abbrev pub with_piece : Plan → Scenario → Scenario
with_piece piece s = record s { plan = s.plan ++ piece ∷ [] }

-- the scenario with one of its devices changed, where it has that device and that may be changed so
abbrev pub with_device : (DeviceSetup → Option DeviceSetup) → ℕ → Scenario → Option Scenario
with_device change dev s = option_and_then (λ device. option_map (λ changed. record s { setup = slice_set s.setup dev changed }) (change device)) (slice_get s.setup dev)

-- the scenario with what one more line says, where that may stand here: devices by number, scripts of their endpoints, and both before the first step; answers
-- that are fed anywhere behind their device, as if they had stood in the script from the beginning
abbrev pub with_line : Scenario → Line → Option Scenario
with_line s (line.Device number config) =
    if (length s.plan == 0) && (number == length s.setup) then Some (record s { setup = s.setup ++ new_device config ∷ [] }) else None
with_line s (line.Script dev ep answers) =
    if length s.plan == 0 then with_device (device_with ep answers) dev s else None
with_line s (line.Feed dev ep answers) = with_device (device_fed ep answers) dev s
with_line s (line.Submit h request rule) = Some (record (with_piece (Do (step.Submit h request)) s) { rules = s.rules ++ rule ∷ [] })
with_line s (line.Piece piece) = Some (with_piece piece s)

-- the scenario with one more line of text
abbrev pub with_text : Scenario → List ℕ → Option Scenario
with_text s text = if says_nothing text then Some s else option_and_then (with_line s) (line_of_text text)

-- what follows a line that is taken; the number of one that isn't
abbrev pub taken_at : ℕ → (Scenario → Result Scenario ℕ) → Option Scenario → Result Scenario ℕ
taken_at at further None = Err at
taken_at at further (Some s) = further s

-- the scenario of some lines behind others, of which the first has this number; or the number of the first that isn't taken
unfoldable pub scenario_from : ℕ → Scenario → List (List ℕ) → Result Scenario ℕ
scenario_from at s [] = Ok s
scenario_from at s (text ∷ texts) = taken_at at (λ t. scenario_from (at + 1) t texts) (with_text s text)

-- the scenario of a text, whose lines are counted from 1
abbrev pub scenario_of : List ℕ → Result Scenario ℕ
scenario_of text = scenario_from 1 nothing_said (slice_split (λ b. b == 10) text)
