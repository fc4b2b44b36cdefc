-- What the tasks write that no thread runs.
use Rattle.std.specs.Prelude.{ℕ, List, Option, Result, Ok, Err}
use Rattle.std.specs.Io.KnownBytes.{Appends}
use Rattle.usb_model.specs.declared.step.Step.{Step}
use Rattle.usb_model.specs.Text.{lines_text}
use Rattle.usb_model.specs.World.{new_world, world_from}
use Rattle.usb_model.specs.World.Plans.{expand}
use Rattle.usb_model.specs.World.Journal.{world_run, own}
use Rattle.usb_model.specs.Machine.Turns.{alone}
use Rattle.trace_io.specs.declared.fault.Fault.{Fault}
use Rattle.trace_io.specs.declared.fault.Fault.TheVariants.{Memory}
use Rattle.trace_scenario.specs.declared.scenario.Scenario.{Scenario}
use Rattle.trace_capture.specs.Event.{file_bytes}
use Rattle.trace_scenario.specs.DeviceLines.{device_lines}
use Rattle.trace_scenario.specs.StepLines.{step_lines}
use Rattle.trace_left.specs.Left.{all_left}
use Rattle.trace_left.specs.LeftText.{lines_left}
use Rattle.trace_run.specs.declared.lines.Reach.{Reach}
use Rattle.trace_run.specs.declared.lines.Reach.TheVariants.{End, NoMemory}
use Rattle.trace_run.specs.declared.tasks.TaskEnd.{TaskEnd}
use Rattle.trace_run.specs.declared.tasks.TaskEnd.TheVariants.{Good}
use Rattle.trace_run.specs.Capture.{plan_events}
use Rattle.trace_run.specs.Stepwise.{stepwise_text}

-- the steps of a scenario: those that its plan stands for under its rules
abbrev pub steps_of : Scenario → List Step
steps_of s = expand s.setup s.plan s.rules

-- all entries
abbrev pub run_text : Scenario → List ℕ
run_text s = lines_text (world_run s.setup (steps_of s))

-- the entries of one handle, alone over its own steps
abbrev pub alone_text : ℕ → Scenario → List ℕ
alone_text h s = lines_text (alone s.setup (own s.setup (steps_of s) h) h)

-- all entries, each behind the line of its step in this text
abbrev pub steps_text : List ℕ → Scenario → List ℕ
steps_text text s = stepwise_text s.setup s.plan s.rules (step_lines text)

-- the run as a capture, with the lines of its devices and steps in this text
abbrev pub capture_bytes : List ℕ → Scenario → List ℕ
capture_bytes text s = file_bytes (plan_events (device_lines text) s.setup s.plan s.rules (step_lines text))

-- what is left behind where the run ends
abbrev pub left_lines : Scenario → List ℕ
left_lines s = lines_left (all_left s.setup (world_from s.setup (new_world s.setup) (steps_of s)))

-- some text is appended, or none
abbrev pub AppendsAny : Option (List ℕ) → Option (List ℕ) → Type 0
AppendsAny old new = (text : List ℕ) × Appends old new text

-- how a task ends whose run came so far
abbrev pub ending_of : Reach → Result TaskEnd Fault
ending_of End = Ok Good
ending_of NoMemory = Err Memory
