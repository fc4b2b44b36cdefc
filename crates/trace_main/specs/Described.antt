-- What the program does with a capture of which one device is meant.
use Rattle.std.specs.Prelude.{◌≡◌, ◌≤◌, ◌<◌, ◌⊎◌, ℕ, Bool, true, false, length, ⊤, IfSome, List, Option, Result, Ok, Err}
use Rattle.std.specs.Io.KnownBytes.{Appends, Keeps}
use Rattle.trace_io.specs.declared.fault.Fault.{Fault}
use Rattle.trace_io.specs.declared.fault.Fault.TheVariants.{Line, Memory, InputOutput, Closed, TooLong, Rounds, Wide, Capture, Descriptor}
use Rattle.trace_io.specs.Faults.{message_of}
use Rattle.trace_io.specs.Input.{longest_input}
use Rattle.trace_io.specs.Output.{AppendsSome}
use Rattle.trace_recorded.specs.declared.choice.DeviceChoice.{DeviceChoice}
use Rattle.trace_faults.specs.declared.text_reader.TextReader.{TextReader}
use Rattle.trace_recorded.specs.declared.scenario.RecordedScenario.{RecordedScenario}
use Rattle.trace_recorded.specs.DescribedText.{described_scenario}
use Rattle.trace_run.specs.declared.tasks.TaskEnd.{TaskEnd}
use Rattle.trace_run.specs.declared.tasks.TaskEnd.TheVariants.{Good, BadLines, NoDevices, Differs, Unexpected}

-- the text is a capture of the longest length at most, and the text of the device that is meant is written; and the device is kept or isn't
abbrev pub FindsDescribed : TextReader → DeviceChoice → Bool → List ℕ → Option (List ℕ) → Option (List ℕ) → Type 0
FindsDescribed reader choice is_kept text old new =
    (r : RecordedScenario) × (described_scenario reader choice text ≡ Ok r) × (length text ≤ longest_input) × Appends old new r.text × (r.has_devices ≡ is_kept)

-- a fault that may end it, and then nothing is written: the text is too long, or the capture is refused, and so; memory and streams may fail always
abbrev pub EndsDescribed : TextReader → DeviceChoice → List ℕ → Option (List ℕ) → Option (List ℕ) → Fault → Type 0
EndsDescribed reader choice text old new Memory = ⊤
EndsDescribed reader choice text old new InputOutput = ⊤
EndsDescribed reader choice text old new Closed = ⊤
EndsDescribed reader choice text old new TooLong = (longest_input < length text) × Keeps old new
EndsDescribed reader choice text old new (Capture fault) = (described_scenario reader choice text ≡ Err fault) × Keeps old new
EndsDescribed reader choice text old new (Line line) = ⊥
EndsDescribed reader choice text old new (Rounds rounds) = ⊥
EndsDescribed reader choice text old new (Wide steps) = ⊥
EndsDescribed reader choice text old new (Descriptor fault) = ⊥

-- how it ends
abbrev pub PerformsDescribed : TextReader → DeviceChoice → List ℕ → Option (List ℕ) → Option (List ℕ) → Result TaskEnd Fault → Type 0
PerformsDescribed reader choice text old new (Ok Good) = FindsDescribed reader choice true text old new
PerformsDescribed reader choice text old new (Ok NoDevices) = FindsDescribed reader choice false text old new
PerformsDescribed reader choice text old new (Ok BadLines) = ⊥
PerformsDescribed reader choice text old new (Ok Differs) = ⊥
PerformsDescribed reader choice text old new (Ok Unexpected) = ⊥
PerformsDescribed reader choice text old new (Err fault) = EndsDescribed reader choice text old new fault

-- it is kept or isn't
abbrev pub IsOfDevices : TaskEnd → Type 0
IsOfDevices Good = ⊤
IsOfDevices NoDevices = ⊤
IsOfDevices _ = ⊥

-- what stands behind status 1: the device that is meant is left out, and nothing is told; or of the message of a fault that may end it a beginning is told
abbrev pub TellsRefusal : TextReader → DeviceChoice → Option (List ℕ) → Option (List ℕ) → Option (List ℕ) → Option (List ℕ) → Option (List ℕ) → Type 0
TellsRefusal reader choice input old new err_old err_new =
    (IfSome input (λ text. FindsDescribed reader choice false text old new) × Keeps err_old err_new)
    ⊎ ((fault : Fault) × IfSome input (λ text. EndsDescribed reader choice text old new fault) × AppendsSome (message_of fault) err_old err_new)
