-- Where a scenario comes from: a text that is one, or a test.
use Rattle.std.specs.Prelude.{◌≡◌, ◌⊎◌, ℕ, IfSome, List, length, map, Option, Some, None, Result, Ok, Err}
use Rattle.std.specs.Io.KnownBytes.{Keeps}
use Rattle.trace_scenario.specs.declared.lined.Lined.{Lined}
use Rattle.trace_scenario.specs.declared.scenario.Scenario.{Scenario}
use Rattle.trace_scenario.specs.DeviceLines.{device_lines}
use Rattle.trace_scenario.specs.Findings.{bad_lines}
use Rattle.trace_scenario.specs.Runnable.{IsRunnable}
use Rattle.trace_scenario.specs.Scenario.{scenario_of}
use Rattle.trace_scenario.specs.StepLines.{numbered, step_lines}
use Rattle.trace_test.specs.Expanded.{Expansion, origin_of}
use Rattle.trace_test.specs.Tests.{StandsAs}

-- a text, and what it stands for in a test, if it is no scenario itself
pub record Source : Type 0 where
  pub given : List ℕ
  pub expanded : Option Expansion

-- a text that is a scenario's stands for itself, and any other for what its lines stand for in a test
abbrev pub StandsBy : List ℕ → Result Scenario ℕ → Option Expansion → Type 0
StandsBy given (Ok s) e = e ≡ None
StandsBy given (Err line) e = (x : Expansion) × StandsAs given x × (e ≡ Some x)

abbrev pub Stands : Source → Type 0
Stands src = StandsBy src.given (scenario_of src.given) src.expanded

-- the text of the scenario
abbrev pub text_by : List ℕ → Option Expansion → List ℕ
text_by given None = given
text_by given (Some e) = e.text

abbrev pub text_in : Source → List ℕ
text_in src = text_by src.given src.expanded

-- by which number a line of it is told: its own, or that of the test's line that it comes from
abbrev pub number_by : Option Expansion → ℕ → ℕ
number_by None line = line
number_by (Some e) line = origin_of e line

abbrev pub told_number : Source → ℕ → ℕ
told_number src line = number_by src.expanded line

-- something holds of what a text stands for
abbrev pub OfSource : List ℕ → (Source → Type 0) → Type 0
OfSource text P = (src : Source) × (src.given ≡ text) × Stands src × P src

-- nothing is written, or what may be of what a text stands for
abbrev pub BeginsOf : (Source → Option (List ℕ) → Option (List ℕ) → Type 0) → List ℕ → Option (List ℕ) → Option (List ℕ) → Type 0
BeginsOf begun text old new = Keeps old new ⊎ OfSource text (λ src. begun src old new)

-- a result, of which a bad line is told by another number
abbrev pub told_by : (ℕ → ℕ) → Result Scenario ℕ → Result Scenario ℕ
told_by number (Ok s) = Ok s
told_by number (Err line) = Err (number line)

-- the scenario, or the first bad line
abbrev pub scenario_in : Source → Result Scenario ℕ
scenario_in src = told_by (told_number src) (scenario_of (text_in src))

-- this was read of a text: its scenario, which can be run, and the lines of its steps and devices
pub record IsReadAs (text : List ℕ) (read : Lined) : Type 0 where
  pub scenario : scenario_of text ≡ Ok read.scenario
  pub runnable : IsRunnable read.scenario
  pub lines : map numbered read.lines.items ≡ step_lines text
  pub devices : read.devices.items ≡ device_lines text
  pub each : length read.lines.items ≡ length read.scenario.plan

-- what was read first is what there is to read
abbrev pub IsReadFirst : Source → Option Lined → Type 0
IsReadFirst src first = IfSome first (IsReadAs (text_in src))

-- lines with the numbers by which they are told
abbrev pub told_lines : (ℕ → ℕ) → List (ℕ × List ℕ) → List (ℕ × List ℕ)
told_lines number lines = map (λ (line : ℕ × List ℕ). (number line.0, line.1)) lines

-- the lines that say steps
abbrev pub step_lines_in : Source → List (ℕ × List ℕ)
step_lines_in src = told_lines (told_number src) (step_lines (text_in src))

-- the bad lines
abbrev pub bad_lines_in : Source → List ℕ
bad_lines_in src = map (told_number src) (bad_lines (text_in src))
