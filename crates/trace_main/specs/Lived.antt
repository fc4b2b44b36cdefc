-- What a scenario says that is run in threads, and what is written of it.
use Rattle.std.specs.Prelude.{ℕ, ◌≡◌, ◌⊎◌, ◌+◌, ◌==◌, ◌<◌, ◌≤◌, length, min, Bool, true, false, List, [], ◌∷◌, Option, Some, None, Result, Ok, Err, if◌then◌else◌}
use Rattle.std.specs.Io.KnownBytes.{Appends, Keeps}
use Rattle.std.specs.List.{slice_split}
use Rattle.usb_model.specs.declared.entry.Entry.{Entry}
use Rattle.usb_model.specs.declared.plan.Plan.{Plan}
use Rattle.usb_model.specs.declared.plan.Plan.TheVariants.{Do}
use Rattle.usb_model.specs.declared.step.Step.{Step}
use Rattle.usb_model.specs.declared.step.Step.TheVariants.{Expire, Unplug}
use Rattle.usb_model.specs.World.{new_world, world_from}
use Rattle.usb_model.specs.Text.{lines_text}
use Rattle.trace_scenario.specs.declared.line.Line.{Line}
use Rattle.trace_scenario.specs.declared.line.Line.TheVariants.{Piece}
use Rattle.trace_scenario.specs.Line.{line_of_text}
use Rattle.trace_threads.specs.Callbacks.{AreCallbacks}
use Rattle.trace_threads.specs.Calls.{HasCalls}
use Rattle.trace_threads.specs.Unfinished.{unfinished_in}
use Rattle.trace_threads.specs.Verdicts.{AreToldSo, ruled}
use Rattle.trace_left.specs.LeftText.{lines_left}
use Rattle.trace_threads.specs.AtRest.{IsAtRest}
use Rattle.trace_io.specs.Faults.{IsOfRun}
use Rattle.trace_io.specs.Output.{AppendsSome}
use Rattle.trace_io.specs.declared.fault.Fault.{Fault}
use Rattle.trace_io.specs.declared.fault.Fault.TheVariants.{Rounds}
use Rattle.trace_scenario.specs.declared.scenario.Scenario.{Scenario}
use Rattle.trace_scenario.specs.Scenario.{scenario_of}
use Rattle.trace_main.specs.Source.{Source, text_in, told_by, told_number}

-- whether a piece of a plan asks for what no handle's thread does: the end of a transfer's time, or of a device
abbrev pub is_unlived_piece : Plan → Bool
is_unlived_piece (Do (Expire h n)) = true
is_unlived_piece (Do (Unplug dev)) = true
is_unlived_piece piece = false

-- whether a line says such a piece
abbrev pub is_unlived : Option Line → Bool
is_unlived (Some (Piece piece)) = is_unlived_piece piece
is_unlived said = false

-- the number of the first such line, where the lines are counted from this one on
unfoldable pub first_unlived : ℕ → List (List ℕ) → Option ℕ
first_unlived at [] = None
first_unlived at (text ∷ texts) = if is_unlived (line_of_text text) then Some at else first_unlived (at + 1) texts

-- of the first such line, and the first that isn't taken, the earlier
abbrev pub earlier : Option ℕ → Result Scenario ℕ → Result Scenario ℕ
earlier None said = said
earlier (Some at) (Ok s) = Err at
earlier (Some at) (Err line) = Err (min line at)

-- the scenario of a text that is run in threads; or the number of its first line that isn't taken, or asks for what no thread does
abbrev pub lived_of : List ℕ → Result Scenario ℕ
lived_of text = earlier (first_unlived 1 (slice_split (λ b. b == 10) text)) (scenario_of text)

-- the same of what a text stands for
abbrev pub lived_in : Source → Result Scenario ℕ
lived_in src = told_by (told_number src) (lived_of (text_in src))

-- the lines of what handles hadn't finished where a run of these steps ends
abbrev pub unfinished_text : Scenario → List Step → List ℕ
unfinished_text s steps = lines_left (unfinished_in s.setup steps)

-- what callbacks were told in a run of these steps over a scenario's devices, by handle and number: in it stand the calls of the scenario's lines, each handle's in their order, and no others; each verdict is told by the rule of one of the handle's submissions, or it is Stop, behind more callbacks than so many, or behind a resubmission that was refused; and where it ends, nothing is left to be done
abbrev pub IsLived : Scenario → (rounds : ℕ) → List Step → List Entry → Type 0
IsLived s rounds steps lines =
    HasCalls s.plan steps × AreToldSo s.setup (ruled s.plan s.rules) rounds steps × AreCallbacks s.setup steps lines × IsAtRest s.setup (world_from s.setup (new_world s.setup) steps)

-- so it is, and no more than so many were told something
abbrev pub IsLivedWithin : Scenario → (rounds : ℕ) → List Step → List Entry → Type 0
IsLivedWithin s rounds steps lines = IsLived s rounds steps lines × (length lines ≤ rounds)

-- what is written of a scenario that was run in threads with so many callbacks at most, and what is to be told behind it: what its callbacks were told in a run of its lines; and what wasn't finished where that run ends
abbrev pub AppendsCallbacks : Scenario → (rounds : ℕ) → (notes : List ℕ) → Option (List ℕ) → Option (List ℕ) → Type 0
AppendsCallbacks s rounds notes old new =
    (steps : List Step) × (lines : List Entry) × IsLivedWithin s rounds steps lines × (notes ≡ unfinished_text s steps) × Appends old new (lines_text lines)

-- nothing is written, or a beginning of that
abbrev pub AppendsSomeCallbacks : Scenario → (rounds : ℕ) → Option (List ℕ) → Option (List ℕ) → Type 0
AppendsSomeCallbacks s rounds old new =
    Keeps old new ⊎ ((steps : List Step) × (lines : List Entry) × IsLivedWithin s rounds steps lines × AppendsSome (lines_text lines) old new)

-- more than so many callbacks are told something, in a run of the scenario's lines; and this wasn't finished where it ends
abbrev pub GoesOn : Scenario → ℕ → (notes : List ℕ) → Type 0
GoesOn s rounds notes =
    (steps : List Step) × (lines : List Entry) × IsLived s rounds steps lines × (notes ≡ unfinished_text s steps) × (rounds < length lines)

-- a fault of a run in threads with so many callbacks at most, and what is to be told behind it: of memory or of a stream, or there are more
abbrev pub IsOfLive : Scenario → ℕ → (notes : List ℕ) → Fault → Type 0
IsOfLive s rounds notes (Rounds told) = (told ≡ rounds) × GoesOn s rounds notes
IsOfLive s rounds notes fault = IsOfRun fault

-- what may have been written, however it ends: a beginning of that, and nothing where a line is bad
abbrev pub BeginsCallbacks : (rounds : ℕ) → Result Scenario ℕ → Option (List ℕ) → Option (List ℕ) → Type 0
BeginsCallbacks rounds (Ok s) old new = AppendsSomeCallbacks s rounds old new
BeginsCallbacks rounds (Err line) old new = Keeps old new
