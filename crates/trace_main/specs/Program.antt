-- What the program does.
use Rattle.std.specs.Prelude.{◌≡◌, ◌≢◌, ◌≤◌, ◌<◌, ◌⊎◌, ◌++◌, ℕ, Bool, true, false, length, ⊤, IfSome, List, [], Option, Some, None, Result, Ok, Err}
use Rattle.std.specs.Io.KnownBytes.{Appends, Keeps}
use Rattle.trace_io.specs.declared.fault.Fault.{Fault}
use Rattle.trace_io.specs.declared.fault.Fault.TheVariants.{Line, Memory, InputOutput, Closed, TooLong, Rounds, Wide, Capture, Descriptor}
use Rattle.trace_run.specs.declared.tasks.TaskEnd.{TaskEnd}
use Rattle.trace_run.specs.declared.tasks.TaskEnd.TheVariants.{Good, BadLines, NoDevices, Differs, Unexpected}
use Rattle.trace_run.specs.Stepwise.{stepwise_text}
use Rattle.trace_run.specs.Tasks.{AppendsAny, alone_text, capture_bytes, left_lines, run_text}
use Rattle.trace_faults.specs.declared.capture_fault.CaptureFault.{CaptureFault}
use Rattle.trace_recorded.specs.declared.scenario.RecordedScenario.{RecordedScenario}
use Rattle.trace_faults.specs.declared.text_reader.TextReader.{TextReader}
use Rattle.trace_recorded.specs.Scenario.{recorded_scenario}
use Rattle.trace_faults.specs.declared.descriptor_fault.DescriptorFault.{DescriptorFault}
use Rattle.trace_descriptor.specs.Device.{device_text}
use Rattle.trace_explain.specs.Explained.{explained_text}
use Rattle.trace_explain.specs.declared.telling.Telling.{Telling}
use Rattle.trace_explain.specs.declared.telling.Telling.TheVariants.{Reasons, Refusals, Packets, StepPackets}
use Rattle.trace_judged.specs.Text as written
use Rattle.trace_judged.specs.declared.unexpected.Unexpected as judged
use Rattle.trace_test.specs.Tests.{IsOfTest, IsOutcome, outcome_text}
use Rattle.trace_test.specs.declared.difference.Difference.{Difference}
use Rattle.trace_test.specs.declared.difference.TestOutcome.{TestOutcome}
use Rattle.trace_test.specs.declared.difference.TestOutcome.TheVariants as outcome
use Rattle.trace_scenario.specs.declared.scenario.Scenario.{Scenario}
use Rattle.clap.specs.Walk.{Text}
use Rattle.trace_io.specs.CommandLine.{AskFor}
use Rattle.trace_io.specs.declared.words.Task.{Task}
use Rattle.trace_io.specs.declared.words.Task.TheVariants as task
use Rattle.trace_io.specs.Faults.{IsOfRun, message_of, most_drawn}
use Rattle.trace_io.specs.Input.{longest_input}
use Rattle.trace_io.specs.Output.{counts_line, AppendsReport, AppendsSome, AppendsSomeReport}
use Rattle.trace_scenario.specs.Counts.{counts_of}
use Rattle.trace_scenario.specs.Findings.{bad_lines, good_lines}
use Rattle.trace_main.specs.Lived.{lived_in, AppendsCallbacks, BeginsCallbacks, GoesOn}
use Rattle.trace_main.specs.Source.{Source, BeginsOf, OfSource, bad_lines_in, scenario_in, step_lines_in, text_in}

-- a task reads something else than a scenario, or a scenario whose bad lines it tells itself
abbrev pub ReadsOther : Task → Type 0
ReadsOther task.Check = ⊤
ReadsOther (task.Devices reader) = ⊤
ReadsOther task.Test = ⊤
ReadsOther task.Device = ⊤
ReadsOther task.Describe = ⊤
ReadsOther t = ⊥

-- what is told of the run of a scenario
abbrev pub told_text : Telling → Source → Scenario → List ℕ
told_text telling src s = explained_text telling s.setup s.plan s.rules (step_lines_in src)

-- all entries, each behind the line of its step, with their reasons
abbrev pub reasons_text : Source → Scenario → List ℕ
reasons_text src s = told_text Reasons src s

-- packets, below entries that stand behind their lines or alone
abbrev pub packets_told : Bool → Telling
packets_told true = StepPackets
packets_told false = Packets

-- all entries with the packets that moved, perhaps each behind the line of its step
abbrev pub packets_text : Bool → Source → Scenario → List ℕ
packets_text steps src s = told_text (packets_told steps) src s

-- all entries, each behind the line of its step
abbrev pub steps_text : Source → Scenario → List ℕ
steps_text src s = stepwise_text s.setup s.plan s.rules (step_lines_in src)

-- what a check says of a text without a bad line: how much the scenario says, and which lines its run refuses, with the reasons
abbrev pub check_text : Source → Scenario → List ℕ
check_text src s = counts_line (counts_of s) ++ explained_text Refusals s.setup s.plan s.rules (step_lines_in src)

-- what a task prints of a run that is judged: entries, alone or behind their lines, or what is left behind; of another nothing is judged
abbrev pub run_printed : Task → Source → Scenario → Option (List ℕ)
run_printed task.Run src s = Some (run_text s)
run_printed task.Steps src s = Some (steps_text src s)
run_printed task.Left src s = Some (left_lines s)
run_printed t src s = None

-- what the run wrote that isn't as expected: no byte, where all is
abbrev pub judged_text : Source → Scenario → List ℕ
judged_text src s = written.told_text (written.unexpected_by (text_in src) s (step_lines_in src))

-- what such a task prints, with that behind it
abbrev pub with_judged : (Source → Scenario → List ℕ) → Source → Scenario → List ℕ
with_judged printed src s = printed src s ++ judged_text src s

-- behind a run it is told what it wrote that isn't as expected: nothing, where it ends well, and else that
abbrev pub EndsTold : (told : List ℕ) → Option (List ℕ) → Option (List ℕ) → Result TaskEnd Fault → Type 0
EndsTold told old new (Ok Good) = (told ≡ []) × Keeps old new
EndsTold told old new (Ok Unexpected) = (told ≢ []) × Appends old new told
EndsTold told old new (Ok ending) = ⊥
EndsTold told old new (Err fault) = IsOfRun fault × AppendsSome told old new

abbrev pub EndsJudged : Source → Scenario → Option (List ℕ) → Option (List ℕ) → Result TaskEnd Fault → Type 0
EndsJudged src s old new result = EndsTold (judged_text src s) old new result

-- the text is a test of the longest length at most, this came of it, and that is written
abbrev pub WritesOutcome : List ℕ → TestOutcome → Option (List ℕ) → Option (List ℕ) → Type 0
WritesOutcome text outcome old new = IsOutcome text outcome × (length text ≤ longest_input) × Appends old new (outcome_text outcome)

-- what is done with a run that wrote something else than its scenario expects: what the task prints of it is written, and that behind it
abbrev pub PrintsJudged : Task → Option (List ℕ) → Option (List ℕ) → Source → Type 0
PrintsJudged t old new src =
    (s : Scenario) × (printed : List ℕ) × (scenario_in src ≡ Ok s) × (run_printed t src s ≡ Some printed)
    × (judged_text src s ≢ []) × Appends old new (printed ++ judged_text src s)

abbrev pub FindsJudged : Task → List ℕ → Option (List ℕ) → Option (List ℕ) → Type 0
FindsJudged t text old new = (length text ≤ longest_input) × OfSource text (PrintsJudged t old new)

-- what is done with one of any task: of a test whose lines found what they expect what came of it is written
abbrev pub FindsUnexpected : Task → List ℕ → Option (List ℕ) → Option (List ℕ) → Type 0
FindsUnexpected task.Test text old new = (unexpected : judged.Unexpected) × WritesOutcome text (outcome.Unexpected unexpected) old new
FindsUnexpected t text old new = FindsJudged t text old new

-- how a test ends, by what came of it
abbrev pub ending_of : TestOutcome → TaskEnd
ending_of outcome.Passed = Good
ending_of (outcome.Differs difference) = Differs
ending_of (outcome.Unexpected unexpected) = Unexpected

-- the text is a capture of the longest length at most, and the text of its devices is written, for who reads it
abbrev pub WritesRecorded : TextReader → List ℕ → RecordedScenario → Option (List ℕ) → Option (List ℕ) → Type 0
WritesRecorded reader text r old new = (recorded_scenario reader text ≡ Ok r) × (length text ≤ longest_input) × Appends old new r.text

-- the text is a file of descriptors of the longest length at most, and the lines of its device are written
abbrev pub WritesDevice : List ℕ → Option (List ℕ) → Option (List ℕ) → Type 0
WritesDevice text old new = (lines : List ℕ) × (device_text text ≡ Ok lines) × (length text ≤ longest_input) × Appends old new lines

-- what a task that prints such lines may have written, however it ends: a beginning of their text, and nothing where a line is bad
abbrev pub BeginsEntries : (Scenario → List ℕ) → Result Scenario ℕ → Option (List ℕ) → Option (List ℕ) → Type 0
BeginsEntries said (Ok s) old new = AppendsSome (said s) old new
BeginsEntries said (Err line) old new = Keeps old new

-- what a task that draws may have written: any text, and nothing where a line is bad
abbrev pub BeginsPicture : Result Scenario ℕ → Option (List ℕ) → Option (List ℕ) → Type 0
BeginsPicture (Ok s) old new = AppendsAny old new
BeginsPicture (Err line) old new = Keeps old new

-- what a task that reads a capture may have written: a beginning of its scenario, and nothing where it is refused
abbrev pub BeginsRecorded : Result RecordedScenario CaptureFault → Option (List ℕ) → Option (List ℕ) → Type 0
BeginsRecorded (Ok r) old new = AppendsSome r.text old new
BeginsRecorded (Err fault) old new = Keeps old new

-- what a check may have written: a beginning of what it says of a scenario, or of the report on bad lines
abbrev pub BeginsCheck : Source → Result Scenario ℕ → Option (List ℕ) → Option (List ℕ) → Type 0
BeginsCheck src (Ok s) old new = AppendsSome (check_text src s) old new
BeginsCheck src (Err line) old new = AppendsSomeReport (bad_lines_in src) (counts_of (good_lines (text_in src))) old new

-- what a test may have written: a beginning of what came of it
abbrev pub BeginsOutcome : List ℕ → Option (List ℕ) → Option (List ℕ) → Type 0
BeginsOutcome text old new = Keeps old new ⊎ ((outcome : TestOutcome) × IsOutcome text outcome × AppendsSome (outcome_text outcome) old new)

-- what a task that prints a device's lines may have written: a beginning of them, and nothing where the descriptor is refused
abbrev pub BeginsDevice : Result (List ℕ) DescriptorFault → Option (List ℕ) → Option (List ℕ) → Type 0
BeginsDevice (Ok lines) old new = AppendsSome lines old new
BeginsDevice (Err fault) old new = Keeps old new

-- what a word does over a text
pub record Word : Type 1 where
  -- what was done where it ended well, and what is to be told behind it: of a run in threads what wasn't finished, and else nothing
  pub done : (text notes : List ℕ) → (old new : Option (List ℕ)) → Type 0
  -- what it may have written, however it ended: a beginning of what it prints
  pub begun : (text : List ℕ) → (old new : Option (List ℕ)) → Type 0
  -- a line of the text is bad, and ends it
  pub bad_line : (text : List ℕ) → (line : ℕ) → Type 0
  -- a fault of a file of descriptors ends it
  pub bad_descriptor : (text : List ℕ) → DescriptorFault → Type 0

-- one that reads a scenario, or the one that a test stands for, of the longest length at most, in this way, and makes this of it: its first bad line ends it
abbrev pub of_scenario : (read : Source → Result Scenario ℕ) → (Source → Scenario → List ℕ → Option (List ℕ) → Option (List ℕ) → Type 0) → (Source → Option (List ℕ) → Option (List ℕ) → Type 0) → Word
of_scenario read writes begins = record {
  done = λ text notes old new. (length text ≤ longest_input) × OfSource text (λ src. (s : Scenario) × (read src ≡ Ok s) × writes src s notes old new);
  begun = BeginsOf begins;
  bad_line = λ text line. OfSource text (λ src. read src ≡ Err line);
  bad_descriptor = λ text fault. ⊥;
}

-- one that prints this of a scenario
abbrev pub prints : (Source → Scenario → List ℕ) → Word
prints said = of_scenario scenario_in (λ src s notes old new. Appends old new (said src s) × (notes ≡ [])) (λ src old new. BeginsEntries (said src) (scenario_in src) old new)

-- one that prints this of a run that is judged: it ends well where all that was written is as expected
abbrev pub prints_judged : (Source → Scenario → List ℕ) → Word
prints_judged said =
    of_scenario
    scenario_in
    (λ src s notes old new. (judged_text src s ≡ []) × Appends old new (said src s) × (notes ≡ []))
    (λ src old new. BeginsEntries (with_judged said src) (scenario_in src) old new)

-- one that draws, of which no more is said than that it writes something
abbrev pub draws : Word
draws = of_scenario scenario_in (λ src s notes old new. AppendsAny old new × (notes ≡ [])) (λ src old new. BeginsPicture (scenario_in src) old new)

-- one that reads something else, does this with it, and may have written so much
abbrev pub of_another : (List ℕ → List ℕ → Option (List ℕ) → Option (List ℕ) → Type 0) → (List ℕ → Option (List ℕ) → Option (List ℕ) → Type 0) → Word
of_another does begins = record { done = does; begun = begins; bad_line = λ text line. ⊥; bad_descriptor = λ text fault. ⊥ }

-- the devices of a capture, for who reads them: one of them is kept
abbrev pub prints_devices : TextReader → Word
prints_devices reader =
    of_another
    (λ text notes old new. (r : RecordedScenario) × WritesRecorded reader text r old new × (r.has_devices ≡ true) × (notes ≡ []))
    (λ text old new. BeginsRecorded (recorded_scenario reader text) old new)

-- a test that is passed
abbrev pub tests : Word
tests = record (of_another (λ text notes old new. WritesOutcome text outcome.Passed old new × (notes ≡ [])) (λ text old new. BeginsOutcome text old new)) { bad_line = λ text line. IsOfTest text (Line line) }

-- the lines of a device
abbrev pub prints_device : Word
prints_device = record (of_another (λ text notes old new. WritesDevice text old new × (notes ≡ [])) (λ text old new. BeginsDevice (device_text text) old new)) { bad_descriptor = λ text fault. device_text text ≡ Err fault }

-- a table, of which no more is said than that something is written
abbrev pub describes : Word
describes = record (of_another (λ text notes old new. (length text ≤ longest_input) × AppendsAny old new × (notes ≡ [])) (λ text old new. AppendsAny old new)) { bad_descriptor = λ text fault. ⊤ }

-- all entries, perhaps behind their lines, those of one handle alone, what callbacks were told in threads, what is left behind, how much the scenario says and what its run refuses, a picture, a capture, the devices of one, all entries with their reasons or their packets, what came of a test, a device's lines or a table
abbrev pub word_of : Task → Word
word_of task.Run = prints_judged (λ src. run_text)
word_of task.Steps = prints_judged steps_text
word_of (task.Packets steps) = prints (packets_text steps)
word_of (task.Alone h) = prints (λ src. alone_text h)
word_of (task.Live rounds) = of_scenario lived_in (λ src s. AppendsCallbacks s rounds) (λ src old new. BeginsCallbacks rounds (lived_in src) old new)
word_of task.Left = prints_judged (λ src. left_lines)
word_of task.Check = record (prints check_text) { begun = BeginsOf (λ src old new. BeginsCheck src (scenario_in src) old new); bad_line = λ text line. ⊥ }
word_of (task.Draw from to) = draws
word_of (task.Page from to) = draws
word_of task.Capture = prints (λ src. capture_bytes (text_in src))
word_of (task.Devices reader) = prints_devices reader
word_of task.Explain = prints reasons_text
word_of task.Test = tests
word_of task.Device = prints_device
word_of task.Describe = describes

-- what was done by a task that ended well, and is to be told behind it
abbrev pub IsDone : Task → List ℕ → (notes : List ℕ) → Option (List ℕ) → Option (List ℕ) → Type 0
IsDone t text notes old new = (word_of t).done text notes old new

-- what a task may have written, however it ends
abbrev pub Begins : Task → List ℕ → Option (List ℕ) → Option (List ℕ) → Type 0
Begins t text old new = (word_of t).begun text old new

-- a bad line that ends a task: the first of its scenario, or of the one that a test stands for
abbrev pub IsBadLine : Task → List ℕ → ℕ → Type 0
IsBadLine t text line = (word_of t).bad_line text line

-- a fault of a file of descriptors that ends one: that of its device's lines, or, of a table, any
abbrev pub IsBadDescriptor : Task → List ℕ → DescriptorFault → Type 0
IsBadDescriptor t text fault = (word_of t).bad_descriptor text fault

-- what a check does that finds bad lines: a line with the number of each is written, and then how much the good ones say
abbrev pub IsReported : List ℕ → Option (List ℕ) → Option (List ℕ) → Type 0
IsReported text old new =
    (length text ≤ longest_input) × OfSource text (λ src. (bad_lines (text_in src) ≢ []) × AppendsReport (bad_lines_in src) (counts_of (good_lines (text_in src))) old new)

-- what is done with a capture in which no device is kept: what is said of the others is written
abbrev pub FindsNone : TextReader → List ℕ → Option (List ℕ) → Option (List ℕ) → Type 0
FindsNone reader text old new = (r : RecordedScenario) × WritesRecorded reader text r old new × (r.has_devices ≡ false)

-- what is done with a test of which a line differs: that is told
abbrev pub FindsDifference : List ℕ → Option (List ℕ) → Option (List ℕ) → Type 0
FindsDifference text old new = (difference : Difference) × WritesOutcome text (outcome.Differs difference) old new

-- the scenario of a text that is run in threads goes on for more callbacks than so many; and this wasn't finished then
abbrev pub EndsLate : List ℕ → ℕ → (notes : List ℕ) → Type 0
EndsLate text rounds notes = OfSource text (λ src. (s : Scenario) × (lived_in src ≡ Ok s) × GoesOn s rounds notes)

-- a task draws
abbrev pub Draws : Task → Type 0
Draws (task.Draw from to) = ⊤
Draws (task.Page from to) = ⊤
Draws t = ⊥

-- how a task over a text ends, and what is to be told behind that: it is done; or it is a check, and the bad lines are reported; or the text's first bad line is told of and nothing is written; or the text is too long, and nothing is written; or it is run in threads, and more callbacks are told something than may be, and nothing is written; or it draws, there are too many steps, and nothing is written; or it reads a capture, no device is kept, and that is told; or a test differs, and that is told; or the capture or the descriptor is refused, and nothing is written; or a stream or memory failed
abbrev pub Performs : Task → List ℕ → (notes : List ℕ) → Option (List ℕ) → Option (List ℕ) → Result TaskEnd Fault → Type 0
Performs t text notes old new (Ok Good) = IsDone t text notes old new
Performs t text notes old new (Ok BadLines) = (t ≡ task.Check) × IsReported text old new
Performs t text notes old new (Ok NoDevices) = (reader : TextReader) × (t ≡ task.Devices reader) × FindsNone reader text old new
Performs t text notes old new (Ok Differs) = (t ≡ task.Test) × FindsDifference text old new
Performs t text notes old new (Ok Unexpected) = FindsUnexpected t text old new × (notes ≡ [])
Performs t text notes old new (Err (Line line)) = IsBadLine t text line × Keeps old new
Performs t text notes old new (Err Memory) = ⊤
Performs t text notes old new (Err InputOutput) = ⊤
Performs t text notes old new (Err Closed) = ⊤
Performs t text notes old new (Err TooLong) = (longest_input < length text) × Keeps old new
Performs t text notes old new (Err (Rounds rounds)) = (t ≡ task.Live rounds) × Keeps old new × EndsLate text rounds notes
Performs t text notes old new (Err (Wide steps)) = (most_drawn < steps) × Keeps old new × Draws t
Performs t text notes old new (Err (Capture fault)) = (reader : TextReader) × (t ≡ task.Devices reader) × Keeps old new × (recorded_scenario reader text ≡ Err fault)
Performs t text notes old new (Err (Descriptor fault)) = IsBadDescriptor t text fault × Keeps old new

-- nothing is to be told behind a fault, but where a run in threads goes on for too long
abbrev pub IsAlone : (notes : List ℕ) → Fault → Type 0
IsAlone notes (Rounds rounds) = ⊤
IsAlone notes fault = notes ≡ []

-- why what is to be told of a text's run can't be: its first bad line, or memory
abbrev pub IsUntold : Source → Fault → Type 0
IsUntold src (Line line) = scenario_in src ≡ Err line
IsUntold src fault = fault ≡ Memory

-- whether this fault may be what ended a run with these words over this input, and this is to be told behind it: a line is one where the words ask for a task that reads a scenario, and it is the first that is bad for that; an input is too long where they ask for a task and it is; callbacks are too many where they ask for so many at most and a run has more, of which then it is told what wasn't finished; steps are too many where they ask for a picture; a capture is refused where they ask for its devices, and so; a descriptor where they ask for its lines or its table; memory and streams may fail always
abbrev pub MayEnd : List Text → Option (List ℕ) → (notes : List ℕ) → Fault → Type 0
MayEnd words input notes (Line line) = (t : Task) × AskFor words t × IfSome input (λ text. IsBadLine t text line)
MayEnd words input notes Memory = ⊤
MayEnd words input notes InputOutput = ⊤
MayEnd words input notes Closed = ⊤
MayEnd words input notes TooLong = (t : Task) × AskFor words t × IfSome input (λ text. longest_input < length text)
MayEnd words input notes (Rounds rounds) = (t : Task) × AskFor words t × IfSome input (λ text. (t ≡ task.Live rounds) × EndsLate text rounds notes)
MayEnd words input notes (Wide steps) = (t : Task) × AskFor words t × IfSome input (λ text. (most_drawn < steps) × Draws t)
MayEnd words input notes (Capture fault) = (t : Task) × AskFor words t × IfSome input (λ text. (reader : TextReader) × (t ≡ task.Devices reader) × (recorded_scenario reader text ≡ Err fault))
MayEnd words input notes (Descriptor fault) = (t : Task) × AskFor words t × IfSome input (λ text. IsBadDescriptor t text fault)

-- what stands behind status 0: of a task that is done, a beginning of what is to be told behind it is told
abbrev pub TellsRest : Task → List ℕ → Option (List ℕ) → Option (List ℕ) → Option (List ℕ) → Option (List ℕ) → Type 0
TellsRest t text old new err_old err_new = (notes : List ℕ) × IsDone t text notes old new × AppendsSome notes err_old err_new

-- what stands behind status 1: a check reports bad lines, and nothing is told; or no device of a capture is kept, and nothing is told; or a test differs, and nothing is told; or of the message of a fault that may be what ended the run, and of what is to be told behind it, a beginning is told
abbrev pub TellsWhy : List Text → Option (List ℕ) → Option (List ℕ) → Option (List ℕ) → Option (List ℕ) → Option (List ℕ) → Type 0
TellsWhy words input old new err_old err_new =
    (IfSome input (λ text. AskFor words task.Check × IsReported text old new) × Keeps err_old err_new)
    ⊎ (IfSome input (λ text. (reader : TextReader) × AskFor words (task.Devices reader) × FindsNone reader text old new) × Keeps err_old err_new)
    ⊎ (IfSome input (λ text. AskFor words task.Test × FindsDifference text old new) × Keeps err_old err_new)
    ⊎ ((fault : Fault) × (notes : List ℕ) × MayEnd words input notes fault × IsAlone notes fault × AppendsSome (message_of fault ++ notes) err_old err_new)

-- words ask for a task that reads something else than a scenario, or tells its bad lines itself
abbrev pub AskForOther : List Text → Type 0
AskForOther words = (t : Task) × AskFor words t × ReadsOther t

-- words ask for a run in threads
abbrev pub AskForThreads : List Text → Type 0
AskForThreads words = (rounds : ℕ) × AskFor words (task.Live rounds)

-- a task is a run in threads
abbrev pub IsThreaded : Task → Type 0
IsThreaded (task.Live rounds) = ⊤
IsThreaded t = ⊥

-- the status of a task that ended so
abbrev pub status_of : Result TaskEnd Fault → ℕ
status_of (Ok Good) = 0
status_of (Ok BadLines) = 1
status_of (Ok NoDevices) = 1
status_of (Ok Differs) = 1
status_of (Ok Unexpected) = 3
status_of (Err fault) = 1

-- nothing is written, but of a text that stands for a scenario
abbrev pub IsSilentAtBad : List ℕ → Option (List ℕ) → Option (List ℕ) → Type 0
IsSilentAtBad text old new = Keeps old new ⊎ OfSource text (λ src. (s : Scenario) × (scenario_in src ≡ Ok s))
