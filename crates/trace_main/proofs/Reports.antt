-- What a check that finds nothing bad says.
use Rattle.std.proofs.Common.{◌≡◌, ◌≢◌, ◌⊎◌, ◌==◌, ◌<◌, inl, inr, IfSome, IfErr, IfOk, OnOk, refl, ℕ, ◌≤◌, List, [], ◌∷◌, ◌++◌, length, map, Option, Some, None, Result, Ok, Err, sym, ◌∙◌, ap, subst, arith}
use Rattle.std.specs.Io.KnownBytes.{Appends, Keeps}
use Rattle.std.specs.List.{slice_split}
use Rattle.std.proofs.lemmas.List.{nil_from_length}
use Rattle.clap.specs.Faults.{fault_of}
use Rattle.clap.specs.Kinds.{HasKind, Kinds, IsAmong}
use Rattle.clap.specs.Values.{kind_of}
use Rattle.clap.specs.Walk.{Text}
use Rattle.clap.specs.declared.error.Error.{Error}
use Rattle.clap.specs.declared.error.kind.ErrorKind.TheVariants as kind
use Rattle.trace_scenario.proofs.GoodAndBad.{none_bad, scenario_good}
use Rattle.trace_scenario.specs.Counts.{counts_of}
use Rattle.trace_scenario.specs.Findings.{bad_lines, good_lines}
use Rattle.trace_scenario.specs.Scenario.{nothing_said, scenario_of}
use Rattle.trace_run.specs.Tasks.{capture_bytes}
use Rattle.trace_io.specs.CommandLine.{AreBad, AskFor, AskForHelp, grammar}
use Rattle.trace_io.specs.Faults.{fault_of_capture, fault_of_descriptor, message_of, most_drawn, IsOfRun}
use Rattle.trace_io.specs.Input.{longest_input}
use Rattle.trace_io.specs.declared.fault.Fault.{Fault}
use Rattle.trace_io.specs.declared.fault.Fault.TheVariants as why
use Rattle.trace_io.specs.declared.fault.Fault.TheVariants.{Line, Memory, InputOutput, Closed, TooLong, Rounds, Wide}
use Rattle.trace_faults.specs.declared.descriptor_fault.DescriptorFault.{DescriptorFault}
use Rattle.trace_faults.specs.declared.descriptor_fault.DescriptorFault.TheVariants as descriptor
use Rattle.trace_faults.specs.DescriptorFaults.{IsDescriptorFault}
use Rattle.trace_descriptor.specs.Device.{device_text}
use Rattle.trace_test.specs.Tests.{IsOfTest}
use Rattle.trace_faults.specs.declared.capture_fault.CaptureFault.{CaptureFault}
use Rattle.trace_faults.specs.declared.capture_fault.CaptureFault.TheVariants as capture
use Rattle.trace_faults.specs.declared.text_reader.TextReader.{TextReader}
use Rattle.trace_faults.specs.CaptureFaults.{IsCaptureFault}
use Rattle.trace_recorded.specs.Scenario.{recorded_scenario}
use Rattle.trace_scenario.specs.declared.scenario.Scenario.{Scenario}
use Rattle.trace_main.specs.Lived.{lived_in, AppendsCallbacks, GoesOn, IsOfLive}
use Rattle.trace_main.specs.Source.{OfSource, Source, Stands, bad_lines_in, scenario_in, step_lines_in, text_in, told_by, told_number}
use Rattle.trace_main.specs.Program.{status_of, AskForOther, AskForThreads, Begins, BeginsCheck, Draws, EndsLate, FindsDifference, FindsNone, IsAlone, IsBadDescriptor, IsBadLine, IsDone, IsReported, IsSilentAtBad, IsThreaded, Performs, ReadsOther, TellsRest, TellsWhy, FindsUnexpected}
use Rattle.trace_run.specs.declared.tasks.TaskEnd.{TaskEnd}
use Rattle.trace_run.specs.declared.tasks.TaskEnd.TheVariants.{Good, BadLines, NoDevices, Differs, Unexpected}
use Rattle.trace_main.proofs.Begun.{keeps_same, nothing_begun, told_front}
use Rattle.trace_main.proofs.Sources.{told_good}
use Rattle.trace_io.specs.declared.words.Task.{Task}
use Rattle.trace_io.specs.declared.words.Task.TheVariants.{Run, Steps, Packets, Alone, Live, Left, Check, Draw, Page, Capture, Devices, Explain, Test, Device, Describe}
use Rattle.trace_scenario.specs.declared.findings.Counts.{Counts}
use Rattle.trace_scenario.specs.declared.findings.Finding.{Finding}
use Rattle.trace_io.specs.Output.{counts_line, AppendsReport, AppendsSome, AppendsSomeReport}
use Rattle.trace_explain.specs.Explained.{explained_text}
use Rattle.trace_explain.specs.declared.telling.Telling.TheVariants.{Refusals}

-- a result has one value
one_value : (r : Result Scenario ℕ) (a b : Scenario) → r ≡ Ok a → r ≡ Ok b → a ≡ b
one_value (Ok x) a b first second = let same : x ≡ a = cc first in let other : x ≡ b = cc second in sym same ∙ other
one_value (Err line) a b first second = cc

-- a scenario without a bad line is that of its good lines
good_is : (src : Source) (s : Scenario) → bad_lines (text_in src) ≡ [] → scenario_in src ≡ Ok s → good_lines (text_in src) ≡ s
good_is src s none read =
    one_value (scenario_in src) (good_lines (text_in src)) s
    (told_good (told_number src) (scenario_of (text_in src)) (good_lines (text_in src)) (none_bad 1 nothing_said (slice_split (λ b. b == 10) (text_in src)) none)) read

-- a scenario is that of its text
of_text : (number : ℕ → ℕ) (said : Result Scenario ℕ) (s : Scenario) → told_by number said ≡ Ok s → said ≡ Ok s
of_text number (Ok t) s is = is
of_text number (Err line) s is = cc

-- a scenario has no bad line
none_of_good : (src : Source) (s : Scenario) → scenario_in src ≡ Ok s → bad_lines (text_in src) ≡ []
none_of_good src s read = scenario_good 1 nothing_said s (slice_split (λ b. b == 10) (text_in src)) (of_text (told_number src) (scenario_of (text_in src)) s read)

-- a check that finds nothing bad: what is said of the scenario is written
pub all_good : (src : Source) (s : Scenario) (counts : Counts) (old new : Option (List ℕ)) → Stands src → bad_lines (text_in src) ≡ [] → counts ≡ counts_of (good_lines (text_in src)) → scenario_in src ≡ Ok s
    → length src.given ≤ longest_input → Appends old new (counts_line counts ++ explained_text Refusals s.setup s.plan s.rules (step_lines_in src)) → IsDone Check src.given [] old new
all_good src s counts old new stands none said read short written =
    let same : counts ≡ counts_of s = said ∙ ap counts_of (good_is src s none read) in (
      short,
      (
        src,
        refl,
        stands,
        (
          s,
          read,
          (subst (λ c. Appends old new (counts_line c ++ explained_text Refusals s.setup s.plan s.rules (step_lines_in src))) same written, refl),
        ),
      ),
    )

-- or a beginning of it
pub good_begun : (src : Source) (s : Scenario) (counts : Counts) (old new : Option (List ℕ)) → Stands src → bad_lines (text_in src) ≡ [] → counts ≡ counts_of (good_lines (text_in src)) → scenario_in src ≡ Ok s
    → AppendsSome (counts_line counts ++ explained_text Refusals s.setup s.plan s.rules (step_lines_in src)) old new → Begins Check src.given old new
good_begun src s counts old new stands none said read some =
    let same : counts ≡ counts_of s = said ∙ ap counts_of (good_is src s none read) in
    inr (
      src,
      refl,
      stands,
      subst (λ r. BeginsCheck src r old new) (sym read)
          (subst (λ c. AppendsSome (counts_line c ++ explained_text Refusals s.setup s.plan s.rules (step_lines_in src)) old new) same some),
    )

-- of a text with a bad line a beginning of the report
pub bad_begun : (text : List ℕ) (src : Source) (old new : Option (List ℕ)) → src.given ≡ text → Stands src → bad_lines (text_in src) ≢ []
    → AppendsSomeReport (bad_lines_in src) (counts_of (good_lines (text_in src))) old new → Begins Check text old new
bad_begun text src old new given stands some report = inr (src, given, stands, by_read (scenario_in src) refl)
  where
    by_read : (r : Result Scenario ℕ) → scenario_in src ≡ r → BeginsCheck src r old new
    by_read (Ok s) read = absurd (some (none_of_good src s read))
    by_read (Err line) read = report

-- where a bad line was found, there is one
pub some_bad : (text : List ℕ) (bad : List Finding) → map (λ (f : Finding). f.line) bad ≡ bad_lines text → length bad ≢ 0 → bad_lines text ≢ []
some_bad text [] numbers some = absurd (some refl)
some_bad text (f ∷ fs) numbers some = λ none. let gone : f.line ∷ map (λ (g : Finding). g.line) fs ≡ [] = numbers ∙ none in cc

-- a run in threads ends as it may
pub lived : (text : List ℕ) (src : Source) (rounds : ℕ) (s : Scenario) (notes : List ℕ) (old new : Option (List ℕ)) (r : Result TaskEnd Fault) → src.given ≡ text → Stands src → lived_in src ≡ Ok s
    → length text ≤ longest_input → OnOk r (AppendsCallbacks s rounds notes old new) → IfOk r (λ ending. ending ≡ Good) → IfErr r (IsOfLive s rounds notes)
    → IfErr r (λ fault. fault ≡ Rounds rounds → Keeps old new) → Performs (Live rounds) text notes old new r
lived text src rounds s notes old new (Ok Good) given stands read short lines good fault silent = (short, (src, given, stands, (s, read, lines)))
lived text src rounds s notes old new (Ok BadLines) given stands read short lines good fault silent = cc
lived text src rounds s notes old new (Ok NoDevices) given stands read short lines good fault silent = cc
lived text src rounds s notes old new (Ok Differs) given stands read short lines good fault silent = cc
lived text src rounds s notes old new (Ok Unexpected) given stands read short lines good fault silent = cc
lived text src rounds s notes old new (Err (Line line)) given stands read short lines good fault silent = absurd fault
lived text src rounds s notes old new (Err Memory) given stands read short lines good fault silent = tt
lived text src rounds s notes old new (Err InputOutput) given stands read short lines good fault silent = tt
lived text src rounds s notes old new (Err Closed) given stands read short lines good fault silent = tt
lived text src rounds s notes old new (Err TooLong) given stands read short lines good fault silent = absurd fault
lived text src rounds s notes old new (Err (Rounds told)) given stands read short lines good fault silent = (
  ap (λ (n : ℕ). Live n) (sym fault.0),
  silent (ap (λ (n : ℕ). Rounds n) fault.0),
  (src, given, stands, (s, read, subst (λ (n : ℕ). GoesOn s n notes) (sym fault.0) fault.1)),
)
lived text src rounds s notes old new (Err (Wide steps)) given stands read short lines good fault silent = absurd fault
lived text src rounds s notes old new (Err (why.Capture refused)) given stands read short lines good fault silent = absurd fault
lived text src rounds s notes old new (Err (why.Descriptor refused)) given stands read short lines good fault silent = absurd fault

-- a run ends as it may whose capture is written
pub captured : (text : List ℕ) (src : Source) (s : Scenario) (old new : Option (List ℕ)) (r : Result TaskEnd Fault) → src.given ≡ text → Stands src → scenario_in src ≡ Ok s → length text ≤ longest_input
    → OnOk r (Appends old new (capture_bytes (text_in src) s)) → IfOk r (λ ending. ending ≡ Good) → IfErr r (λ fault. IsOfRun fault) → Performs Capture text [] old new r
captured text src s old new (Ok Good) given stands read short file good fault = (short, (src, given, stands, (s, read, (file, refl))))
captured text src s old new (Ok BadLines) given stands read short file good fault = cc
captured text src s old new (Ok NoDevices) given stands read short file good fault = cc
captured text src s old new (Ok Differs) given stands read short file good fault = cc
captured text src s old new (Ok Unexpected) given stands read short file good fault = cc
captured text src s old new (Err (Line line)) given stands read short file good fault = absurd fault
captured text src s old new (Err Memory) given stands read short file good fault = tt
captured text src s old new (Err InputOutput) given stands read short file good fault = tt
captured text src s old new (Err Closed) given stands read short file good fault = tt
captured text src s old new (Err TooLong) given stands read short file good fault = absurd fault
captured text src s old new (Err (Rounds rounds)) given stands read short file good fault = absurd fault
captured text src s old new (Err (Wide steps)) given stands read short file good fault = absurd fault
captured text src s old new (Err (why.Capture refused)) given stands read short file good fault = absurd fault
captured text src s old new (Err (why.Descriptor refused)) given stands read short file good fault = absurd fault

-- a check that ends with status 0 found no bad line
good_status : (text notes : List ℕ) (ended : Result TaskEnd Fault) (status : ℕ) (old new : Option (List ℕ)) → Performs Check text notes old new ended
    → status ≡ status_of ended → status ≡ 0 → OfSource text (λ src. bad_lines (text_in src) ≡ [])
good_status text notes (Ok Good) status old new done same zero = (done.1.0, done.1.1, done.1.2, none_of_good done.1.0 done.1.3.0 done.1.3.1)
good_status text notes (Ok BadLines) status old new done same zero = absurd (omega (arith, same, zero))
good_status text notes (Ok NoDevices) status old new done same zero = absurd (omega (arith, same, zero))
good_status text notes (Ok Differs) status old new done same zero = absurd (omega (arith, same, zero))
good_status text notes (Ok Unexpected) status old new done same zero = absurd (omega (arith, same, zero))
good_status text notes (Err fault) status old new done same zero = absurd (omega (arith, same, zero))

-- words ask for one task
one_task : (words : List Text) (t s : Task) → AskFor words t → AskFor words s → t ≡ s
one_task words t s asks other = let same : Some t ≡ Some s = sym asks.1 ∙ other.1 in cc

-- the same of words that ask for a check, whatever the input has
pub good_input : (words : List Text) (input : Option (List ℕ)) (t : Task) (notes : List ℕ) (ended : Result TaskEnd Fault) (status : ℕ) (old new : Option (List ℕ))
    → AskFor words t → AskFor words Check → IfSome input (λ text. Performs t text notes old new ended) → status ≡ status_of ended
    → IfSome input (λ text. status ≡ 0 → OfSource text (λ src. bad_lines (text_in src) ≡ []))
good_input words None t notes ended status old new asks check ends same = tt
good_input words (Some text) t notes ended status old new asks check ends same =
    good_status text notes ended status old new (subst (λ (x : Task). Performs x text notes old new ended) (one_task words t Check asks check) ends) same

-- what is told of a task that is done
done_rest : (t : Task) (text notes : List ℕ) (ended : Result TaskEnd Fault) (status : ℕ) (old new err_old err_new : Option (List ℕ)) → Performs t text notes old new ended
    → status ≡ status_of ended → OnOk ended (AppendsSome notes err_old err_new) → status ≡ 0 → TellsRest t text old new err_old err_new
done_rest t text notes (Ok Good) status old new err_old err_new ends same noted zero = (notes, ends, noted)
done_rest t text notes (Ok BadLines) status old new err_old err_new ends same noted zero = absurd (omega arith)
done_rest t text notes (Ok NoDevices) status old new err_old err_new ends same noted zero = absurd (omega arith)
done_rest t text notes (Ok Differs) status old new err_old err_new ends same noted zero = absurd (omega arith)
done_rest t text notes (Ok Unexpected) status old new err_old err_new ends same noted zero = absurd (omega arith)
done_rest t text notes (Err fault) status old new err_old err_new ends same noted zero = absurd (omega arith)

-- the same, whatever the input has
pub rest_of : (input : Option (List ℕ)) (t : Task) (notes : List ℕ) (ended : Result TaskEnd Fault) (status : ℕ) (old new err_old err_new : Option (List ℕ))
    → IfSome input (λ text. Performs t text notes old new ended) → status ≡ status_of ended → OnOk ended (AppendsSome notes err_old err_new)
    → status ≡ 0 → IfSome input (λ text. TellsRest t text old new err_old err_new)
rest_of None t notes ended status old new err_old err_new ends same noted zero = tt
rest_of (Some text) t notes ended status old new err_old err_new ends same noted zero = done_rest t text notes ended status old new err_old err_new ends same noted zero

-- nothing is told of a task without notes that ended well
quiet_done : (notes : List ℕ) (ended : Result TaskEnd Fault) (status : ℕ) (err_old err_new : Option (List ℕ)) → notes ≡ [] → OnOk ended (notes ≡ [] → Keeps err_old err_new)
    → status ≡ status_of ended → status ≡ 0 → Keeps err_old err_new
quiet_done notes (Ok ending) status err_old err_new none quiet same zero = quiet none
quiet_done notes (Err fault) status err_old err_new none quiet same zero = absurd (omega arith)

threads_asked : (words : List Text) (t : Task) → AskFor words t → IsThreaded t → AskForThreads words
threads_asked words (Live rounds) asks threaded = (rounds, asks)
threads_asked words Run asks threaded = absurd threaded
threads_asked words Steps asks threaded = absurd threaded
threads_asked words (Packets steps) asks threaded = absurd threaded
threads_asked words (Alone h) asks threaded = absurd threaded
threads_asked words Left asks threaded = absurd threaded
threads_asked words Check asks threaded = absurd threaded
threads_asked words (Draw from to) asks threaded = absurd threaded
threads_asked words Capture asks threaded = absurd threaded
threads_asked words (Devices reader) asks threaded = absurd threaded
threads_asked words (Page from to) asks threaded = absurd threaded
threads_asked words Explain asks threaded = absurd threaded
threads_asked words Test asks threaded = absurd threaded
threads_asked words Device asks threaded = absurd threaded
threads_asked words Describe asks threaded = absurd threaded

-- so nothing is told behind status 0 but by a run in threads
pub quiet_unless_threads : (words : List Text) (t : Task) (notes : List ℕ) (ended : Result TaskEnd Fault) (status : ℕ) (err_old err_new : Option (List ℕ)) → AskFor words t
    → IsThreaded t ⊎ (notes ≡ []) → OnOk ended (notes ≡ [] → Keeps err_old err_new) → status ≡ status_of ended → status ≡ 0 → AskForThreads words ⊎ Keeps err_old err_new
quiet_unless_threads words t notes ended status err_old err_new asks (inl threaded) quiet same zero = inl (threads_asked words t asks threaded)
quiet_unless_threads words t notes ended status err_old err_new asks (inr none) quiet same zero = inr (quiet_done notes ended status err_old err_new none quiet same zero)

-- a check that found bad lines was asked for, and reported
reported : (words : List Text) (input : Option (List ℕ)) (t : Task) (notes : List ℕ) (old new : Option (List ℕ)) → AskFor words t
    → IfSome input (λ text. Performs t text notes old new (Ok BadLines)) → IfSome input (λ text. AskFor words Check × IsReported text old new)
reported words None t notes old new asks ends = tt
reported words (Some text) t notes old new asks ends = (subst (λ (x : Task). AskFor words x) ends.0 asks, ends.1)

-- a capture without devices was asked for
none_found : (words : List Text) (input : Option (List ℕ)) (t : Task) (notes : List ℕ) (old new : Option (List ℕ)) → AskFor words t
    → IfSome input (λ text. Performs t text notes old new (Ok NoDevices)) → IfSome input (λ text. (reader : TextReader) × AskFor words (Devices reader) × FindsNone reader text old new)
none_found words None t notes old new asks ends = tt
none_found words (Some text) t notes old new asks ends = (ends.0, subst (λ (x : Task). AskFor words x) ends.1 asks, ends.2)

-- a test that differs was asked for
difference_found : (words : List Text) (input : Option (List ℕ)) (t : Task) (notes : List ℕ) (old new : Option (List ℕ)) → AskFor words t
    → IfSome input (λ text. Performs t text notes old new (Ok Differs)) → IfSome input (λ text. AskFor words Test × FindsDifference text old new)
difference_found words None t notes old new asks ends = tt
difference_found words (Some text) t notes old new asks ends = (subst (λ (x : Task). AskFor words x) ends.0 asks, ends.1)

-- a line that ended a run is a bad one of the text
line_of : (input : Option (List ℕ)) (t : Task) (line : ℕ) (notes : List ℕ) (old new : Option (List ℕ)) → IfSome input (λ text. Performs t text notes old new (Err (Line line)))
    → IfSome input (λ text. IsBadLine t text line)
line_of None t line notes old new ends = tt
line_of (Some text) t line notes old new ends = ends.0

-- an input that ended a run by its length is longer than one may be
length_of : (input : Option (List ℕ)) (t : Task) (notes : List ℕ) (old new : Option (List ℕ)) → IfSome input (λ text. Performs t text notes old new (Err TooLong))
    → IfSome input (λ text. longest_input < length text)
length_of None t notes old new ends = tt
length_of (Some text) t notes old new ends = ends.0

-- callbacks that ended a run were more than the words allow
late_of : (input : Option (List ℕ)) (t : Task) (rounds : ℕ) (notes : List ℕ) (old new : Option (List ℕ)) → IfSome input (λ text. Performs t text notes old new (Err (Rounds rounds)))
    → IfSome input (λ text. (t ≡ Live rounds) × EndsLate text rounds notes)
late_of None t rounds notes old new ends = tt
late_of (Some text) t rounds notes old new ends = (ends.0, ends.2)

-- a picture that is too wide was asked for
wide_of : (input : Option (List ℕ)) (t : Task) (steps : ℕ) (notes : List ℕ) (old new : Option (List ℕ)) → IfSome input (λ text. Performs t text notes old new (Err (Wide steps)))
    → IfSome input (λ text. (most_drawn < steps) × Draws t)
wide_of None t steps notes old new ends = tt
wide_of (Some text) t steps notes old new ends = (ends.0, ends.2)

-- a capture that is refused was asked for
refused_of : (input : Option (List ℕ)) (t : Task) (refused : CaptureFault) (notes : List ℕ) (old new : Option (List ℕ)) → IfSome input (λ text. Performs t text notes old new (Err (why.Capture refused)))
    → IfSome input (λ text. (reader : TextReader) × (t ≡ Devices reader) × (recorded_scenario reader text ≡ Err refused))
refused_of None t refused notes old new ends = tt
refused_of (Some text) t refused notes old new ends = (ends.0, ends.1, ends.3)

-- a descriptor that is refused was asked for
descriptor_of : (input : Option (List ℕ)) (t : Task) (refused : DescriptorFault) (notes : List ℕ) (old new : Option (List ℕ)) → IfSome input (λ text. Performs t text notes old new (Err (why.Descriptor refused)))
    → IfSome input (λ text. IsBadDescriptor t text refused)
descriptor_of None t refused notes old new ends = tt
descriptor_of (Some text) t refused notes old new ends = ends.0

-- a device that is refused, where the fault is its descriptor's own
pub device_refused : (text : List ℕ) (refused : DescriptorFault) (old new : Option (List ℕ)) → IsDescriptorFault refused (device_text text) → Keeps old new → Performs Device text [] old new (Err (fault_of_descriptor refused))
device_refused text descriptor.NotADescriptor old new is kept = (is, kept)
device_refused text descriptor.NotADevice old new is kept = (is, kept)
device_refused text descriptor.NoConfiguration old new is kept = (is, kept)
device_refused text (descriptor.NotHex place) old new is kept = (is, kept)
device_refused text descriptor.OddDigits old new is kept = (is, kept)
device_refused text (descriptor.Descriptor fault) old new is kept = (is, kept)
device_refused text descriptor.Memory old new is kept = tt

-- and so for a table
pub table_refused : (text : List ℕ) (refused : DescriptorFault) (old new : Option (List ℕ)) → Keeps old new → Performs Describe text [] old new (Err (fault_of_descriptor refused))
table_refused text descriptor.NotADescriptor old new kept = (tt, kept)
table_refused text descriptor.NotADevice old new kept = (tt, kept)
table_refused text descriptor.NoConfiguration old new kept = (tt, kept)
table_refused text (descriptor.NotHex place) old new kept = (tt, kept)
table_refused text descriptor.OddDigits old new kept = (tt, kept)
table_refused text (descriptor.Descriptor fault) old new kept = (tt, kept)
table_refused text descriptor.Memory old new kept = tt

-- a test that comes to no end
pub test_fails : (text : List ℕ) (fault : Fault) (old new : Option (List ℕ)) → IsOfTest text fault → Keeps old new → Performs Test text [] old new (Err fault)
test_fails text (Line line) old new is kept = (is, kept)
test_fails text Memory old new is kept = tt
test_fails text InputOutput old new is kept = tt
test_fails text Closed old new is kept = tt
test_fails text TooLong old new is kept = absurd is
test_fails text (Rounds rounds) old new is kept = absurd is
test_fails text (Wide steps) old new is kept = absurd is
test_fails text (why.Capture refused) old new is kept = absurd is
test_fails text (why.Descriptor refused) old new is kept = absurd is

-- a capture that is refused, where the fault is its own
pub capture_refused : (reader : TextReader) (text : List ℕ) (refused : CaptureFault) (old new : Option (List ℕ)) → IsCaptureFault refused (recorded_scenario reader text) → Keeps old new → Performs (Devices reader) text [] old new (Err (fault_of_capture refused))
capture_refused reader text capture.NotACapture old new is kept = (reader, refl, kept, is)
capture_refused reader text capture.HeaderCutShort old new is kept = (reader, refl, kept, is)
capture_refused reader text (capture.LinkType number) old new is kept = (reader, refl, kept, is)
capture_refused reader text capture.NoInterface old new is kept = (reader, refl, kept, is)
capture_refused reader text (capture.NoDevice ids) old new is kept = (reader, refl, kept, is)
capture_refused reader text capture.Memory old new is kept = tt

-- where a line is bad nothing is written but by a task that reads something else, or tells its bad lines
pub silent_unless : (words : List Text) (input : Option (List ℕ)) (t : Task) (old new : Option (List ℕ)) → AskFor words t → IfSome input (λ text. ReadsOther t ⊎ IsSilentAtBad text old new)
    → IfSome input (λ text. IsSilentAtBad text old new ⊎ AskForHelp words ⊎ AskForOther words)
silent_unless words None t old new asks silent = tt
silent_unless words (Some text) t old new asks (inl other) = inr (inr (t, asks, other))
silent_unless words (Some text) t old new asks (inr silent) = inl silent

-- what is told of a task that ended so
pub told_of : (words : List Text) (input : Option (List ℕ)) (t : Task) (notes : List ℕ) (ended : Result TaskEnd Fault) (status : ℕ) (old new err_old err_new : Option (List ℕ))
    → AskFor words t → IfSome input (λ text. Performs t text notes old new ended) → IfErr ended (IsAlone notes) → status ≡ status_of ended
    → OnOk ended (notes ≡ [] → Keeps err_old err_new) → (ended ≡ Ok BadLines → notes ≡ []) → (ended ≡ Ok NoDevices → notes ≡ []) → (ended ≡ Ok Differs → notes ≡ []) → IfErr ended (λ fault. AppendsSome (message_of fault ++ notes) err_old err_new)
    → status ≡ 1 → TellsWhy words input old new err_old err_new
told_of words input t notes (Ok Good) status old new err_old err_new asks ends bare same quiet none no_device no_difference told one = absurd (omega arith)
told_of words input t notes (Ok BadLines) status old new err_old err_new asks ends bare same quiet none no_device no_difference told one = inl (reported words input t notes old new asks ends, quiet (none refl))
told_of words input t notes (Ok NoDevices) status old new err_old err_new asks ends bare same quiet none no_device no_difference told one =
    inr (inl (none_found words input t notes old new asks ends, quiet (no_device refl)))
told_of words input t notes (Ok Differs) status old new err_old err_new asks ends bare same quiet none no_device no_difference told one =
    inr (inr (inl (difference_found words input t notes old new asks ends, quiet (no_difference refl))))
told_of words input t notes (Ok Unexpected) status old new err_old err_new asks ends bare same quiet none no_device no_difference told one = absurd (omega arith)
told_of words input t notes (Err (Line line)) status old new err_old err_new asks ends bare same quiet none no_device no_difference told one =
    inr (inr (inr (Line line, notes, (t, asks, line_of input t line notes old new ends), bare, told)))
told_of words input t notes (Err Memory) status old new err_old err_new asks ends bare same quiet none no_device no_difference told one = inr (inr (inr (Memory, notes, tt, bare, told)))
told_of words input t notes (Err InputOutput) status old new err_old err_new asks ends bare same quiet none no_device no_difference told one = inr (inr (inr (InputOutput, notes, tt, bare, told)))
told_of words input t notes (Err Closed) status old new err_old err_new asks ends bare same quiet none no_device no_difference told one = inr (inr (inr (Closed, notes, tt, bare, told)))
told_of words input t notes (Err TooLong) status old new err_old err_new asks ends bare same quiet none no_device no_difference told one =
    inr (inr (inr (TooLong, notes, (t, asks, length_of input t notes old new ends), bare, told)))
told_of words input t notes (Err (Rounds rounds)) status old new err_old err_new asks ends bare same quiet none no_device no_difference told one =
    inr (inr (inr (Rounds rounds, notes, (t, asks, late_of input t rounds notes old new ends), tt, told)))
told_of words input t notes (Err (Wide steps)) status old new err_old err_new asks ends bare same quiet none no_device no_difference told one =
    inr (inr (inr (Wide steps, notes, (t, asks, wide_of input t steps notes old new ends), bare, told)))
told_of words input t notes (Err (why.Capture refused)) status old new err_old err_new asks ends bare same quiet none no_device no_difference told one =
    inr (inr (inr (why.Capture refused, notes, (t, asks, refused_of input t refused notes old new ends), bare, told)))
told_of words input t notes (Err (why.Descriptor refused)) status old new err_old err_new asks ends bare same quiet none no_device no_difference told one =
    inr (inr (inr (why.Descriptor refused, notes, (t, asks, descriptor_of input t refused notes old new ends), bare, told)))

-- what a task found whose status is 3
found_in : (input : Option (List ℕ)) (t : Task) (notes : List ℕ) (old new : Option (List ℕ)) → IfSome input (λ text. Performs t text notes old new (Ok Unexpected))
    → IfSome input (λ text. FindsUnexpected t text old new)
found_in None t notes old new ends = tt
found_in (Some text) t notes old new ends = ends.0

pub unexpected_found : (words : List Text) (input : Option (List ℕ)) (t : Task) (notes : List ℕ) (ended : Result TaskEnd Fault) (status : ℕ) (old new : Option (List ℕ))
    → AskFor words t → IfSome input (λ text. Performs t text notes old new ended) → status ≡ status_of ended → status ≡ 3
    → (task : Task) × AskFor words task × IfSome input (λ text. FindsUnexpected task text old new)
unexpected_found words input t notes (Ok Unexpected) status old new asks ends same three = (t, asks, found_in input t notes old new ends)
unexpected_found words input t notes (Ok Good) status old new asks ends same three = absurd (omega arith)
unexpected_found words input t notes (Ok BadLines) status old new asks ends same three = absurd (omega arith)
unexpected_found words input t notes (Ok NoDevices) status old new asks ends same three = absurd (omega arith)
unexpected_found words input t notes (Ok Differs) status old new asks ends same three = absurd (omega arith)
unexpected_found words input t notes (Err fault) status old new asks ends same three = absurd (omega arith)

-- what is told of a fault of memory or of a stream, whatever the words are
pub told_words : (words : List Text) (input : Option (List ℕ)) (fault : Fault) (old new err_old err_new : Option (List ℕ)) → IsOfRun fault → AppendsSome (message_of fault) err_old err_new → TellsWhy words input old new err_old err_new
told_words words input (Line line) old new err_old err_new run told = absurd run
told_words words input Memory old new err_old err_new run told = inr (inr (inr (Memory, [], tt, refl, told_front (message_of Memory) [] err_old err_new told)))
told_words words input InputOutput old new err_old err_new run told = inr (inr (inr (InputOutput, [], tt, refl, told_front (message_of InputOutput) [] err_old err_new told)))
told_words words input Closed old new err_old err_new run told = inr (inr (inr (Closed, [], tt, refl, told_front (message_of Closed) [] err_old err_new told)))
told_words words input TooLong old new err_old err_new run told = absurd run
told_words words input (Rounds rounds) old new err_old err_new run told = absurd run
told_words words input (Wide steps) old new err_old err_new run told = absurd run
told_words words input (why.Capture refused) old new err_old err_new run told = absurd run
told_words words input (why.Descriptor refused) old new err_old err_new run told = absurd run

-- words that are refused are bad
pub words_are_bad : (words : List Text) (error : Error) → HasKind (fault_of grammar words) error
    → (kind_of error ≢ kind.DisplayHelp) × (kind_of error ≢ kind.OutOfMemory) → AreBad words
words_are_bad words error (inl memory) other = absurd (other.1 memory)
words_are_bad words error (inr among) other = (kind_of error, among, other.0)

-- words that ask for a task don't ask for help
no_help : (words : List Text) (t : Task) (error : Error) → HasKind (fault_of grammar words) error → AskFor words t → kind_of error ≡ kind.DisplayHelp → ⊥
no_help words t error (inl memory) asks help = cc
no_help words t error (inr among) asks help = subst (λ (kinds : Kinds). IsAmong (kind_of error) kinds) asks.0 among

-- of words without fault nothing is written
pub unwritten : {W : Type 0} (contents : W → Option (List ℕ)) (old new : W) (error : Error) → (kind_of error ≡ kind.DisplayHelp) ⊎ (new ≡ old)
    → kind_of error ≢ kind.DisplayHelp → Keeps (contents old) (contents new)
unwritten {W = W} contents old new error (inl help) other = absurd (other help)
unwritten {W = W} contents old new error (inr same) other = subst (λ (w : W). Keeps (contents old) (contents w)) (sym same) (keeps_same (contents old))

pub never_begun : {W : Type 0} (contents : W → Option (List ℕ)) (old new : W) (words : List Text) (error : Error) (input : Option (List ℕ))
    → HasKind (fault_of grammar words) error → (kind_of error ≡ kind.DisplayHelp) ⊎ (new ≡ old)
    → (t : Task) → AskFor words t → IfSome input (λ text. Begins t text (contents old) (contents new))
never_begun {W = W} contents old new words error input kinds (inl help) t asks = absurd (no_help words t error kinds asks help)
never_begun {W = W} contents old new words error input kinds (inr same) t asks =
    subst (λ (w : W). IfSome input (λ text. Begins t text (contents old) (contents w))) (sym same) (nothing_begun input t (contents old))
