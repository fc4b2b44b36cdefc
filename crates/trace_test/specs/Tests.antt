-- What came of a test.
use Rattle.std.specs.Prelude.{◌≡◌, ◌++◌, ◌||◌, ◌==◌, ℕ, nat_eq, Bool, List, [], ◌∷◌, map, codes, Option, Some, None, Ok, Err, if◌then◌else◌}
use Rattle.std.specs.Fmt.{decimal}
use Rattle.std.specs.List.{ends_with, flat_map, list_any}
use Rattle.trace_io.specs.Faults.{IsOfRun}
use Rattle.trace_io.specs.declared.fault.Fault.{Fault}
use Rattle.trace_io.specs.declared.fault.Fault.TheVariants.{Line}
use Rattle.std.specs.Option.{option_map}
use Rattle.trace_judged.specs.declared.difference.Difference as packet
use Rattle.trace_judged.specs.declared.unexpected.Unexpected as told
use Rattle.trace_judged.specs.Report.{unexpected_text}
use Rattle.trace_judged.specs.Text.{unexpected_by}
use Rattle.trace_run.specs.Stepwise.{stepwise_text}
use Rattle.trace_run.specs.Tasks.{left_lines}
use Rattle.trace_scenario.specs.Scenario.{scenario_of}
use Rattle.trace_scenario.specs.StepLines.{step_lines}
use Rattle.trace_scenario.specs.declared.scenario.Scenario.{Scenario}
use Rattle.trace_test.specs.Comparison.{Uncompared, all_of, difference_from}
use Rattle.trace_test.specs.Expanded.{Expansion, Expands, lines_in, origin_of}
use Rattle.trace_test.specs.Macros.{unrolled}
use Rattle.trace_test.specs.declared.difference.Difference.{Difference}
use Rattle.trace_test.specs.declared.difference.TestOutcome.{TestOutcome}
use Rattle.trace_test.specs.declared.difference.TestOutcome.TheVariants.{Passed, Differs, Unexpected}

-- for each step's line of the scenario, the number of the line that it comes from in what the test stands for without macros, and no text
abbrev pub origin_lines : Expansion → List (ℕ × List ℕ)
origin_lines e = map (λ line. (origin_of e line.0, [])) (step_lines e.text)

-- what the scenario's run prints, each entry behind such a number
abbrev pub printed_text : Expansion → Scenario → List ℕ
printed_text e s = stepwise_text s.setup s.plan s.rules (origin_lines e)

-- what is to be compared
abbrev pub uncompared : Expansion → Scenario → Uncompared
uncompared e s = all_of (printed_text e s) (left_lines s)

-- what is told of what the run wrote, by the same numbers
abbrev pub written : Expansion → Scenario → Option told.Unexpected
written e s = unexpected_by e.text s (origin_lines e)

-- what came of a test whose first difference is this, if there is one, and of which this is told, if something is
abbrev pub outcome_by : Option Difference → Option told.Unexpected → TestOutcome
outcome_by (Some difference) unexpected = Differs difference
outcome_by None None = Passed
outcome_by None (Some unexpected) = Unexpected unexpected

-- this came of a test without macros: its lines stand for a scenario, with whose run they were compared
abbrev pub IsPlainOutcome : List ℕ → TestOutcome → Type 0
IsPlainOutcome text outcome =
    (e : Expansion) × (s : Scenario) × Expands text e × (scenario_of e.text ≡ Ok s)
    × (outcome ≡ outcome_by (difference_from 1 (lines_in text) (uncompared e s)) (written e s))

-- a fault of it: a line is bad, by its number, or memory or a stream failed
abbrev pub IsOfPlainTest : List ℕ → Fault → Type 0
IsOfPlainTest text (Line at) = (e : Expansion) × Expands text e × ((line : ℕ) × (scenario_of e.text ≡ Err line) × (at ≡ origin_of e line))
IsOfPlainTest text fault = IsOfRun fault

-- a packet that differs, told by the line that its line comes from
abbrev pub packet_by_origin : Expansion → packet.Difference → packet.Difference
packet_by_origin u difference = record difference { line = origin_of u difference.line }

-- a difference of either kind
abbrev pub by_origin : Expansion → TestOutcome → TestOutcome
by_origin u Passed = Passed
by_origin u (Differs difference) = Differs (record difference { line = origin_of u difference.line })
by_origin u (Unexpected unexpected) = Unexpected (record unexpected { first = option_map (packet_by_origin u) unexpected.first })

-- a bad line, in the same way
abbrev pub fault_by_origin : Expansion → Fault → Fault
fault_by_origin u (Line line) = Line (origin_of u line)
fault_by_origin u fault = fault

-- this came of a test: of what it stands for without macros came the same, and a difference is told by the line of the test
abbrev pub IsOutcome : List ℕ → TestOutcome → Type 0
IsOutcome text outcome = (plain : TestOutcome) × IsPlainOutcome (unrolled text).text plain × (outcome ≡ by_origin (unrolled text) plain)

-- a fault of a test: a line is bad of what it stands for without macros, by its number in the test, or memory or a stream failed
abbrev pub IsOfTest : List ℕ → Fault → Type 0
IsOfTest text (Line at) = (line : ℕ) × IsOfPlainTest (unrolled text).text (Line line) × (at ≡ origin_of (unrolled text) line)
IsOfTest text fault = IsOfRun fault

-- the scenario that a test stands for: what it stands for without macros does, each line with the number of the test's line that it comes from
abbrev pub StandsAs : List ℕ → Expansion → Type 0
StandsAs text e = (plain : Expansion) × Expands (unrolled text).text plain × (e ≡ record { text = plain.text; origins = map (origin_of (unrolled text)) plain.origins })

-- whether a reader would miss something of a text: a carriage return, or a space at its end
abbrev pub hides : List ℕ → Bool
hides text = list_any (λ b. b == 13) text || ends_with nat_eq text (codes " ")

-- a byte that is seen
abbrev pub seen : ℕ → List ℕ
seen b = if b == 13 then codes "\\r" else b ∷ []

-- a text that is seen as it is: between double quotes where a reader would miss something of it
abbrev pub visible : List ℕ → List ℕ
visible text = if hides text then codes "\"" ++ (flat_map seen text ++ codes "\"") else text

-- what is told of a test
abbrev pub outcome_text : TestOutcome → List ℕ
outcome_text Passed = codes "passed\n"
outcome_text (Differs d) =
    codes "line " ++ (decimal d.line ++ (codes " differs\n  wanted " ++ (visible d.wanted ++ (codes "\n  got    " ++ (visible d.got ++ codes "\n")))))
outcome_text (Unexpected unexpected) = unexpected_text unexpected
