-- The command line: which words mean which task, by the reading of clap's documentation.
use Rattle.std.specs.Prelude.{◌≡◌, ◌≢◌, ℕ, Bool, ◌∷◌, [], List, Option, Some, None, true, false, codes, if◌then◌else◌, option_map}
use Rattle.std.specs.Option.{option_and_then, option_map_or}
use Rattle.std.specs.Str.{bytes_eq}
use Rattle.std.specs.Str.Parse.{digits_value, without_leading_plus}
use Rattle.clap.specs.Walk.{Row, Rule, Text, first_of, one_of}
use Rattle.clap.specs.Simple.{App, Shape, new_rule, new_shape, subcommand_of}
use Rattle.clap.specs.Kinds.{IsAmong}
use Rattle.clap.specs.Faults.{fault_of}
use Rattle.clap.specs.declared.builder.action.ArgAction.TheVariants.{Set, SetTrue}
use Rattle.clap.specs.declared.builder.value_parser.ValueParser.TheVariants.{Unsigned}
use Rattle.clap.specs.declared.error.kind.ErrorKind.{ErrorKind}
use Rattle.clap.specs.declared.error.kind.ErrorKind.TheVariants.{DisplayHelp}
use Rattle.trace_scenario.specs.Handle.{last_handle}
use Rattle.trace_faults.specs.declared.text_reader.TextReader.{TextReader}
use Rattle.trace_faults.specs.declared.text_reader.TextReader.TheVariants.{Library, Scenario}
use Rattle.trace_io.specs.declared.words.Task.{Task}
use Rattle.trace_io.specs.declared.words.Task.TheVariants.{Run, Steps, Packets, Alone, Live, Left, Check, Draw, Page, Capture, Devices, Explain, Test, Device, Describe}

-- the word H: a whole number from 0 to the last name, which has to be there
abbrev pub handle_word : Rule
handle_word = record (new_rule (codes "H")) { action = Some Set; parser = Some (Unsigned 0 last_handle); required = true }

-- the word --steps: a flag
abbrev pub steps_word : Rule
steps_word = record (new_rule (codes "steps")) { long = Some (codes "steps"); action = Some SetTrue }

-- the word --packets: a flag
abbrev pub packets_word : Rule
packets_word = record (new_rule (codes "packets")) { long = Some (codes "packets"); action = Some SetTrue }

-- run, with --steps and --packets, or one of them
abbrev pub run_words : Shape
run_words = record (new_shape (codes "run")) { rules = steps_word ∷ packets_word ∷ [] }

-- whether a flag is there
abbrev pub is_set : Text → List Row → Bool
is_set id rows = option_map_or (λ text. bytes_eq text (codes "true")) (first_of id rows) false

-- a run, with lines in front of its entries or packets below them
abbrev pub run_by : (packets steps : Bool) → Task
run_by true steps = Packets steps
run_by false true = Steps
run_by false false = Run

-- which run is asked for
abbrev pub run_in : List Row → Task
run_in rows = run_by (is_set (codes "packets") rows) (is_set (codes "steps") rows)

-- alone H
abbrev pub alone_words : Shape
alone_words = record (new_shape (codes "alone")) { rules = handle_word ∷ [] }

-- the word --rounds N: how many callbacks are called at most, a million where it isn't said
abbrev pub rounds_word : Rule
rounds_word = record (new_rule (codes "rounds")) {
  long = Some (codes "rounds");
  action = Some Set;
  value_names = 1;
  defaults = codes "1000000" ∷ [];
  parser = Some (Unsigned 0 18446744073709551615);
}

-- live, or live --rounds N
abbrev pub live_words : Shape
live_words = record (new_shape (codes "live")) { rules = rounds_word ∷ [] }

-- left
abbrev pub left_words : Shape
left_words = new_shape (codes "left")

-- check
abbrev pub check_words : Shape
check_words = new_shape (codes "check")

-- the word --from A: the first line whose steps are drawn, counted from 1
abbrev pub from_word : Rule
from_word = record (new_rule (codes "from")) {
  long = Some (codes "from");
  action = Some Set;
  value_names = 1;
  defaults = codes "1" ∷ [];
  parser = Some (Unsigned 1 18446744073709551615);
}

-- the word --to B: the last
abbrev pub to_word : Rule
to_word = record (new_rule (codes "to")) {
  long = Some (codes "to");
  action = Some Set;
  value_names = 1;
  defaults = codes "18446744073709551615" ∷ [];
  parser = Some (Unsigned 1 18446744073709551615);
}

-- the word --html: a flag
abbrev pub html_word : Rule
html_word = record (new_rule (codes "html")) { long = Some (codes "html"); action = Some SetTrue }

-- draw, with --from A, --to B and --html, or some of them
abbrev pub draw_words : Shape
draw_words = record (new_shape (codes "draw")) { rules = from_word ∷ to_word ∷ html_word ∷ [] }

-- capture
abbrev pub capture_words : Shape
capture_words = new_shape (codes "capture")

-- the word --scenario: a flag
abbrev pub scenario_word : Rule
scenario_word = record (new_rule (codes "scenario")) { long = Some (codes "scenario"); action = Some SetTrue }

-- devices, or devices --scenario
abbrev pub devices_words : Shape
devices_words = record (new_shape (codes "devices")) { rules = scenario_word ∷ [] }

-- for whom the devices of a capture are asked for: for the library, or for a scenario
abbrev pub reader_by : Bool → TextReader
reader_by true = Scenario
reader_by false = Library

abbrev pub devices_in : List Row → Task
devices_in rows = Devices (reader_by (is_set (codes "scenario") rows))

-- explain
abbrev pub explain_words : Shape
explain_words = new_shape (codes "explain")

-- test
abbrev pub test_words : Shape
test_words = new_shape (codes "test")

-- device
abbrev pub device_words : Shape
device_words = new_shape (codes "device")

-- describe
abbrev pub describe_words : Shape
describe_words = new_shape (codes "describe")

-- usbtrace, and then one of its words; there is no subcommand for help
abbrev pub first_words : Shape
first_words = record (new_shape (codes "usbtrace")) { is_leaf = false; disable_help_subcommand = true; subcommand_required = true }

-- the command line before its subcommands are added
abbrev pub program_alone : App
program_alone = record { top = record first_words { is_leaf = true }; subs = [] }

-- the command line with those subcommands alone that print entries
abbrev pub program_of_runs : App
program_of_runs = record { top = first_words; subs = run_words ∷ alone_words ∷ live_words ∷ [] }

-- with those that print something else of a scenario
abbrev pub program_of_scenarios : App
program_of_scenarios = record { top = first_words; subs = run_words ∷ alone_words ∷ live_words ∷ left_words ∷ check_words ∷ draw_words ∷ [] }

-- with those that read or write a capture
abbrev pub program_of_captures : App
program_of_captures = record { top = first_words; subs = run_words ∷ alone_words ∷ live_words ∷ left_words ∷ check_words ∷ draw_words ∷ capture_words ∷ devices_words ∷ [] }

-- with those that say why, and whether a run is as it is to be
abbrev pub program_of_reasons : App
program_of_reasons = record {
  top = first_words;
  subs = run_words ∷ alone_words ∷ live_words ∷ left_words ∷ check_words ∷ draw_words ∷ capture_words ∷ devices_words ∷ explain_words ∷ test_words ∷ [];
}

-- the command line
abbrev pub grammar : App
grammar = record {
  top = first_words;
  subs =
      run_words ∷ alone_words ∷ live_words ∷ left_words ∷ check_words ∷ draw_words ∷ capture_words ∷ devices_words ∷ explain_words ∷ test_words ∷ device_words
      ∷ describe_words ∷ [];
}

-- the number that a word says
abbrev pub number_in : Text → List Row → Option ℕ
number_in id rows = option_map (λ text. digits_value 10 (without_leading_plus text)) (one_of id rows)

-- the number of the handle
abbrev pub handle_in : List Row → Option ℕ
handle_in rows = number_in (codes "H") rows

-- a picture, or a page with one
abbrev pub drawing_by : Bool → ℕ → ℕ → Task
drawing_by false from to = Draw from to
drawing_by true from to = Page from to

-- which picture is asked for
abbrev pub drawing_in : List Row → Option Task
drawing_in rows =
    option_and_then (λ from. option_map (drawing_by (is_set (codes "html") rows) from) (number_in (codes "to") rows)) (number_in (codes "from") rows)

-- the task of a subcommand, by its name and what stands behind it
abbrev pub task_named : Text → List Row → Option Task
task_named name rows =
    if bytes_eq name (codes "alone") then option_map Alone (handle_in rows)
    else (if bytes_eq name (codes "live") then option_map Live (number_in (codes "rounds") rows)
    else (if bytes_eq name (codes "left") then Some Left
    else (if bytes_eq name (codes "check") then Some Check
    else (if bytes_eq name (codes "draw") then drawing_in rows
    else (if bytes_eq name (codes "capture") then Some Capture
    else (if bytes_eq name (codes "devices") then Some (devices_in rows)
    else (if bytes_eq name (codes "explain") then Some Explain
    else (if bytes_eq name (codes "test") then Some Test
    else (if bytes_eq name (codes "device") then Some Device
    else (if bytes_eq name (codes "describe") then Some Describe
    else (if bytes_eq name (codes "run") then Some (run_in rows) else None)))))))))))

-- the task of the subcommand that the words name
abbrev pub task_of : Option (Text × List Row) → Option Task
task_of None = None
task_of (Some named) = task_named named.0 named.1

-- the words, of which the first is the program's name, are without fault and ask for this task
abbrev pub AskFor : List Text → Task → Type 0
AskFor words task = (fault_of grammar words ≡ []) × (task_of (subcommand_of grammar words) ≡ Some task)

-- the words ask for help
abbrev pub AskForHelp : List Text → Type 0
AskForHelp words = IsAmong DisplayHelp (fault_of grammar words)

-- the words have a fault
abbrev pub AreBad : List Text → Type 0
AreBad words = (kind : ErrorKind) × IsAmong kind (fault_of grammar words) × (kind ≢ DisplayHelp)
