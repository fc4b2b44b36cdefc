-- What the program does with words that name no file, and with a test of one.
use Rattle.std.specs.Prelude.{◌≡◌, ◌≤◌, ◌⊎◌, ℕ, false, List, [], Option, Some, None, IfSome, Result, Ok, Err}
use Rattle.std.specs.Io.KnownBytes.{Keeps}
use Rattle.clap.specs.Walk.{Text}
use Rattle.trace_io.specs.CommandLine.{AreBad, AskFor, AskForHelp}
use Rattle.trace_io.specs.declared.fault.Fault.{Fault}
use Rattle.trace_io.specs.declared.words.Task.{Task}
use Rattle.trace_io.specs.declared.words.Task.TheVariants as task
use Rattle.trace_run.specs.declared.tasks.TaskEnd.{TaskEnd}
use Rattle.trace_scenario.specs.Findings.{bad_lines}
use Rattle.trace_options.specs.Inputs.{is_half, may_name_files}
use Rattle.trace_main.specs.Program.{AskForOther, AskForThreads, Begins, FindsUnexpected, IsSilentAtBad, Performs, TellsRest, TellsWhy, status_of}
use Rattle.trace_main.specs.Source.{OfSource, text_in}

-- what comes of these words over this input, by what stood on the streams before and stands there behind, and the status: what is promised of `trace`, clause by clause, but for what it says of an input that isn't read
pub record Traces (words : List Text) (text : List ℕ) (old new err_old err_new : Option (List ℕ)) (status : ℕ) : Type 0 where
  pub within : status ≤ 3
  pub unexpected : status ≡ 3 → (t : Task) × AskFor words t × FindsUnexpected t text old new
  pub done : status ≡ 0 → ((t : Task) × AskFor words t × TellsRest t text old new err_old err_new) ⊎ AskForHelp words
  pub quiet : status ≡ 0 → AskForThreads words ⊎ Keeps err_old err_new
  pub refused : status ≡ 2 → AreBad words × Keeps old new
  pub silent : IsSilentAtBad text old new ⊎ AskForHelp words ⊎ AskForOther words
  pub bad : AskFor words task.Check → status ≡ 0 → OfSource text (λ src. bad_lines (text_in src) ≡ [])
  pub unfinished : (t : Task) → AskFor words t → Begins t text old new
  pub told : status ≡ 1 → TellsWhy words (Some text) old new err_old err_new

-- the same of an input, where its bytes are known, it names no file, and the words ask for no task of which more is told
abbrev pub TracesInput : List Text → Option (List ℕ) → (old new err_old err_new : Option (List ℕ)) → ℕ → Type 0
TracesInput words input old new err_old err_new status =
    ((t : Task) → AskFor words t → is_half t ≡ false) → IfSome input (λ text. may_name_files text ≡ false → Traces words text old new err_old err_new status)

-- the words ask for a task, or the input stays as it is: neither help nor a fault of the words has it read
abbrev pub LeavesInput : {I : Type 0} → List Text → (old new : I) → Type 0
LeavesInput words old new = ((t : Task) × AskFor words t) ⊎ (new ≡ old)

-- how a test ends that isn't in a file by name: as `trace` says of it, and by its status; or the status is 1, since memory was refused behind it
abbrev pub EndsTest : List ℕ → Option (List ℕ) → Option (List ℕ) → ℕ → Type 0
EndsTest text old new status = (ended : Result TaskEnd Fault) × Performs task.Test text [] old new ended × ((status ≡ status_of ended) ⊎ (status ≡ 1))
