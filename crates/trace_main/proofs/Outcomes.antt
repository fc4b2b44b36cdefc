-- A test ends as what came of it says, or early.
use Rattle.std.proofs.Common.{◌≡◌, ◌⊎◌, ℕ, ◌≤◌, List, [], Option, Ok, inr, length, refl, subst, sym}
use Rattle.std.specs.Io.KnownBytes.{Appends}
use Rattle.trace_io.specs.Input.{longest_input}
use Rattle.trace_io.specs.Output.{AppendsSome}
use Rattle.trace_io.specs.declared.words.Task.TheVariants.{Test}
use Rattle.trace_run.specs.declared.tasks.TaskEnd.{TaskEnd}
use Rattle.trace_test.specs.Tests.{IsOutcome, outcome_text}
use Rattle.trace_test.specs.declared.difference.TestOutcome.{TestOutcome}
use Rattle.trace_test.specs.declared.difference.TestOutcome.TheVariants.{Passed, Differs, Unexpected}
use Rattle.trace_main.specs.Program.{Begins, Performs, ending_of}

-- what came of it is written
pub test_ends : (text : List ℕ) (o : TestOutcome) (ending : TaskEnd) (old new : Option (List ℕ)) → IsOutcome text o → length text ≤ longest_input → Appends old new (outcome_text o) → ending ≡ ending_of o
    → Performs Test text [] old new (Ok ending)
test_ends text o ending old new is short put same = subst (λ (e : TaskEnd). Performs Test text [] old new (Ok e)) (sym same) (by_outcome o is put)
  where
    by_outcome : (o : TestOutcome) → IsOutcome text o → Appends old new (outcome_text o) → Performs Test text [] old new (Ok (ending_of o))
    by_outcome Passed is put = ((is, short, put), refl)
    by_outcome (Differs difference) is put = (refl, (difference, (is, short, put)))
    by_outcome (Unexpected unexpected) is put = ((unexpected, (is, short, put)), refl)

-- or a beginning of it
pub outcome_begun : (text : List ℕ) (o : TestOutcome) (old new : Option (List ℕ)) → IsOutcome text o → AppendsSome (outcome_text o) old new → Begins Test text old new
outcome_begun text o old new is some = inr (o, is, some)
