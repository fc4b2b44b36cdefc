-- A run that is judged: what is printed of it, and what is told behind that.
use Rattle.std.proofs.Common.{◌≡◌, ◌≢◌, ◌≤◌, ◌++◌, ℕ, List, [], length, Option, Some, Result, Ok, Err, inr, refl, sym, subst}
use Rattle.std.specs.Io.KnownBytes.{Appends}
use Rattle.trace_scenario.specs.declared.scenario.Scenario.{Scenario}
use Rattle.trace_io.specs.declared.fault.Fault.{Fault}
use Rattle.trace_io.specs.declared.fault.Fault.TheVariants.{Line, Memory, InputOutput, Closed, TooLong, Rounds, Wide, Capture, Descriptor}
use Rattle.trace_io.specs.declared.words.Task.{Task}
use Rattle.trace_io.specs.Input.{longest_input}
use Rattle.trace_io.specs.Faults.{IsOfRun}
use Rattle.trace_io.specs.Output.{AppendsSome}
use Rattle.trace_io.proofs.Beginnings.{all_of, joined, kept, some_behind, some_of_front, stays}
use Rattle.trace_run.specs.declared.tasks.TaskEnd.{TaskEnd}
use Rattle.trace_run.specs.declared.tasks.TaskEnd.TheVariants.{Good, BadLines, NoDevices, Differs, Unexpected}
use Rattle.trace_main.specs.Program.{BeginsEntries, EndsJudged, FindsJudged, FindsUnexpected, IsBadLine, IsDone, IsUntold, Performs, judged_text, run_printed, with_judged}
use Rattle.trace_main.specs.Source.{BeginsOf, Source, Stands, scenario_in}
use Rattle.trace_main.proofs.Begun.{keeps_same}

-- a fault of a run ends no task but early
pub of_run : (t : Task) (text : List ℕ) (old new : Option (List ℕ)) (fault : Fault) → IsOfRun fault → Performs t text [] old new (Err fault)
of_run t text old new (Line line) is = absurd is
of_run t text old new Memory is = tt
of_run t text old new InputOutput is = tt
of_run t text old new Closed is = tt
of_run t text old new TooLong is = absurd is
of_run t text old new (Rounds rounds) is = absurd is
of_run t text old new (Wide steps) is = absurd is
of_run t text old new (Capture fault) is = absurd is
of_run t text old new (Descriptor fault) is = absurd is

-- a scenario that can't be told ends one by its first bad line, or for want of memory
pub untold_ends : (t : Task) (text : List ℕ) (src : Source) (old : Option (List ℕ)) (fault : Fault) → (((line : ℕ) → scenario_in src ≡ Err line → IsBadLine t text line))
    → IsUntold src fault → Performs t text [] old old (Err fault)
untold_ends t text src old (Line line) bad is = (bad line is, keeps_same old)
untold_ends t text src old Memory bad is = tt
untold_ends t text src old InputOutput bad is = tt
untold_ends t text src old Closed bad is = tt
untold_ends t text src old TooLong bad is = absurd cc
untold_ends t text src old (Rounds rounds) bad is = absurd cc
untold_ends t text src old (Wide steps) bad is = absurd cc
untold_ends t text src old (Capture fault) bad is = absurd cc
untold_ends t text src old (Descriptor fault) bad is = absurd cc

-- how such a task ends: it is done, where nothing differs; else that is told behind what it printed
pub ends_by : (t : Task) (text : List ℕ) (src : Source) (s : Scenario) (printed : List ℕ) (old mid new : Option (List ℕ)) (result : Result TaskEnd Fault)
    → src.given ≡ text → Stands src → scenario_in src ≡ Ok s → length text ≤ longest_input → run_printed t src s ≡ Some printed
    → (judged_text src s ≡ [] → Appends old new printed → IsDone t text [] old new)
    → (FindsJudged t text old new → FindsUnexpected t text old new)
    → Appends old mid printed → EndsJudged src s mid new result → Performs t text [] old new result
ends_by t text src s printed old mid new (Ok Good) given stands said short of done found put told = done told.0 (stays old mid new printed put told.1)
ends_by t text src s printed old mid new (Ok Unexpected) given stands said short of done found put told = (
  found (
    short,
    (
      src,
      given,
      stands,
      (s, printed, said, of, told.0, joined old mid new printed (judged_text src s) (printed ++ judged_text src s) refl put told.1),
    ),
  ),
  refl,
)
ends_by t text src s printed old mid new (Ok BadLines) given stands said short of done found put told = absurd told
ends_by t text src s printed old mid new (Ok NoDevices) given stands said short of done found put told = absurd told
ends_by t text src s printed old mid new (Ok Differs) given stands said short of done found put told = absurd told
ends_by t text src s printed old mid new (Err fault) given stands said short of done found put told = of_run t text old new fault told.0

-- a beginning of what is told is written, however that ends
some_told : (src : Source) (s : Scenario) (mid new : Option (List ℕ)) (result : Result TaskEnd Fault) → EndsJudged src s mid new result → AppendsSome (judged_text src s) mid new
some_told src s mid new (Ok Good) told =
    some_of_front (judged_text src s) [] (judged_text src s) mid new refl (all_of [] mid new (stays mid mid new [] (kept mid) told.1))
some_told src s mid new (Ok Unexpected) told = all_of (judged_text src s) mid new told.1
some_told src s mid new (Ok BadLines) told = absurd told
some_told src s mid new (Ok NoDevices) told = absurd told
some_told src s mid new (Ok Differs) told = absurd told
some_told src s mid new (Err fault) told = told.1

-- a beginning of what is printed of a scenario, by what a text stands for
pub begins_said : (said : Source → Scenario → List ℕ) (text : List ℕ) (src : Source) (s : Scenario) (old new : Option (List ℕ)) → src.given ≡ text → Stands src → scenario_in src ≡ Ok s
    → AppendsSome (said src s) old new → BeginsOf (λ x old new. BeginsEntries (said x) (scenario_in x) old new) text old new
begins_said said text src s old new given stands read some =
    inr (src, given, stands, subst (λ (o : Result Scenario ℕ). BeginsEntries (said src) o old new) (sym read) some)

-- so of all that is told of a run that is judged, behind what was printed
pub begun_by : (text : List ℕ) (src : Source) (s : Scenario) (printed : Source → Scenario → List ℕ) (old mid new : Option (List ℕ)) (result : Result TaskEnd Fault)
    → src.given ≡ text → Stands src → scenario_in src ≡ Ok s → Appends old mid (printed src s) → EndsJudged src s mid new result
    → BeginsOf (λ x old new. BeginsEntries (with_judged printed x) (scenario_in x) old new) text old new
begun_by text src s printed old mid new result given stands said put told =
    begins_said (with_judged printed) text src s old new given stands said
    (some_behind (printed src s ++ judged_text src s) (printed src s) (judged_text src s) old mid new refl put (some_told src s mid new result told))

-- and of what was printed, where that isn't whole
pub begun_front : (text : List ℕ) (src : Source) (s : Scenario) (printed : Source → Scenario → List ℕ) (old new : Option (List ℕ)) → src.given ≡ text → Stands src
    → scenario_in src ≡ Ok s → AppendsSome (printed src s) old new → BeginsOf (λ x old new. BeginsEntries (with_judged printed x) (scenario_in x) old new) text old new
begun_front text src s printed old new given stands said some =
    begins_said (with_judged printed) text src s old new given stands said
    (some_of_front (printed src s ++ judged_text src s) (printed src s) (judged_text src s) old new refl some)
