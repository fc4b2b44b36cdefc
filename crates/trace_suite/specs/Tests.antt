-- How tests of files are counted.
use Rattle.std.specs.Prelude.{◌≡◌, ◌≢◌, ◌⊎◌, ◌+◌, ◌-◌, ◌^◌, min, ℕ, Bool, true, false, List, [], ◌∷◌}
use Rattle.trace_io.specs.declared.fault.Fault.{Fault}
use Rattle.trace_test.specs.Tests.{IsOfTest, IsOutcome}
use Rattle.trace_test.specs.declared.difference.TestOutcome.{TestOutcome}
use Rattle.trace_test.specs.declared.difference.TestOutcome.TheVariants.{Passed, Differs, Unexpected}
use Rattle.trace_options.specs.Status.{tests_status}
use Rattle.trace_options.specs.declared.files.CommandLine.{CommandLine}
use Rattle.trace_options.specs.declared.files.OutputOption.TheVariants.{Bad}
use Rattle.trace_suite.specs.declared.testing.Counting.{Counting}
use Rattle.trace_suite.specs.declared.testing.Tally.{Tally}

-- one more, as far as a u64 counts
abbrev pub more : ℕ → ℕ
more n = min (n + 1) (2 ^ 64 - 1)

-- one test more, passed or failed
abbrev pub counted : Bool → Tally → Tally
counted true t = record t { passed = more t.passed }
counted false t = record t { failed = more t.failed }

abbrev pub with_one : Bool → Counting → Counting
with_one passed t = record t { tally = counted passed t.tally }

-- no test yet
abbrev pub no_tests : Tally
no_tests = record { passed = 0; failed = 0 }

-- whether a test of which this came is passed: where it is lenient, also with packets that weren't as expected
abbrev pub passes : (lenient : Bool) → TestOutcome → Bool
passes lenient Passed = true
passes lenient (Differs difference) = false
passes lenient (Unexpected unexpected) = lenient

-- a test of this text was made and counted: by what came of it, or as failed, where a fault ended it
pub data CountsTest (text : List ℕ) (old new : Counting) : Type 0 where
  tested : (outcome : TestOutcome) → IsOutcome text outcome → new ≡ with_one (passes old.is_lenient outcome) old → CountsTest text old new
  ended : (fault : Fault) → IsOfTest text fault → new ≡ with_one false old → CountsTest text old new

-- a file was tested and counted, by its text; or it couldn't be read or names one that can't be, and counts as failed
pub data CountsFile (old new : Counting) : Type 0 where
  read : (text : List ℕ) → CountsTest text old new → CountsFile old new
  unread : new ≡ with_one false old → CountsFile old new

-- for each of these, one behind the other, this was counted: each leads to the next
unfoldable pub CountsEach : {P : Type 0} → (Counting → Counting → Type 0) → List P → Counting → Counting → Type 0
CountsEach counts [] old new = new ≡ old
CountsEach counts (p ∷ ps) old new = (between : Counting) × counts old between × CountsEach counts ps between new

-- each of these files was tested
abbrev pub CountsFiles : {P : Type 0} → List P → Counting → Counting → Type 0
CountsFiles files old new = CountsEach CountsFile files old new

-- the files that were found in a folder were, of which there is one at least; or it couldn't be listed or has none, and counts as failed
pub data CountsFolder (old new : Counting) : Type 0 where
  found : (files : List (List ℕ)) → files ≢ [] → CountsFiles files old new → CountsFolder old new
  unfound : new ≡ with_one false old → CountsFolder old new

-- what a path names was: a file, or a folder
pub data CountsPath (old new : Counting) : Type 0 where
  file : CountsFile old new → CountsPath old new
  folder : CountsFolder old new → CountsPath old new

-- each of these paths was
abbrev pub CountsPaths : {P : Type 0} → List P → Counting → Counting → Type 0
CountsPaths paths old new = CountsEach CountsPath paths old new

-- the status of the tests of these paths is that of their tally; or it is 1, where what came of them couldn't be told or written
abbrev pub IsStatusOf : {P : Type 0} → List P → Counting → ℕ → Type 0
IsStatusOf paths old status = ((new : Counting) × CountsPaths paths old new × (status ≡ tests_status new.tally.failed)) ⊎ (status ≡ 1)

-- an option that says where reports go has no word behind it, or stands there twice
abbrev pub HasBadOption : CommandLine → Type 0
HasBadOption line = (line.junit ≡ Bad) ⊎ (line.html ≡ Bad)
