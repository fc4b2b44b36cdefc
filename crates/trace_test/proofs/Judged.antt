-- What came of a test, told by its own lines.
use Rattle.std.proofs.Common.{◌≡◌, ◌∙◌, ℕ, List, Option, Result, Ok, Err, IfOk, IfErr, ap, sym, subst, refl}
use Rattle.trace_io.specs.declared.fault.Fault.{Fault}
use Rattle.trace_io.specs.declared.fault.Fault.TheVariants.{Line, Memory, InputOutput, Closed, TooLong, Rounds, Wide, Capture, Descriptor}
use Rattle.trace_judged.specs.declared.unexpected.Unexpected as told
use Rattle.trace_judged.specs.Text.{unexpected_by}
use Rattle.trace_run.specs.Stepwise.{stepwise_text}
use Rattle.trace_run.specs.Tasks.{left_lines}
use Rattle.trace_scenario.specs.Scenario.{scenario_of}
use Rattle.trace_scenario.specs.declared.scenario.Scenario.{Scenario}
use Rattle.trace_test.specs.Comparison.{IsAsGoodAs, all_of, difference_from}
use Rattle.trace_test.specs.Expanded.{Expansion, Expands, lines_in}
use Rattle.trace_test.specs.Macros.{unrolled}
use Rattle.trace_test.specs.Tests.{IsOfPlainTest, IsOfTest, IsOutcome, IsPlainOutcome, by_origin, fault_by_origin, origin_lines, outcome_by, printed_text, uncompared, written}
use Rattle.trace_test.specs.declared.difference.Difference.{Difference}
use Rattle.trace_test.specs.declared.difference.TestOutcome.{TestOutcome}

pub outcome_told : (text bytes : List ℕ) (u : Expansion) (plain outcome : TestOutcome) → u ≡ unrolled text → bytes ≡ u.text → IsPlainOutcome bytes plain → outcome ≡ by_origin u plain → IsOutcome text outcome
outcome_told text bytes u plain outcome is at came told =
    (plain, subst (λ (b : List ℕ). IsPlainOutcome b plain) (at ∙ ap (λ (e : Expansion). e.text) is) came, told ∙ ap (λ (e : Expansion). by_origin e plain) is)

pub fault_told : (text bytes : List ℕ) (u : Expansion) (plain fault : Fault) → u ≡ unrolled text → bytes ≡ u.text → IsOfPlainTest bytes plain → fault ≡ fault_by_origin u plain → IsOfTest text fault
fault_told text bytes u plain fault is at of told =
    subst (IsOfTest text) (sym (told ∙ ap (λ (e : Expansion). fault_by_origin e plain) is))
    (by_fault plain (subst (λ (b : List ℕ). IsOfPlainTest b plain) (at ∙ ap (λ (e : Expansion). e.text) is) of))
  where
    by_fault : (f : Fault) → IsOfPlainTest (unrolled text).text f → IsOfTest text (fault_by_origin (unrolled text) f)
    by_fault (Line line) h = (line, h, refl)
    by_fault Memory h = h
    by_fault InputOutput h = h
    by_fault Closed h = h
    by_fault TooLong h = h
    by_fault (Rounds n) h = h
    by_fault (Wide n) h = h
    by_fault (Capture f) h = h
    by_fault (Descriptor f) h = h

-- a text is one scenario
pub one_scenario : (r : Result Scenario ℕ) (a b : Scenario) → r ≡ Ok a → r ≡ Ok b → a ≡ b
one_scenario (Ok x) a b first second = let same : x ≡ a = cc first in let other : x ≡ b = cc second in sym same ∙ other
one_scenario (Err line) a b first second = cc

-- what came of a test without macros, by what its run printed, what is as good as what it left, and what is told of what it wrote
pub judged_plainly : (text : List ℕ) (e : Expansion) (s : Scenario) (lines : List (ℕ × List ℕ)) (printed left : List ℕ) (unexpected : Option told.Unexpected) (o : TestOutcome)
    → Expands text e → scenario_of e.text ≡ Ok s → lines ≡ origin_lines e → printed ≡ stepwise_text s.setup s.plan s.rules lines
    → ((x : Scenario) → scenario_of e.text ≡ Ok x → IsAsGoodAs text left (left_lines x))
    → ((x : Scenario) → scenario_of e.text ≡ Ok x → unexpected ≡ unexpected_by e.text x lines)
    → o ≡ outcome_by (difference_from 1 (lines_in text) (all_of printed left)) unexpected
    → IsPlainOutcome text o
judged_plainly text e s lines printed left unexpected o expands read are was behind told came =
    let entries : printed ≡ printed_text e s = was ∙ ap (stepwise_text s.setup s.plan s.rules) are in
    let wrote : unexpected ≡ written e s = told s read ∙ ap (unexpected_by e.text s) are in (
      e,
      s,
      expands,
      read,
      came
          ∙ (ap (λ (p : List ℕ). outcome_by (difference_from 1 (lines_in text) (all_of p left)) unexpected) entries
          ∙ (ap (λ (d : Option Difference). outcome_by d unexpected) (behind s read (printed_text e s))
          ∙ ap (outcome_by (difference_from 1 (lines_in text) (uncompared e s))) wrote)),
    )
