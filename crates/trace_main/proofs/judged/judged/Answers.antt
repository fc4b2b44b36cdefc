-- What is told is told of the one scenario that the text stands for; nothing, where nothing is expected.
use Rattle.std.proofs.Common.{◌≡◌, ◌∙◌, ℕ, List, Option, Result, Ok, Err, IfOk, ap, map, subst, sym}
use Rattle.trace_scenario.specs.StepLines.{numbered}
use Rattle.trace_scenario.specs.declared.expectations.ExpectedPackets.{ExpectedPackets}
use Rattle.trace_scenario.specs.declared.scenario.Scenario.{Scenario}
use Rattle.trace_judged.specs.Text as written
use Rattle.trace_judged.specs.declared.unexpected.Unexpected.{Unexpected}
use Rattle.trace_main.specs.Program.{judged_text}
use Rattle.trace_main.specs.Source.{Source, scenario_in, step_lines_in, text_in}
use Rattle.trace_main.proofs.judged.judged.Goals as goal

-- a text stands for one scenario
one_scenario : (r : Result Scenario ℕ) (a b : Scenario) → r ≡ Ok a → r ≡ Ok b → a ≡ b
one_scenario (Ok x) a b first second = let same : x ≡ a = cc first in let other : x ≡ b = cc second in sym same ∙ other
one_scenario (Err line) a b first second = cc

pub returns-in_default : goal.returns-in_default
returns-in_default c = λ s read.
    let src : Source = c.args.source.now in
    c.new.ensures.items ∙ sym (ap written.told_text (ap (λ (t : List ℕ). written.unexpected_by t s (step_lines_in src)) (sym c.text.ensures) ∙ subst (written.AreExpected c.text.result.now) c.in_default.is c.in_ok-expected.ensures s (step_lines_in src)))

pub returns : goal.returns
returns c = by_result c.told_text.result (λ told. told.items) c.told_text.ensures
  where
    src : Source
    src = c.args.source.now

    read : Scenario
    read = c.in-Ok.field-0.scenario

    entries : List ExpectedPackets
    entries = c.in-Some.expected

    lines : map numbered c.as_slice-3.result.now ≡ step_lines_in src
    lines = cc (c.as_slice-3.ensures.value, c.in_ok-lines.ensures.lines, c.as_slice.ensures.value, c.in-Ok.ensures.lines)

    wrote : (s : Scenario) → scenario_in src ≡ Ok s → c.in_ok-unexpected.unexpected ≡ written.unexpected_by (text_in src) s (step_lines_in src)
    wrote s said =
        c.in_ok-unexpected.ensures
        ∙ (ap (λ (l : List ExpectedPackets). written.unexpected_in l read.setup read.plan read.rules (map numbered c.as_slice-3.result.now)) c.as_slice-2.ensures
        ∙ (ap (written.unexpected_in entries read.setup read.plan read.rules) lines
        ∙ (subst (written.AreExpected c.text.result.now) c.in-Some.is c.in_ok-expected.ensures read (step_lines_in src)
        ∙ (ap (λ (t : List ℕ). written.unexpected_by t read (step_lines_in src)) c.text.ensures
        ∙ ap (λ (x : Scenario). written.unexpected_by (text_in src) x (step_lines_in src)) (one_scenario (scenario_in src) read s c.in-Ok.ensures.scenario said)))))

    by_result : {X E : Type 0} (r : Result X E) (items : X → List ℕ) → IfOk r (λ told. items told ≡ written.told_text c.in_ok-unexpected.unexpected)
        → IfOk r (λ told. (s : Scenario) → scenario_in src ≡ Ok s → items told ≡ judged_text src s)
    by_result (Ok told) items is = λ s said. is ∙ ap written.told_text (wrote s said)
    by_result (Err e) items is = tt
