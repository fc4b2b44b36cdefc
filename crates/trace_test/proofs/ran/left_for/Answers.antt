-- Where nothing is expected to be left no text is as good as what is; else it is what is left of the one scenario that the text is.
use Rattle.std.proofs.Common.{◌≡◌, ◌∙◌, ℕ, Bool, Bor, List, Result, Ok, Err, IfOk, ap, sym, refl}
use Rattle.std.specs.List.{list_any}
use Rattle.trace_run.specs.Tasks.{left_lines}
use Rattle.trace_scenario.specs.Scenario.{scenario_of}
use Rattle.trace_scenario.specs.declared.scenario.Scenario.{Scenario}
use Rattle.trace_test.specs.Comparison.{IsAsGoodAs, all_of, difference_from, is_of_left, texts_of}
use Rattle.trace_test.specs.Expanded.{Expansion, lines_in}
use Rattle.trace_test.proofs.Judged.{one_scenario}
use Rattle.trace_test.proofs.Unleft.{as_good}
use Rattle.trace_test.proofs.ran.left_for.Goals as goal

pub returns-then-not-expects_left-clause-left : goal.returns-then-not-expects_left-clause-left
returns-then-not-expects_left-clause-left c = λ s read.
    as_good c.args.text.now c.new.result.items (left_lines s) c.in_ok-lines.lines.items c.in_ok-lines.ensures
    (ap (list_any (λ (line : Bor (List ℕ)). is_of_left line.now)) (sym c.as_slice.ensures.value) ∙ (sym c.expects_left.ensures ∙ c.if-not-expects_left.true))

-- what is left of it is as good as what is left of that
as_it_is : (r : Result Scenario ℕ) (text : List ℕ) (a : Scenario) → r ≡ Ok a → (left : List ℕ) → left ≡ left_lines a → (s : Scenario) → r ≡ Ok s → IsAsGoodAs text left (left_lines s)
as_it_is r text a read left is s other printed =
    ap (λ (l : List ℕ). difference_from 1 (lines_in text) (all_of printed l)) (is ∙ ap left_lines (one_scenario r a s read other))

pub returns-clause-left : goal.returns-clause-left
returns-clause-left c =
    let e : Expansion = c.args.expanded.now in
    let text : c.as_slice-2.result.now ≡ e.text = c.as_slice-2.ensures.value ∙ ap (λ (x : Expansion). x.text) c.expanded.view_is in
    by_result c.left.result (λ left. left.items) (ap scenario_of (sym text) ∙ c.in-Ok.ensures.scenario) c.left.ensures.left
  where
    by_result : {X E : Type 0} (r : Result X E) (items : X → List ℕ) → scenario_of c.args.expanded.now.text ≡ Ok c.in-Ok.scenario → IfOk r (λ left. items left ≡ left_lines c.in-Ok.scenario)
        → IfOk r (λ left. (s : Scenario) → scenario_of c.args.expanded.now.text ≡ Ok s → IsAsGoodAs c.args.text.now (items left) (left_lines s))
    by_result (Ok left) items read is = as_it_is (scenario_of c.args.expanded.now.text) c.args.text.now c.in-Ok.scenario read (items left) is
    by_result (Err fault) items read is = tt
