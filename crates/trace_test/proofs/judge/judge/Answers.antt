-- The scenario's lines are those of its steps, whatever it was read for.
use Rattle.std.proofs.Common.{◌≡◌, ◌∙◌, ℕ, List, [], Ok, ap, length, map, sym, subst}
use Rattle.std.proofs.lemmas.List.{length-map}
use Rattle.trace_run.specs.Tasks.{left_lines}
use Rattle.trace_scenario.specs.Scenario.{scenario_of}
use Rattle.trace_scenario.specs.StepLines.{numbered, step_lines}
use Rattle.trace_scenario.specs.declared.scenario.Scenario.{Scenario}
use Rattle.trace_judged.specs.Text.{unexpected_by}
use Rattle.trace_test.specs.Comparison.{IsAsGoodAs}
use Rattle.trace_test.specs.Expanded.{Expansion, origin_of}
use Rattle.trace_test.specs.Tests.{origin_lines}
use Rattle.trace_test.proofs.Judged.{judged_plainly, one_scenario}
use Rattle.trace_test.proofs.judge.judge.Goals as goal

pub returns-clause-outcome : goal.returns-clause-outcome
returns-clause-outcome c =
    let e = c.in_ok-expanded.expanded in
    let text : c.as_slice.result.now ≡ e.text = c.as_slice.ensures.value ∙ ap (λ (x : Expansion). x.text) c.expanded.view_is in
    let own : map numbered c.as_slice-2.result.now ≡ step_lines e.text = ap (map numbered) c.as_slice-2.ensures.value ∙ (c.in-Ok.ensures.lines ∙ ap step_lines text) in
    let lines : map numbered c.as_slice-3.result.now ≡ origin_lines e =
    ap (map numbered) c.as_slice-3.ensures.value ∙ (c.in_ok-origins.ensures ∙ ap (λ (ls : List (ℕ × List ℕ)). map (λ line. (origin_of e line.0, [])) ls) own) in
    let again : map numbered c.as_slice-4.result.now ≡ map numbered c.as_slice-3.result.now = ap (map numbered) (c.as_slice-4.ensures.value ∙ sym c.as_slice-3.ensures.value) in
    judged_plainly c.args.text.now e c.in-Ok.read.scenario (map numbered c.as_slice-3.result.now)
    c.as_slice-printed.result.now c.as_slice-left.result.now c.in_ok-unexpected.unexpected c.in_ok-outcome.field-0
    c.in_ok-expanded.ensures
    (ap scenario_of (sym text) ∙ c.in-Ok.ensures.scenario)
    lines
    (c.as_slice-printed.ensures.value ∙ c.in_ok-printed.ensures.printed)
    (λ x read. subst (λ (left : List ℕ). IsAsGoodAs c.args.text.now left (left_lines x)) (sym c.as_slice-left.ensures.value) (c.in_ok-left.ensures.left x read))
    (λ x read. c.in_ok-unexpected.ensures x read ∙ ap (unexpected_by e.text x) again)
    c.in_ok-outcome.ensures

-- its lines are as many as its steps
pub written-requires : goal.written-requires
written-requires c = record {
  each = λ s read.
      let e = c.in_ok-expanded.expanded in
      let text : c.as_slice.result.now ≡ e.text = c.as_slice.ensures.value ∙ ap (λ (x : Expansion). x.text) c.expanded.view_is in
      let own : length (map numbered c.as_slice-2.result.now) ≡ length c.in-Ok.read.lines.items = length-map c.as_slice-2.result.now numbered ∙ ap length c.as_slice-2.ensures.value in
      let origins : length c.in_ok-origins.origins.items ≡ length c.in-Ok.read.lines.items =
      sym (length-map c.in_ok-origins.origins.items numbered)
      ∙ (ap length c.in_ok-origins.ensures ∙ (length-map (map numbered c.as_slice-2.result.now) (λ (line : ℕ × List ℕ). (origin_of e line.0, [])) ∙ own)) in
      ap length c.as_slice-4.ensures.value
      ∙ (origins
      ∙ (c.in-Ok.ensures.each
      ∙ ap (λ (x : Scenario). length x.plan) (one_scenario (scenario_of e.text) c.in-Ok.read.scenario s (ap scenario_of (sym text) ∙ c.in-Ok.ensures.scenario) read)));
}
