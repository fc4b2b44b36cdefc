-- A line further each turn.
use Rattle.std.proofs.Common.{◌≡◌, ◌+◌, ◌<◌, ◌^◌, ◌++◌, ◌==◌, length, drop, map, Ok, Err, refl, sym, ap, ◌∙◌, subst, arith, rules, tests}
use Rattle.std.specs.List.{slice_split}
use Rattle.std.proofs.lemmas.List.{length-map, length_push}
use Rattle.std.proofs.lemmas.Iterator.Splits.{YieldsList-from_slice_split}
use Rattle.std.proofs.lemmas.Iterator.Consumers.{YieldsList-turn, YieldsList-end}
use Rattle.trace_scenario.specs.declared.scenario.Scenario.{Scenario}
use Rattle.usb_scripttext.specs.Results.{AnswersAs, fault_at}
use Rattle.trace_scenario.specs.Scenario.{scenario_of, scenario_from, taken_at}
use Rattle.trace_scenario.specs.DeviceLines.{device_lines, device_lines_from}
use Rattle.trace_scenario.specs.StepLines.{numbered, step_lines, step_lines_from}
use Rattle.trace_scenario.proofs.DeviceLines.{described_all, described_more}
use Rattle.trace_scenario.proofs.Runnables.{scenarios_runnable}
use Rattle.trace_scenario.proofs.Scenarios.{scenario-more, scenario-end, faulty}
use Rattle.usb_scripttext.proofs.Counted.{counted}
use Rattle.trace_scenario.proofs.StepLines.{kept_all, kept_more, line_each}
use Rattle.trace_scenario.proofs.lined.read_text.Goals as goal

pub loop-line-init : goal.loop-line-init
loop-line-init c =
    let texts = slice_split (λ b. b == 10) c.args.text.now in
    record {
      counted = refl;
      rest = ap (λ s. scenario_from 1 s texts) (sym c.new-draft.ensures);
      kept = λ keeps. rw (c.new-lines.ensures.items, c.new-draft.ensures) refl;
      described = rw (c.new-devices.ensures.items, c.new-draft.ensures) refl;
    }

pub returns-in-Err-clause-fault : goal.returns-in-Err-clause-fault
returns-in-Err-clause-fault c =
    let texts = slice_split (λ b. b == 10) c.args.text.now in
    let i = length c.loop-line.yielded in
    let t = YieldsList-turn (YieldsList-from_slice_split {s = c.into_iter-line-iterator.result} _ (λ b. b == 10) c.args.text.now (cc) (cc) (cc) (λ x b q k. search (rules, tests))) c.loop-line.yielded _ c.loop-line.yielded_by _ _ c.in-Some.line c.in-Some.is c.next.ensures.steps in
    let small : length c.args.text.now < 2 ^ 63 = omega arith in
    let at : c.saturating_add-number.result ≡ i + 1 = counted c.args.text.now i c.loop-line.number _ small t.0 c.loop-line.invariant.counted c.saturating_add-number.ensures in
    let fault : AnswersAs (Err (fault_at (i + 1) c.in-Err.fault)) (scenario_of c.args.text.now) = faulty c.read.result c.in-Err.fault _ _ _ (i + 1) _ _ c.read.ensures c.in-Err.is (c.loop-line.invariant.rest ∙ scenario-more (i + 1) c.loop-line.draft texts i c.in-Some.line.now t) in
    subst (λ fault. AnswersAs {T = Scenario} (Err fault) (scenario_of c.args.text.now)) (sym (c.at.ensures ∙ ap (λ line. fault_at line c.in-Err.fault) at)) fault

pub loop-line-preserved : goal.loop-line-preserved
loop-line-preserved c =
    let texts = slice_split (λ b. b == 10) c.args.text.now in
    let i = length c.loop-line.yielded in
    let t = YieldsList-turn (YieldsList-from_slice_split {s = c.into_iter-line-iterator.result} _ (λ b. b == 10) c.args.text.now (cc) (cc) (cc) (λ x b q k. search (rules, tests))) c.loop-line.yielded _ c.loop-line.yielded_by _ _ c.in-Some.line c.in-Some.is c.next.ensures.steps in
    let grows = length_push c.loop-line.yielded c.in-Some.line in
    let small : length c.args.text.now < 2 ^ 63 = omega arith in
    let place : c.saturating_add-number.result ≡ i + 1 = counted c.args.text.now i c.loop-line.number _ small t.0 c.loop-line.invariant.counted c.saturating_add-number.ensures in
    let more = scenario-more (i + 1) c.loop-line.draft texts i c.in-Some.line.now t in
    record {
      counted = place ∙ sym grows;
      rest =
          c.loop-line.invariant.rest ∙ more ∙ ap (taken_at (i + 1) (λ s. scenario_from (i + 1 + 1) s (drop (i + 1) texts))) c.in_default.ensures
          ∙ sym (ap (λ n. scenario_from (n + 1) c.read.new.self (drop n texts)) grows);
      kept = λ keeps.
          ap (λ n. map numbered c.keep.new.lines.items ++ step_lines_from (n + 1) c.read.new.self (drop n texts)) grows
          ∙ kept_more texts i c.in-Some.line.now c.loop-line.draft c.read.new.self (map numbered c.loop-line.lines.items) (map numbered c.keep.new.lines.items) (step_lines c.args.text.now)
          c.saturating_add-number.result c.pieces-pieces.result c.pieces.result t c.in_default.ensures place c.pieces-pieces.ensures c.pieces.ensures (c.in-Ok.ensures keeps) (c.loop-line.invariant.kept keeps);
      described =
          ap (λ n. c.keep_device.new.devices.items ++ device_lines_from (n + 1) c.read.new.self (drop n texts)) grows
          ∙ described_more texts i c.in-Some.line.now c.loop-line.draft c.read.new.self c.loop-line.devices.items c.keep_device.new.devices.items (device_lines c.args.text.now)
          c.saturating_add-number.result c.setups-setups.result c.setups.result t c.in_default.ensures place c.setups-setups.ensures c.setups.ensures c.in-Ok-keep_device.ensures c.loop-line.invariant.described;
    }

pub returns-clause-scenario : goal.returns-clause-scenario
returns-clause-scenario c =
    let texts = slice_split (λ b. b == 10) c.args.text.now in
    let t = YieldsList-end (YieldsList-from_slice_split {s = c.into_iter-line-iterator.result} _ (λ b. b == 10) c.args.text.now (cc) (cc) (cc) (λ x b q k. search (rules, tests))) c.loop-line.yielded _ c.loop-line.yielded_by _ _ c.in-None.is c.next.ensures.steps in
    c.loop-line.invariant.rest ∙ scenario-end (length c.loop-line.yielded + 1) c.loop-line.draft texts (length c.loop-line.yielded) (omega (arith, t.1))
    ∙ ap Ok (sym c.into_scenario.ensures)

pub returns-clause-runnable : goal.returns-clause-runnable
returns-clause-runnable c = scenarios_runnable c.args.text.now c.into_scenario.result (returns-clause-scenario c)

pub returns-clause-lines : goal.returns-clause-lines
returns-clause-lines c = λ keeps.
    let texts = slice_split (λ b. b == 10) c.args.text.now in
    let t = YieldsList-end (YieldsList-from_slice_split {s = c.into_iter-line-iterator.result} _ (λ b. b == 10) c.args.text.now (cc) (cc) (cc) (λ x b q k. search (rules, tests))) c.loop-line.yielded _ c.loop-line.yielded_by _ _ c.in-None.is c.next.ensures.steps in
    kept_all texts (length c.loop-line.yielded) c.loop-line.draft (map numbered c.loop-line.lines.items) (step_lines c.args.text.now) (omega (arith, t.1)) (c.loop-line.invariant.kept keeps)

pub returns-clause-devices : goal.returns-clause-devices
returns-clause-devices c =
    let texts = slice_split (λ b. b == 10) c.args.text.now in
    let t = YieldsList-end (YieldsList-from_slice_split {s = c.into_iter-line-iterator.result} _ (λ b. b == 10) c.args.text.now (cc) (cc) (cc) (λ x b q k. search (rules, tests))) c.loop-line.yielded _ c.loop-line.yielded_by _ _ c.in-None.is c.next.ensures.steps in
    described_all texts (length c.loop-line.yielded) c.loop-line.draft c.loop-line.devices.items (device_lines c.args.text.now) (omega (arith, t.1)) c.loop-line.invariant.described

pub returns-clause-each : goal.returns-clause-each
returns-clause-each c = λ keeps.
    sym (length-map c.loop-line.lines.items numbered) ∙ (ap length (returns-clause-lines c keeps) ∙ line_each c.args.text.now c.into_scenario.result (returns-clause-scenario c))
