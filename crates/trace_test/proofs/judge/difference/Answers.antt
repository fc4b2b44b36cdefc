use Rattle.std.proofs.Common.{◌≡◌, ◌+◌, ◌<◌, ◌^◌, ◌==◌, Ok, Err, Some, length, drop, sym, ap, ◌∙◌, arith, rules, tests}
use Rattle.std.proofs.lemmas.List.{length_push}
use Rattle.std.proofs.lemmas.Iterator.Splits.{YieldsList-from_slice_split}
use Rattle.std.proofs.lemmas.Iterator.Consumers.{YieldsList-turn, YieldsList-end}
use Rattle.usb_scripttext.proofs.Counted.{counted}
use Rattle.trace_test.specs.Comparison.{compare_line, compared_as, difference_from, difference_past}
use Rattle.trace_test.specs.Expanded.{lines_in}
use Rattle.trace_test.proofs.Lines.{difference-more, difference-end}
use Rattle.trace_test.proofs.judge.difference.Goals as goal

pub loop-line-preserved : goal.loop-line-preserved
loop-line-preserved c =
    let texts = lines_in c.args.text.now in
    let i = length c.loop-line.yielded in
    let t = YieldsList-turn (YieldsList-from_slice_split {s = c.into_iter-line-iterator.result} _ (λ b. b == 10) c.args.text.now (cc) (cc) (cc) (λ x b q k. search (rules, tests))) c.loop-line.yielded _ c.loop-line.yielded_by _ _ c.in-Some.line c.in-Some.is c.next.ensures.steps in
    let grows = length_push c.loop-line.yielded c.in-Some.line in
    let small : length c.args.text.now < 2 ^ 63 = omega arith in
    let at : c.saturating_add-at.result ≡ i + 1 = counted c.args.text.now i c.loop-line.at _ small t.0 c.loop-line.invariant.counted c.saturating_add-at.ensures in
    let goes_on : compare_line (i + 1) c.in-Some.line.now c.loop-line.unmet ≡ Ok c.compare.new.self =
    ap (λ n. compare_line n c.in-Some.line.now c.loop-line.unmet) (sym at) ∙ c.in_ok-difference.ensures ∙ ap (λ d. compared_as d c.compare.new.self) c.in_default.is in
    record {
      counted = at ∙ sym grows;
      rest =
          c.loop-line.invariant.rest ∙ difference-more (i + 1) texts i c.in-Some.line.now c.loop-line.unmet t
          ∙ ap (difference_past (difference_from (i + 1 + 1) (drop (i + 1) texts))) goes_on
          ∙ sym (ap (λ n. difference_from (n + 1) (drop n texts) c.compare.new.self) grows);
    }

pub returns-in-Some-2 : goal.returns-in-Some-2
returns-in-Some-2 c =
    let texts = lines_in c.args.text.now in
    let i = length c.loop-line.yielded in
    let t = YieldsList-turn (YieldsList-from_slice_split {s = c.into_iter-line-iterator.result} _ (λ b. b == 10) c.args.text.now (cc) (cc) (cc) (λ x b q k. search (rules, tests))) c.loop-line.yielded _ c.loop-line.yielded_by _ _ c.in-Some.line c.in-Some.is c.next.ensures.steps in
    let small : length c.args.text.now < 2 ^ 63 = omega arith in
    let at : c.saturating_add-at.result ≡ i + 1 = counted c.args.text.now i c.loop-line.at _ small t.0 c.loop-line.invariant.counted c.saturating_add-at.ensures in
    let ends : compare_line (i + 1) c.in-Some.line.now c.loop-line.unmet ≡ Err c.in-Some-2.difference =
    ap (λ n. compare_line n c.in-Some.line.now c.loop-line.unmet) (sym at) ∙ c.in_ok-difference.ensures ∙ ap (λ d. compared_as d c.compare.new.self) c.in-Some-2.is in
    sym (c.loop-line.invariant.rest ∙ difference-more (i + 1) texts i c.in-Some.line.now c.loop-line.unmet t
    ∙ ap (difference_past (difference_from (i + 1 + 1) (drop (i + 1) texts))) ends)

pub returns : goal.returns
returns c =
    let texts = lines_in c.args.text.now in
    let i = length c.loop-line.yielded in
    let t = YieldsList-end (YieldsList-from_slice_split {s = c.into_iter-line-iterator.result} _ (λ b. b == 10) c.args.text.now (cc) (cc) (cc) (λ x b q k. search (rules, tests))) c.loop-line.yielded _ c.loop-line.yielded_by _ _ c.in-None.is c.next.ensures.steps in
    sym (c.loop-line.invariant.rest ∙ difference-end (i + 1) texts i c.loop-line.unmet (omega (arith, t.1)))
