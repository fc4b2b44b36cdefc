use Rattle.std.proofs.Common.{◌≡◌, ◌+◌, ◌<◌, ◌^◌, ◌==◌, length, drop, refl, sym, subst, ◌∙◌, arith, rules, tests}
use Rattle.std.specs.List.{slice_split}
use Rattle.std.proofs.lemmas.List.{length_push}
use Rattle.std.proofs.lemmas.Iterator.Splits.{YieldsList-from_slice_split}
use Rattle.std.proofs.lemmas.Iterator.Consumers.{YieldsList-turn, YieldsList-end}
use Rattle.usb_scripttext.proofs.Counted.{counted}
use Rattle.trace_test.specs.Expanded.{AddsAll, AddsLine, lines_in}
use Rattle.trace_test.proofs.Lines.{adds-more, adds-end}
use Rattle.trace_test.proofs.expanded.expand_by.Goals as goal

pub loop-line-init : goal.loop-line-init
loop-line-init c = record {
  counted = refl;
  rest = λ e adds. subst (λ new. AddsAll 1 (lines_in c.args.text.now) new e) c.new-expanded.ensures adds;
}

pub loop-line-preserved : goal.loop-line-preserved
loop-line-preserved c =
    let texts = lines_in c.args.text.now in
    let i = length c.loop-line.yielded in
    let t = YieldsList-turn (YieldsList-from_slice_split {s = c.into_iter-line-iterator.result} _ (λ b. b == 10) c.args.text.now (cc) (cc) (cc) (λ x b q k. search (rules, tests))) c.loop-line.yielded _ c.loop-line.yielded_by _ _ c.in-Some.line c.in-Some.is c.next.ensures.steps in
    let grows = length_push c.loop-line.yielded c.in-Some.line in
    let small : length c.args.text.now < 2 ^ 63 = omega arith in
    let at : c.saturating_add-at.result ≡ i + 1 = counted c.args.text.now i c.loop-line.at _ small t.0 c.loop-line.invariant.counted c.saturating_add-at.ensures in
    let adds : AddsLine (i + 1) c.in-Some.line.now c.loop-line.expanded c.add.new.self = subst (λ n. AddsLine n c.in-Some.line.now c.loop-line.expanded c.add.new.self) at c.in_ok-add.ensures in
    record {
      counted = at ∙ sym grows;
      rest = λ e rest.
          c.loop-line.invariant.rest e
          (adds-more (i + 1) texts i c.in-Some.line.now c.loop-line.expanded c.add.new.self e t adds
          (subst (λ n. AddsAll (n + 1) (drop n texts) c.add.new.self e) grows rest));
    }

pub returns : goal.returns
returns c =
    let texts = lines_in c.args.text.now in
    let t = YieldsList-end (YieldsList-from_slice_split {s = c.into_iter-line-iterator.result} _ (λ b. b == 10) c.args.text.now (cc) (cc) (cc) (λ x b q k. search (rules, tests))) c.loop-line.yielded _ c.loop-line.yielded_by _ _ c.in-None.is c.next.ensures.steps in
    c.loop-line.invariant.rest c.loop-line.expanded (adds-end (length c.loop-line.yielded + 1) texts (length c.loop-line.yielded) c.loop-line.expanded (omega (arith, t.1)))
