use Rattle.std.proofs.Common.{◌≡◌, ◌+◌, ◌<◌, ◌^◌, ◌==◌, length, drop, if◌then◌else◌, Some, false, true, sym, ap, ◌∙◌, arith, rules, tests}
use Rattle.std.specs.List.{slice_split}
use Rattle.std.proofs.lemmas.List.{length_push}
use Rattle.std.proofs.lemmas.Iterator.Splits.{YieldsList-from_slice_split}
use Rattle.std.proofs.lemmas.Iterator.Consumers.{YieldsList-turn, YieldsList-end}
use Rattle.trace_scenario.specs.Line.{line_of_text}
use Rattle.usb_scripttext.proofs.Counted.{counted}
use Rattle.trace_main.specs.Lived.{first_unlived, is_unlived}
use Rattle.trace_main.proofs.Unlived.{unlived-more, unlived-end}
use Rattle.trace_main.proofs.lived.first_unlived.Goals as goal

pub loop-line-preserved : goal.loop-line-preserved
loop-line-preserved c =
    let texts = slice_split (λ b. b == 10) c.args.text.now in
    let i = length c.loop-line.yielded in
    let t = YieldsList-turn (YieldsList-from_slice_split {s = c.into_iter-line-iterator.result} _ (λ b. b == 10) c.args.text.now (cc) (cc) (cc) (λ x b q k. search (rules, tests))) c.loop-line.yielded _ c.loop-line.yielded_by _ _ c.in-Some.line c.in-Some.is c.next.ensures.steps in
    let grows = length_push c.loop-line.yielded c.in-Some.line in
    let small : length c.args.text.now < 2 ^ 63 = omega arith in
    let at : c.saturating_add-at.result ≡ i + 1 = counted c.args.text.now i c.loop-line.at _ small t.0 c.loop-line.invariant.counted c.saturating_add-at.ensures in
    let says : is_unlived (line_of_text c.in-Some.line.now) ≡ false = sym c.in_ok-says_unlived.ensures ∙ c.if-branch.false in
    record {
      counted = at ∙ sym grows;
      rest =
          c.loop-line.invariant.rest ∙ unlived-more (i + 1) texts i c.in-Some.line.now t
          ∙ ap (λ b. if b then Some (i + 1) else first_unlived (i + 1 + 1) (drop (i + 1) texts)) says
          ∙ sym (ap (λ n. first_unlived (n + 1) (drop n texts)) grows);
    }

pub returns-then-branch : goal.returns-then-branch
returns-then-branch c =
    let texts = slice_split (λ b. b == 10) c.args.text.now in
    let i = length c.loop-line.yielded in
    let t = YieldsList-turn (YieldsList-from_slice_split {s = c.into_iter-line-iterator.result} _ (λ b. b == 10) c.args.text.now (cc) (cc) (cc) (λ x b q k. search (rules, tests))) c.loop-line.yielded _ c.loop-line.yielded_by _ _ c.in-Some.line c.in-Some.is c.next.ensures.steps in
    let small : length c.args.text.now < 2 ^ 63 = omega arith in
    let at : c.saturating_add-at.result ≡ i + 1 = counted c.args.text.now i c.loop-line.at _ small t.0 c.loop-line.invariant.counted c.saturating_add-at.ensures in
    let says : is_unlived (line_of_text c.in-Some.line.now) ≡ true = sym c.in_ok-says_unlived.ensures ∙ c.if-branch.true in
    ap Some at
    ∙ sym (c.loop-line.invariant.rest ∙ unlived-more (i + 1) texts i c.in-Some.line.now t
    ∙ ap (λ b. if b then Some (i + 1) else first_unlived (i + 1 + 1) (drop (i + 1) texts)) says)

pub returns : goal.returns
returns c =
    let texts = slice_split (λ b. b == 10) c.args.text.now in
    let i = length c.loop-line.yielded in
    let t = YieldsList-end (YieldsList-from_slice_split {s = c.into_iter-line-iterator.result} _ (λ b. b == 10) c.args.text.now (cc) (cc) (cc) (λ x b q k. search (rules, tests))) c.loop-line.yielded _ c.loop-line.yielded_by _ _ c.in-None.is c.next.ensures.steps in
    sym (c.loop-line.invariant.rest ∙ unlived-end (i + 1) texts i (omega (arith, t.1)))
