use Rattle.std.proofs.Common.{◌≡◌, ◌+◌, ◌<◌, ◌^◌, ◌==◌, length, drop, IfOk, sym, ap, subst, ◌∙◌, arith, rules, tests}
use Rattle.std.proofs.lemmas.List.{length_push}
use Rattle.std.proofs.lemmas.Iterator.Splits.{YieldsList-from_slice_split}
use Rattle.std.proofs.lemmas.Iterator.Consumers.{YieldsList-turn, YieldsList-end}
use Rattle.usb_scripttext.proofs.Counted.{counted}
use Rattle.trace_test.specs.Expanded.{lines_in}
use Rattle.trace_test.specs.Macros.{Known, behind_line, behind_lines, ended}
use Rattle.trace_test.proofs.Lines.{behind-more, behind-end}
use Rattle.trace_test.proofs.macros.unroll.Goals as goal

pub loop-line-preserved : goal.loop-line-preserved
loop-line-preserved c =
    let texts = lines_in c.args.text.now in
    let i = length c.loop-line.yielded in
    let t = YieldsList-turn (YieldsList-from_slice_split {s = c.into_iter-line-iterator.result} _ (λ b. b == 10) c.args.text.now (cc) (cc) (cc) (λ x b q k. search (rules, tests))) c.loop-line.yielded _ c.loop-line.yielded_by _ _ c.in-Some.line c.in-Some.is c.next.ensures.steps in
    let grows = length_push c.loop-line.yielded c.in-Some.line in
    let small : length c.args.text.now < 2 ^ 63 = omega arith in
    let at : c.saturating_add-at.result ≡ i + 1 = counted c.args.text.now i c.loop-line.at _ small t.0 c.loop-line.invariant.counted c.saturating_add-at.ensures in
    let read : c.read.new.self ≡ behind_line (i + 1) c.in-Some.line.now c.loop-line.macros =
    c.in_ok-read.ensures ∙ ap (λ n. behind_line n c.in-Some.line.now c.loop-line.macros) at in
    record {
      counted = at ∙ sym grows;
      rest =
          c.loop-line.invariant.rest ∙ behind-more (i + 1) texts i c.in-Some.line.now c.loop-line.macros t
          ∙ ap (behind_lines (i + 1 + 1) (drop (i + 1) texts)) (sym read)
          ∙ sym (ap (λ n. behind_lines (n + 1) (drop n texts) c.read.new.self) grows);
    }

pub returns : goal.returns
returns c =
    let texts = lines_in c.args.text.now in
    let i = length c.loop-line.yielded in
    let t = YieldsList-end (YieldsList-from_slice_split {s = c.into_iter-line-iterator.result} _ (λ b. b == 10) c.args.text.now (cc) (cc) (cc) (λ x b q k. search (rules, tests))) c.loop-line.yielded _ c.loop-line.yielded_by _ _ c.in-None.is c.next.ensures.steps in
    subst (λ (k : Known). IfOk c.ended.result (λ u. u ≡ ended k)) (sym (c.loop-line.invariant.rest ∙ behind-end (i + 1) texts i c.loop-line.macros (omega (arith, t.1)))) c.ended.ensures
