-- A line further each turn.
use Rattle.std.proofs.Common.{◌+◌, ◌++◌, ◌==◌, length, drop, rules, tests, arith, sym, ap, ◌∙◌}
use Rattle.std.specs.Prelude.{filter_map}
use Rattle.std.specs.List.{slice_split}
use Rattle.std.proofs.lemmas.List.{length_push}
use Rattle.std.proofs.lemmas.Iterator.Splits.{YieldsList-from_slice_split}
use Rattle.std.proofs.lemmas.Iterator.Consumers.{YieldsList-turn, YieldsList-end}
use Rattle.trace_scenario.specs.Expectations.{expected_in_line, expected_of}
use Rattle.trace_scenario.proofs.LinesExpected.{no_more, none_more, some_more}
use Rattle.trace_scenario.proofs.expectations.read_expected.Goals as goal

pub loop-line-init : goal.loop-line-init
loop-line-init c = ap (λ l. l ++ expected_of c.args.text.now) c.new-expected.ensures.items

pub loop-line-preserved-in-Continue-branch-3 : goal.loop-line-preserved-in-Continue-branch-3
loop-line-preserved-in-Continue-branch-3 c =
    let texts = slice_split (λ b. b == 10) c.args.text.now in
    let i = length c.loop-line.yielded in
    let t = YieldsList-turn (YieldsList-from_slice_split {s = c.into_iter-line-iterator.result} _ (λ b. b == 10) c.args.text.now (cc) (cc) (cc) (λ x b q k. search (rules, tests))) c.loop-line.yielded _ c.loop-line.yielded_by _ _ c.in-Some.line c.in-Some.is c.next.ensures.steps in
    ap (λ n. c.push.new.self.items ++ filter_map expected_in_line (drop n texts)) (length_push c.loop-line.yielded c.in-Some.line)
    ∙ (ap (λ l. l ++ filter_map expected_in_line (drop (i + 1) texts)) c.in_ok-push.ensures.items
    ∙ some_more expected_in_line texts i c.in-Some.line.now c.in-Some-2.packets c.loop-line.expected.items (expected_of c.args.text.now) t
    (sym c.in_ok-packets.ensures ∙ c.in-Some-2.is) c.loop-line.invariant)

pub loop-line-preserved : goal.loop-line-preserved
loop-line-preserved c =
    let texts = slice_split (λ b. b == 10) c.args.text.now in
    let i = length c.loop-line.yielded in
    let t = YieldsList-turn (YieldsList-from_slice_split {s = c.into_iter-line-iterator.result} _ (λ b. b == 10) c.args.text.now (cc) (cc) (cc) (λ x b q k. search (rules, tests))) c.loop-line.yielded _ c.loop-line.yielded_by _ _ c.in-Some.line c.in-Some.is c.next.ensures.steps in
    ap (λ n. c.loop-line.expected.items ++ filter_map expected_in_line (drop n texts)) (length_push c.loop-line.yielded c.in-Some.line)
    ∙ none_more expected_in_line texts i c.in-Some.line.now c.loop-line.expected.items (expected_of c.args.text.now) t
    (sym c.in_ok-packets.ensures ∙ c.in_default.is) c.loop-line.invariant

pub returns : goal.returns
returns c =
    let texts = slice_split (λ b. b == 10) c.args.text.now in
    let t = YieldsList-end (YieldsList-from_slice_split {s = c.into_iter-line-iterator.result} _ (λ b. b == 10) c.args.text.now (cc) (cc) (cc) (λ x b q k. search (rules, tests))) c.loop-line.yielded _ c.loop-line.yielded_by _ _ c.in-None.is c.next.ensures.steps in
    no_more expected_in_line texts (length c.loop-line.yielded) c.loop-line.expected.items (expected_of c.args.text.now) (omega (arith, t.1)) c.loop-line.invariant
