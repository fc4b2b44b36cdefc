use Rattle.std.proofs.Common.{◌≡◌, ◌+◌, ◌<◌, ◌^◌, ◌==◌, ◌++◌, ◌∷◌, [], ℕ, List, Option, Some, None, length, drop, map, sym, ap, ◌∙◌, arith, rules, tests}
use Rattle.std.specs.List.{slice_split}
use Rattle.std.proofs.lemmas.List.{append-nil, length_push}
use Rattle.std.proofs.lemmas.Iterator.Splits.{YieldsList-from_slice_split}
use Rattle.std.proofs.lemmas.Iterator.Consumers.{YieldsList-turn, YieldsList-end}
use Rattle.usb_scripttext.specs.declared.problem.Problem.{Problem}
use Rattle.trace_scenario.specs.TextResults.{IsJudged}
use Rattle.trace_scenario.specs.Scenario.{with_text}
use Rattle.trace_scenario.specs.Counts.{counts_of}
use Rattle.trace_scenario.specs.Findings.{bad_from, good_from, noted_number}
use Rattle.usb_scripttext.proofs.Counted.{counted}
use Rattle.trace_scenario.proofs.GoodAndBad.{bad-end, good-end, judged_as, noted-more, taken-more}
use Rattle.trace_scenario.proofs.findings.check.Goals as goal

pub loop-words-preserved-in-Continue-branch-3 : goal.loop-words-preserved-in-Continue-branch-3
loop-words-preserved-in-Continue-branch-3 c =
    let texts = slice_split (λ b. b == 10) c.args.text.now in
    let i = length c.loop-words.yielded in
    let t = YieldsList-turn (YieldsList-from_slice_split {s = c.into_iter-words-iterator.result} _ (λ b. b == 10) c.args.text.now (cc) (cc) (cc) (λ x b q k. search (rules, tests))) c.loop-words.yielded _ c.loop-words.yielded_by _ _ c.in-Some.words c.in-Some.is c.next.ensures.steps in
    let grows = length_push c.loop-words.yielded c.in-Some.words in
    let small : length c.args.text.now < 2 ^ 63 = omega arith in
    let at : c.saturating_add-line.result ≡ i + 1 = counted c.args.text.now i c.loop-words.line _ small t.0 c.loop-words.invariant.counted c.saturating_add-line.ensures in
    let judges : IsJudged (Some c.in-Some-2.problem) (with_text c.loop-words.draft c.in-Some.words.now) c.loop-words.draft c.judge.new.self = judged_as _ _ _ _ _ c.in_ok-problem.ensures c.in-Some-2.is in
    let before : List ℕ = map (λ finding. finding.line) c.loop-words.bad.items in
    let after : List ℕ = map (λ finding. finding.line) c.note.new.bad.items in
    let noted : after ≡ before ++ noted_number (i + 1) ((Some c.in-Some-2.problem)) =
    c.in_ok-note.ensures ∙ ap (λ n. before ++ n ∷ []) at in
    record {
      counted = at ∙ sym grows;
      found =
          c.loop-words.invariant.found
          ∙ noted-more ((Some c.in-Some-2.problem)) (i + 1) c.loop-words.draft c.judge.new.self texts i c.in-Some.words.now before after t judges noted
          ∙ sym (ap (λ n. after ++ bad_from (n + 1) c.judge.new.self (drop n texts)) grows);
      taken =
          c.loop-words.invariant.taken
          ∙ taken-more ((Some c.in-Some-2.problem)) (i + 1) c.loop-words.draft c.judge.new.self texts i c.in-Some.words.now t judges
          ∙ sym (ap (λ n. good_from c.judge.new.self (drop n texts)) grows);
    }

pub loop-words-preserved : goal.loop-words-preserved
loop-words-preserved c =
    let problem : Option Problem = None in
    let texts = slice_split (λ b. b == 10) c.args.text.now in
    let i = length c.loop-words.yielded in
    let t = YieldsList-turn (YieldsList-from_slice_split {s = c.into_iter-words-iterator.result} _ (λ b. b == 10) c.args.text.now (cc) (cc) (cc) (λ x b q k. search (rules, tests))) c.loop-words.yielded _ c.loop-words.yielded_by _ _ c.in-Some.words c.in-Some.is c.next.ensures.steps in
    let grows = length_push c.loop-words.yielded c.in-Some.words in
    let small : length c.args.text.now < 2 ^ 63 = omega arith in
    let at : c.saturating_add-line.result ≡ i + 1 = counted c.args.text.now i c.loop-words.line _ small t.0 c.loop-words.invariant.counted c.saturating_add-line.ensures in
    let judges : IsJudged problem (with_text c.loop-words.draft c.in-Some.words.now) c.loop-words.draft c.judge.new.self = judged_as _ _ _ _ _ c.in_ok-problem.ensures c.in_default.is in
    let before : List ℕ = map (λ finding. finding.line) c.loop-words.bad.items in
    let after : List ℕ = before in
    let noted : after ≡ before ++ noted_number (i + 1) problem = sym (append-nil before) in
    record {
      counted = at ∙ sym grows;
      found =
          c.loop-words.invariant.found
          ∙ noted-more problem (i + 1) c.loop-words.draft c.judge.new.self texts i c.in-Some.words.now before after t judges noted
          ∙ sym (ap (λ n. after ++ bad_from (n + 1) c.judge.new.self (drop n texts)) grows);
      taken =
          c.loop-words.invariant.taken
          ∙ taken-more problem (i + 1) c.loop-words.draft c.judge.new.self texts i c.in-Some.words.now t judges
          ∙ sym (ap (λ n. good_from c.judge.new.self (drop n texts)) grows);
    }

pub returns-clause-bad : goal.returns-clause-bad
returns-clause-bad c =
    let texts = slice_split (λ b. b == 10) c.args.text.now in
    let t = YieldsList-end (YieldsList-from_slice_split {s = c.into_iter-words-iterator.result} _ (λ b. b == 10) c.args.text.now (cc) (cc) (cc) (λ x b q k. search (rules, tests))) c.loop-words.yielded _ c.loop-words.yielded_by _ _ c.in-None.is c.next.ensures.steps in
    let i = length c.loop-words.yielded in
    sym (c.loop-words.invariant.found
    ∙ ap (λ xs. map (λ finding. finding.line) c.loop-words.bad.items ++ xs) (bad-end (i + 1) c.loop-words.draft texts i (omega (arith, t.1)))
    ∙ append-nil _)

pub returns-clause-counts : goal.returns-clause-counts
returns-clause-counts c =
    let texts = slice_split (λ b. b == 10) c.args.text.now in
    let t = YieldsList-end (YieldsList-from_slice_split {s = c.into_iter-words-iterator.result} _ (λ b. b == 10) c.args.text.now (cc) (cc) (cc) (λ x b q k. search (rules, tests))) c.loop-words.yielded _ c.loop-words.yielded_by _ _ c.in-None.is c.next.ensures.steps in
    let i = length c.loop-words.yielded in
    c.in_ok-counts.ensures
    ∙ ap counts_of (sym (c.loop-words.invariant.taken ∙ good-end c.loop-words.draft texts i (omega (arith, t.1))))
