-- Good and bad lines, told apart one after another.
use Rattle.std.proofs.Common.{◌≡◌, ℕ, ◌+◌, ◌<◌, ◌≤◌, List, [], ◌∷◌, ◌++◌, length, get_or, drop, Option, Some, None, Ok, Err, refl, sym, ◌∙◌, ap, subst, unwrap_or, append_assoc}
use Rattle.std.proofs.lemmas.List.{at_drop_more, at_drop_all}
use Rattle.trace_scenario.specs.declared.scenario.Scenario.{Scenario}
use Rattle.trace_scenario.specs.Scenario.{scenario_from, taken_at, with_text}
use Rattle.trace_scenario.specs.TextResults.{IsJudged}
use Rattle.trace_scenario.specs.Findings.{bad_from, bad_number, behind_line, good_from, noted_number}

-- one line of those that are left: its number where it is bad, and the others
pub bad-more : (at : ℕ) (s : Scenario) (texts : List (List ℕ)) (i : ℕ) (text : List ℕ)
    → (i < length texts) × (text ≡ get_or texts i text)
    → bad_from at s (drop i texts) ≡ bad_number at (with_text s text) ++ bad_from (at + 1) (behind_line s text) (drop (i + 1) texts)
unfolding bad_from
bad-more at s texts i text here =
    at_drop_more (bad_from at s) texts i text here.0
    ∙ ap (λ line. bad_number at (with_text s line) ++ bad_from (at + 1) (behind_line s line) (drop (i + 1) texts)) (sym here.1)

-- none is left
pub bad-end : (at : ℕ) (s : Scenario) (texts : List (List ℕ)) (i : ℕ) → length texts ≤ i → bad_from at s (drop i texts) ≡ []
unfolding bad_from
bad-end at s texts i end = at_drop_all (bad_from at s) texts i end

-- one line of those that are left, taken where it is good
pub good-more : (s : Scenario) (texts : List (List ℕ)) (i : ℕ) (text : List ℕ)
    → (i < length texts) × (text ≡ get_or texts i text)
    → good_from s (drop i texts) ≡ good_from (behind_line s text) (drop (i + 1) texts)
unfolding good_from
good-more s texts i text here =
    at_drop_more (good_from s) texts i text here.0
    ∙ ap (λ line. good_from (behind_line s line) (drop (i + 1) texts)) (sym here.1)

-- none is left
pub good-end : (s : Scenario) (texts : List (List ℕ)) (i : ℕ) → length texts ≤ i → good_from s (drop i texts) ≡ s
unfolding good_from
good-end s texts i end = at_drop_all (good_from s) texts i end

-- the number that is noted of a line that was judged, and the scenario behind it
pub judged : {P : Type 0} (problem : Option P) (said : Option Scenario) (old new : Scenario) (at : ℕ) → IsJudged problem said old new
    → (noted_number at problem ≡ bad_number at said) × (new ≡ unwrap_or said old)
judged None said old new at good = (sym (ap (bad_number at) good), sym (ap (λ o. unwrap_or o old) good))
judged (Some problem) said old new at bad = (sym (ap (bad_number at) bad.0), bad.1 ∙ sym (ap (λ o. unwrap_or o old) bad.0))

-- how a line was judged, where that is known
pub judged_as : {P : Type 0} (r problem : Option P) (said : Option Scenario) (old new : Scenario) → IsJudged r said old new → r ≡ problem
    → IsJudged problem said old new
judged_as {P} r problem said old new judges is = subst (λ (o : Option P). IsJudged o said old new) is judges

-- one more line is judged: the numbers noted so far and this one, before those of the others
pub noted-more : {P : Type 0} (problem : Option P) (at : ℕ) (s new : Scenario) (texts : List (List ℕ)) (i : ℕ) (text : List ℕ) (before after : List ℕ)
    → (i < length texts) × (text ≡ get_or texts i text) → IsJudged problem (with_text s text) s new
    → after ≡ before ++ noted_number at problem
    → before ++ bad_from at s (drop i texts) ≡ after ++ bad_from (at + 1) new (drop (i + 1) texts)
noted-more problem at s new texts i text before after here judges noted =
    let j = judged problem (with_text s text) s new at judges in
    let rest = bad_from (at + 1) new (drop (i + 1) texts) in
    ap (λ xs. before ++ xs) (
    bad-more at s texts i text here
    ∙ ap (λ xs. xs ++ bad_from (at + 1) (behind_line s text) (drop (i + 1) texts)) (sym j.0)
    ∙ ap (λ t. noted_number at problem ++ bad_from (at + 1) t (drop (i + 1) texts)) (sym j.1)
    )
    ∙ sym (append_assoc before (noted_number at problem) rest)
    ∙ ap (λ xs. xs ++ rest) (sym noted)

-- and the scenario behind it
pub taken-more : {P : Type 0} (problem : Option P) (at : ℕ) (s new : Scenario) (texts : List (List ℕ)) (i : ℕ) (text : List ℕ)
    → (i < length texts) × (text ≡ get_or texts i text) → IsJudged problem (with_text s text) s new
    → good_from s (drop i texts) ≡ good_from new (drop (i + 1) texts)
taken-more problem at s new texts i text here judges =
    let j = judged problem (with_text s text) s new at judges in
    good-more s texts i text here ∙ ap (λ t. good_from t (drop (i + 1) texts)) (sym j.1)

-- without bad lines the scenario is that of the good ones
pub none_bad : (at : ℕ) (s : Scenario) (texts : List (List ℕ)) → bad_from at s texts ≡ [] → scenario_from at s texts ≡ Ok (good_from s texts)
unfolding bad_from good_from scenario_from
none_bad at s [] none = refl
none_bad at s (text ∷ texts) none = by_line (with_text s text) none (λ t. none_bad (at + 1) t texts)
  where
    by_line : (said : Option Scenario)
        → bad_number at said ++ bad_from (at + 1) (unwrap_or said s) texts ≡ []
        → ((t : Scenario) → bad_from (at + 1) t texts ≡ [] → scenario_from (at + 1) t texts ≡ Ok (good_from t texts))
        → taken_at at (λ t. scenario_from (at + 1) t texts) said ≡ Ok (good_from (unwrap_or said s) texts)
    by_line None none further = cc
    by_line (Some t) none further = further t none

-- the lines of a scenario are good
pub scenario_good : (at : ℕ) (s t : Scenario) (texts : List (List ℕ)) → scenario_from at s texts ≡ Ok t → bad_from at s texts ≡ []
unfolding bad_from scenario_from
scenario_good at s t [] ok = refl
scenario_good at s t (text ∷ texts) ok = by_line (with_text s text) ok (λ u. scenario_good (at + 1) u t texts)
  where
    by_line : (said : Option Scenario)
        → taken_at at (λ u. scenario_from (at + 1) u texts) said ≡ Ok t
        → ((u : Scenario) → scenario_from (at + 1) u texts ≡ Ok t → bad_from (at + 1) u texts ≡ [])
        → bad_number at said ++ bad_from (at + 1) (unwrap_or said s) texts ≡ []
    by_line None ok further = cc
    by_line (Some u) ok further = further u ok

-- the line that isn't taken is the first bad one
pub first_bad : (at : ℕ) (s : Scenario) (line : ℕ) (texts : List (List ℕ)) → scenario_from at s texts ≡ Err line
    → (others : List ℕ) × (bad_from at s texts ≡ line ∷ others)
unfolding bad_from scenario_from
first_bad at s line [] err = cc
first_bad at s line (text ∷ texts) err = by_line (with_text s text) err (λ u. first_bad (at + 1) u line texts)
  where
    by_line : (said : Option Scenario)
        → taken_at at (λ u. scenario_from (at + 1) u texts) said ≡ Err line
        → ((u : Scenario) → scenario_from (at + 1) u texts ≡ Err line → (others : List ℕ) × (bad_from (at + 1) u texts ≡ line ∷ others))
        → (others : List ℕ) × (bad_number at said ++ bad_from (at + 1) (unwrap_or said s) texts ≡ line ∷ others)
    by_line None err further =
        let same : at ≡ line = cc in
        (bad_from (at + 1) s texts, ap (λ k. k ∷ bad_from (at + 1) s texts) same)
    by_line (Some u) err further = further u err
