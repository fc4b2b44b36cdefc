-- Where no line expects something to be left, any text that is left is as good as another.
use Rattle.std.proofs.Common.{◌≡◌, ◌∙◌, ◌+◌, ℕ, Bool, true, false, List, [], ◌∷◌, Option, Some, None, Result, Ok, Err, Bor, ap, sym, refl, is_some}
use Rattle.std.specs.Prelude.{◌||◌, drop, if◌then◌else◌}
use Rattle.std.specs.List.{list_any}
use Rattle.trace_test.specs.Comparison.{IsAsGoodAs, Uncompared, all_of, any_of, at_line, compare_by, compare_line, difference_from, difference_past, differs, first_text, got_of, is_of, is_of_left, next_of, past, past_others, shown, taken, texts_of}
use Rattle.trace_test.specs.Expanded.{lines_in, may_be_nothing}
use Rattle.trace_test.specs.Expected.{expected_any_of, expected_left_of, expected_of, fits}
use Rattle.trace_test.specs.declared.difference.Difference.{Difference}

-- where neither of two holds, the one doesn't, and the other doesn't
none_first : (p q : Bool) → (p || q) ≡ false → p ≡ false
none_first true q none = let wrong : true ≡ false = none in cc
none_first false q none = refl

none_rest : (p q : Bool) → (p || q) ≡ false → q ≡ false
none_rest true q none = let wrong : true ≡ false = none in cc
none_rest false q none = none

-- what is compared, where something else is left
abbrev with_left : List (List ℕ) → Uncompared → Uncompared
with_left left u = record u { left = left }

abbrev left_with : List (List ℕ) → Result Uncompared Difference → Result Uncompared Difference
left_with left (Ok u) = Ok (with_left left u)
left_with left (Err difference) = Err difference

-- a test that doesn't look at that goes the same way
found_or_not : (left : List (List ℕ)) (found : Bool) (u : Uncompared) (difference : Difference)
    → (if found then Ok (with_left left u) else Err difference) ≡ left_with left (if found then Ok u else Err difference)
found_or_not left true u difference = refl
found_or_not left false u difference = refl

at_or_not : (left : List (List ℕ)) (at : Bool) (v u : Uncompared) → (if at then with_left left v else with_left left u) ≡ with_left left (if at then v else u)
at_or_not left true v u = refl
at_or_not left false v u = refl

-- nor does a line that doesn't expect it
line_unleft : (left : List (List ℕ)) (at : ℕ) (line : List ℕ) (u : Uncompared) → is_of_left line ≡ false → compare_line at line (with_left left u) ≡ left_with left (compare_line at line u)
line_unleft left at line u none = by_kind (expected_left_of line) (expected_any_of line) (expected_of line) none
  where
    by_kind : (leaves any entry : Option (List ℕ)) → is_some leaves ≡ false → compare_by leaves any entry at line (with_left left u) ≡ left_with left (compare_by leaves any entry at line u)
    by_kind (Some wanted) any entry none = let wrong : true ≡ false = none in cc
    by_kind None (Some wanted) entry none =
        found_or_not left (is_some (next_of (past_others wanted u))) (record u { printed = drop 1 (past_others wanted u).printed }) (differs at (any_of wanted) (got_of u))
    by_kind None None (Some wanted) none =
        found_or_not left (fits wanted (shown (got_of u))) (record u { printed = drop (taken (got_of u)) u.printed }) (differs at wanted (got_of u))
    by_kind None None None none =
        ap Ok (at_or_not left (may_be_nothing line || is_of at (first_text (past u.of u.printed))) (record u { of = at; printed = past u.of u.printed }) u)

-- so the first difference is the same
unleft : (left : List (List ℕ)) (at : ℕ) (lines : List (List ℕ)) (u : Uncompared) → list_any is_of_left lines ≡ false → difference_from at lines (with_left left u) ≡ difference_from at lines u
unfolding difference_from
unleft left at [] u none = refl
unleft left at (line ∷ lines) u none =
    ap (difference_past (difference_from (at + 1) lines)) (line_unleft left at line u (none_first (is_of_left line) (list_any is_of_left lines) none))
    ∙ by_result (λ v. unleft left (at + 1) lines v (none_rest (is_of_left line) (list_any is_of_left lines) none)) (compare_line at line u)
  where
    by_result : ((v : Uncompared) → difference_from (at + 1) lines (with_left left v) ≡ difference_from (at + 1) lines v)
        → (r : Result Uncompared Difference) → difference_past (difference_from (at + 1) lines) (left_with left r) ≡ difference_past (difference_from (at + 1) lines) r
    by_result further (Ok v) = further v
    by_result further (Err difference) = refl

any_of_texts : (lines : List (Bor (List ℕ))) → list_any is_of_left (texts_of lines) ≡ list_any (λ (line : Bor (List ℕ)). is_of_left line.now) lines
any_of_texts [] = refl
any_of_texts (line ∷ lines) = ap (λ b. is_of_left line.now || b) (any_of_texts lines)

pub as_good : (text left other : List ℕ) (lines : List (Bor (List ℕ))) → texts_of lines ≡ lines_in text → list_any (λ (line : Bor (List ℕ)). is_of_left line.now) lines ≡ false → IsAsGoodAs text left other
as_good text left other lines are none printed =
    let no_line : list_any is_of_left (lines_in text) ≡ false = ap (list_any is_of_left) (sym are) ∙ (any_of_texts lines ∙ none) in
    unleft (lines_in left) 1 (lines_in text) (all_of printed other) no_line
