-- The lines of a test, one after another.
use Rattle.std.proofs.Common.{◌≡◌, ℕ, ◌+◌, ◌<◌, ◌≤◌, List, length, get_or, drop, None, sym, ap, ◌∙◌, subst, refl}
use Rattle.std.proofs.lemmas.List.{at_drop_more, at_drop_all}
use Rattle.trace_test.specs.Comparison.{Uncompared, compare_line, difference_from, difference_past}
use Rattle.trace_test.specs.Expanded.{AddsAll, AddsLine, Expansion}
use Rattle.trace_test.specs.Macros.{Known, behind_line, behind_lines}

-- one line of those that are left is added, and then the others
pub adds-more : (at : ℕ) (lines : List (List ℕ)) (i : ℕ) (line : List ℕ) (old mid new : Expansion) → (i < length lines) × (line ≡ get_or lines i line)
    → AddsLine at line old mid → AddsAll (at + 1) (drop (i + 1) lines) mid new → AddsAll at (drop i lines) old new
unfolding AddsAll
adds-more at lines i line old mid new here adds rest =
    subst (λ ls. AddsAll at ls old new) (sym (at_drop_more (λ ls. ls) lines i line here.0))
    (mid, subst (λ l. AddsLine at l old mid) here.1 adds, rest)

-- none is left
pub adds-end : (at : ℕ) (lines : List (List ℕ)) (i : ℕ) (old : Expansion) → length lines ≤ i → AddsAll at (drop i lines) old old
unfolding AddsAll
adds-end at lines i old end = subst (λ ls. AddsAll at ls old old) (sym (at_drop_all (λ ls. ls) lines i end)) refl

-- one line of those that are left is compared, and then the others
pub difference-more : (at : ℕ) (lines : List (List ℕ)) (i : ℕ) (line : List ℕ) (u : Uncompared) → (i < length lines) × (line ≡ get_or lines i line)
    → difference_from at (drop i lines) u ≡ difference_past (difference_from (at + 1) (drop (i + 1) lines)) (compare_line at line u)
unfolding difference_from
difference-more at lines i line u here =
    at_drop_more (λ ls. difference_from at ls u) lines i line here.0
    ∙ ap (λ l. difference_past (difference_from (at + 1) (drop (i + 1) lines)) (compare_line at l u)) (sym here.1)

-- none is left
pub difference-end : (at : ℕ) (lines : List (List ℕ)) (i : ℕ) (u : Uncompared) → length lines ≤ i → difference_from at (drop i lines) u ≡ None
unfolding difference_from
difference-end at lines i u end = at_drop_all (λ ls. difference_from at ls u) lines i end

-- one line of those that are left is read, and then the others
pub behind-more : (at : ℕ) (lines : List (List ℕ)) (i : ℕ) (line : List ℕ) (k : Known) → (i < length lines) × (line ≡ get_or lines i line)
    → behind_lines at (drop i lines) k ≡ behind_lines (at + 1) (drop (i + 1) lines) (behind_line at line k)
unfolding behind_lines
behind-more at lines i line k here =
    at_drop_more (λ ls. behind_lines at ls k) lines i line here.0
    ∙ ap (λ l. behind_lines (at + 1) (drop (i + 1) lines) (behind_line at l k)) (sym here.1)

-- none is left
pub behind-end : (at : ℕ) (lines : List (List ℕ)) (i : ℕ) (k : Known) → length lines ≤ i → behind_lines at (drop i lines) k ≡ k
unfolding behind_lines
behind-end at lines i k end = at_drop_all (λ ls. behind_lines at ls k) lines i end
