-- One turn more of a loop over a list, where what is left leads to the whole.
use Rattle.std.proofs.Common.{◌≡◌, ℕ, ◌+◌, ◌<◌, ◌≤◌, List, [], ◌∷◌, length, drop, get_or, refl, ap, sym, ◌∙◌}
use Rattle.std.proofs.lemmas.List.{at_drop_more, at_drop_all}
use Rattle.trace_recorded.specs.Folds.{after}

one_more : {S A : Type 0} (step : A → S → S) (state : S) (x : A) (xs : List A) → after step state (x ∷ xs) ≡ after step (step x state) xs
unfolding after
one_more step state x xs = refl

no_more : {S A : Type 0} (step : A → S → S) (state : S) → after step state [] ≡ state
unfolding after
no_more step state = refl

pub fold_next : {S A : Type 0} (step : A → S → S) (state more all : S) (xs : List A) (i : ℕ) (x : A) → i < length xs → x ≡ get_or xs i x → more ≡ step x state → after step state (drop i xs) ≡ all
    → after step more (drop (i + 1) xs) ≡ all
fold_next step state more all xs i x less item next so_far =
    ap (λ s. after step s (drop (i + 1) xs)) (next ∙ ap (λ y. step y state) item)
    ∙ (sym (one_more step state (get_or xs i x) (drop (i + 1) xs))
    ∙ (sym (at_drop_more (after step state) xs i x less) ∙ so_far))

pub fold_end : {S A : Type 0} (step : A → S → S) (state all : S) (xs : List A) (i : ℕ) → length xs ≤ i → after step state (drop i xs) ≡ all → state ≡ all
fold_end step state all xs i past so_far = sym (no_more step state) ∙ (sym (at_drop_all (after step state) xs i past) ∙ so_far)

-- the same of values that are taken out of a list, of which some are left
pub taken_next : {S A : Type 0} (step : A → S → S) (state more all : S) (x : A) (left rest : List A) → left ≡ x ∷ rest → more ≡ step x state → after step state left ≡ all → after step more rest ≡ all
taken_next step state more all x left rest is next so_far = ap (λ s. after step s rest) next ∙ (sym (one_more step state x rest) ∙ (ap (after step state) (sym is) ∙ so_far))

pub taken_end : {S A : Type 0} (step : A → S → S) (state all : S) (left : List A) → left ≡ [] → after step state left ≡ all → state ≡ all
taken_end step state all left none so_far = sym (no_more step state) ∙ (ap (after step state) (sym none) ∙ so_far)
