-- One turn more of a loop that puts something behind a list for each value of another.
use Rattle.std.proofs.Common.{◌≡◌, ℕ, ◌+◌, ◌<◌, ◌≤◌, List, ◌++◌, length, drop, get_or, sym, ap, ◌∙◌, append_assoc, append-nil}
use Rattle.std.specs.List.{flat_map}
use Rattle.std.proofs.lemmas.List.{at_drop_more, at_drop_all}

pub joined_next : {A B : Type 0} (f : A → List B) (out more all : List B) (xs : List A) (i : ℕ) (x : A) → i < length xs → x ≡ get_or xs i x → more ≡ out ++ f x → out ++ flat_map f (drop i xs) ≡ all
    → more ++ flat_map f (drop (i + 1) xs) ≡ all
joined_next f out more all xs i x less item next so_far =
    ap (λ b. b ++ flat_map f (drop (i + 1) xs)) (next ∙ ap (λ y. out ++ f y) item)
    ∙ (append_assoc out (f (get_or xs i x)) (flat_map f (drop (i + 1) xs))
    ∙ (sym (at_drop_more (λ l. out ++ flat_map f l) xs i x less) ∙ so_far))

pub joined_end : {A B : Type 0} (f : A → List B) (out all : List B) (xs : List A) (i : ℕ) → length xs ≤ i → out ++ flat_map f (drop i xs) ≡ all → out ≡ all
joined_end f out all xs i past so_far = sym (append-nil out) ∙ (sym (at_drop_all (λ l. out ++ flat_map f l) xs i past) ∙ so_far)
