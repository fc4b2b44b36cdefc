-- A place among joined lists.
use Rattle.std.proofs.Common.{◌≡◌, ℕ, zero, suc, ◌+◌, ◌-◌, ◌<◌, ◌≤◌, List, [], ◌∷◌, ◌++◌, length, drop, get_or, Option, None, refl, ap, sym, ◌∙◌, arith}
use Rattle.std.specs.Prelude.{slice_get}
use Rattle.std.specs.List.{flat_map}
use Rattle.std.proofs.lemmas.List.{at_drop_more, at_drop_all}

-- within the first, or behind it
within : {A : Type 0} (xs ys : List A) (i : ℕ) → i < length xs → slice_get (xs ++ ys) i ≡ slice_get xs i
within [] ys i less = absurd (omega (arith, less))
within (x ∷ xs) ys zero less = refl
within (x ∷ xs) ys (suc i) less = within xs ys i (omega (arith, less))

behind : {A : Type 0} (xs ys : List A) (i : ℕ) → length xs ≤ i → slice_get (xs ++ ys) i ≡ slice_get ys (i - length xs)
behind [] ys i past = ap (λ (n : ℕ). slice_get ys n) (omega arith)
behind (x ∷ xs) ys zero past = absurd (omega (arith, past))
behind (x ∷ xs) ys (suc i) past =
    let less : i - length xs ≡ suc i - length (x ∷ xs) = omega arith in
    behind xs ys i (omega (arith, past)) ∙ ap (λ (n : ℕ). slice_get ys n) less

-- what the lists of the values from one on have at a place
module _ {A B : Type 0} (f : A → List B) (all : List A) (n : ℕ) where
  pub found_here : (i left : ℕ) (x : A) → i < length all → x ≡ get_or all i x → left < length (f x)
      → slice_get (flat_map f (drop i all)) left ≡ slice_get (flat_map f all) n → slice_get (f x) left ≡ slice_get (flat_map f all) n
  found_here i left x less item short so_far =
      sym (within (f x) (flat_map f (drop (i + 1) all)) left short)
      ∙ (ap (λ y. slice_get (f y ++ flat_map f (drop (i + 1) all)) left) item
      ∙ (sym (at_drop_more (λ l. slice_get (flat_map f l) left) all i x less) ∙ so_far))

  pub found_later : (i left : ℕ) (x : A) → i < length all → x ≡ get_or all i x → length (f x) ≤ left
      → slice_get (flat_map f (drop i all)) left ≡ slice_get (flat_map f all) n → slice_get (flat_map f (drop (i + 1) all)) (left - length (f x)) ≡ slice_get (flat_map f all) n
  found_later i left x less item long so_far =
      sym (behind (f x) (flat_map f (drop (i + 1) all)) left long)
      ∙ (ap (λ y. slice_get (f y ++ flat_map f (drop (i + 1) all)) left) item
      ∙ (sym (at_drop_more (λ l. slice_get (flat_map f l) left) all i x less) ∙ so_far))

  pub found_nowhere : (i left : ℕ) → length all ≤ i → slice_get (flat_map f (drop i all)) left ≡ slice_get (flat_map f all) n → None ≡ slice_get (flat_map f all) n
  found_nowhere i left past so_far = sym (at_drop_all (λ l. slice_get (flat_map f l) left) all i past) ∙ so_far
