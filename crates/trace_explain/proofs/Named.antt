-- The pieces of one name in a shared list, found and counted where they stand.
use Rattle.std.proofs.Common.{◌≡◌, ℕ, ◌==◌, Bool, true, false, ◌&&◌, List, [], ◌∷◌, Option, Some, refl, cond, ◌+◌, ◌∙◌, zero-add}
use Rattle.std.specs.Prelude.{if◌then◌else◌}
use Rattle.std.specs.Option.{option_map}
use Rattle.std.specs.List.{count_by, find}
use Rattle.std.proofs.lemmas.List.Recursion.{is_count_by}
use Rattle.std.proofs.lemmas.List.Sums.{sum_by-cons}
use Rattle.usb_model.specs.declared.shared.Tagged.{Tagged}
use Rattle.usb_model.specs.World.Shared.{pieces_of}

-- the first that passes a test
pub first_of_name : {A : Type 0} (h : ℕ) (test : A → Bool) (xs : List (Tagged A)) → find test (pieces_of h xs) ≡ option_map (λ x. x.piece) (find (λ x. (x.name == h) && test x.piece) xs)
first_of_name h test [] = refl
first_of_name {A = A} h test (x ∷ xs) = by_name (first_of_name h test xs) (x.name == h)
  where
    by_test : find test (pieces_of h xs) ≡ option_map (λ y. y.piece) (find (λ y. (y.name == h) && test y.piece) xs) → (t : Bool) → (if t then Some x.piece else find test (pieces_of h xs)) ≡ option_map (λ y. y.piece) (if t then Some x else find (λ y. (y.name == h) && test y.piece) xs)
    by_test rest true = refl
    by_test rest false = rest

    by_name : find test (pieces_of h xs) ≡ option_map (λ y. y.piece) (find (λ y. (y.name == h) && test y.piece) xs) → (b : Bool) → find test (if b then x.piece ∷ pieces_of h xs else pieces_of h xs) ≡ option_map (λ y. y.piece) (if b && test x.piece then Some x else find (λ y. (y.name == h) && test y.piece) xs)
    by_name rest true = by_test rest (test x.piece)
    by_name rest false = rest

-- how many pass a test
pub count_of_name : {A : Type 0} (test : A → Bool) (h : ℕ) (xs : List (Tagged A)) → count_by test (pieces_of h xs) ≡ count_by (λ y. (y.name == h) && test y.piece) xs
count_of_name {A = A} test h xs = is_count_by (λ ys. count_by test (pieces_of h ys)) (λ y. (y.name == h) && test y.piece) refl one_more xs
  where
    counted : (x : A) (ys : List A) → count_by test (x ∷ ys) ≡ cond (test x) (1 + count_by test ys) (count_by test ys)
    counted x ys = sum_by-cons (λ y. cond (test y) 1 0) x ys ∙ by_test (test x)
      where
        by_test : (b : Bool) → cond b 1 0 + count_by test ys ≡ cond b (1 + count_by test ys) (count_by test ys)
        by_test true = refl
        by_test false = zero-add (count_by test ys)

    one_more : (x : Tagged A) (ys : List (Tagged A)) → count_by test (pieces_of h (x ∷ ys)) ≡ cond ((x.name == h) && test x.piece) (1 + count_by test (pieces_of h ys)) (count_by test (pieces_of h ys))
    one_more x ys = by_name (x.name == h) refl
      where
        by_name : (b : Bool) → (x.name == h) ≡ b → count_by test (if b then x.piece ∷ pieces_of h ys else pieces_of h ys) ≡ cond (b && test x.piece) (1 + count_by test (pieces_of h ys)) (count_by test (pieces_of h ys))
        by_name true e = counted x.piece (pieces_of h ys)
        by_name false e = refl
