-- The pieces of one name in a shared list, tested and counted where they stand.
use Rattle.std.proofs.Common.{◌≡◌, ℕ, ◌==◌, Bool, true, false, ◌&&◌, ◌||◌, List, [], ◌∷◌, refl, ap, cond, ◌+◌, ◌∙◌, zero-add}
use Rattle.std.specs.Prelude.{if◌then◌else◌}
use Rattle.std.specs.List.{count_by, list_any}
use Rattle.std.proofs.lemmas.List.Recursion.{is_count_by}
use Rattle.std.proofs.lemmas.List.Sums.{sum_by-cons}
use Rattle.usb_model.specs.declared.shared.Tagged.{Tagged}
use Rattle.usb_model.specs.World.Shared.{pieces_of}

-- whether a piece is the name's and passes the test
abbrev pub is_of : {A : Type 0} → ℕ → (A → Bool) → Tagged A → Bool
is_of h test x = (x.name == h) && test x.piece

-- one of the name's pieces passes the test
pub any_of_name : {A : Type 0} (test : A → Bool) (h : ℕ) (xs : List (Tagged A)) → list_any test (pieces_of h xs) ≡ list_any (is_of h test) xs
any_of_name test h [] = refl
any_of_name test h (x ∷ xs) = by_test (any_of_name test h xs) (x.name == h) refl
  where
    by_test : list_any test (pieces_of h xs) ≡ list_any (is_of h test) xs → (b : Bool) → (x.name == h) ≡ b → list_any test (if b then x.piece ∷ pieces_of h xs else pieces_of h xs) ≡ ((b && test x.piece) || list_any (is_of h test) xs)
    by_test rest true e = ap (λ c. test x.piece || c) rest
    by_test rest false e = rest

-- how many of them do
pub count_of_name : {A : Type 0} (test : A → Bool) (h : ℕ) (xs : List (Tagged A)) → count_by test (pieces_of h xs) ≡ count_by (is_of h test) xs
count_of_name {A = A} test h xs = is_count_by (λ ys. count_by test (pieces_of h ys)) (is_of h test) refl one_more xs
  where
    counted : (x : A) (ys : List A) → count_by test (x ∷ ys) ≡ cond (test x) (1 + count_by test ys) (count_by test ys)
    counted x ys = sum_by-cons (λ y. cond (test y) 1 0) x ys ∙ by_test (test x)
      where
        by_test : (b : Bool) → cond b 1 0 + count_by test ys ≡ cond b (1 + count_by test ys) (count_by test ys)
        by_test true = refl
        by_test false = zero-add (count_by test ys)

    one_more : (x : Tagged A) (ys : List (Tagged A)) → count_by test (pieces_of h (x ∷ ys)) ≡ cond (is_of h test x) (1 + count_by test (pieces_of h ys)) (count_by test (pieces_of h ys))
    one_more x ys = by_name (x.name == h) refl
      where
        by_name : (b : Bool) → (x.name == h) ≡ b → count_by test (if b then x.piece ∷ pieces_of h ys else pieces_of h ys) ≡ cond (b && test x.piece) (1 + count_by test (pieces_of h ys)) (count_by test (pieces_of h ys))
        by_name true e = counted x.piece (pieces_of h ys)
        by_name false e = refl
