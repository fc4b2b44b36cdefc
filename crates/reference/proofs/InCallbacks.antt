-- Transfers in their callbacks, found and left out.
use Rattle.std.proofs.Common.{◌≡◌, ℕ, ◌==◌, Bool, true, false, List, [], ◌∷◌, ◌++◌, Some, refl, ap}
use Rattle.std.specs.Prelude.{if◌then◌else◌}
use Rattle.std.specs.List.{find}
use Rattle.usb_model.specs.declared.result.InCallback.{InCallback}
use Rattle.usb_model.specs.Machine.Calls.{callback_of, without}

-- the first of a number is what a search for it finds
pub first_is_found : (n : ℕ) (xs : List InCallback) → callback_of n xs ≡ find (λ x. x.n == n) xs
unfolding callback_of
first_is_found n [] = refl
first_is_found n (x ∷ xs) = by_test (first_is_found n xs) (x.n == n)
  where
    by_test : callback_of n xs ≡ find (λ y. y.n == n) xs → (b : Bool) → (if b then Some x else callback_of n xs) ≡ (if b then Some x else find (λ y. y.n == n) xs)
    by_test rest true = refl
    by_test rest false = rest

-- one more that is left out
pub out_more : (n : ℕ) (xs : List InCallback) (x : InCallback) → (x.n == n) ≡ true → without n (xs ++ x ∷ []) ≡ without n xs
unfolding without
out_more n [] x e = rw e
out_more n (y ∷ xs) x e = by_test (out_more n xs x e) (y.n == n)
  where
    by_test : without n (xs ++ x ∷ []) ≡ without n xs → (b : Bool) → (if b then without n (xs ++ x ∷ []) else y ∷ without n (xs ++ x ∷ [])) ≡ (if b then without n xs else y ∷ without n xs)
    by_test rest true = rest
    by_test rest false = ap (λ ys. y ∷ ys) rest

-- one more that stays
pub stays_more : (n : ℕ) (xs : List InCallback) (x : InCallback) → (x.n == n) ≡ false → without n (xs ++ x ∷ []) ≡ without n xs ++ x ∷ []
unfolding without
stays_more n [] x e = rw e
stays_more n (y ∷ xs) x e = by_test (stays_more n xs x e) (y.n == n)
  where
    by_test : without n (xs ++ x ∷ []) ≡ without n xs ++ x ∷ [] → (b : Bool) → (if b then without n (xs ++ x ∷ []) else y ∷ without n (xs ++ x ∷ [])) ≡ (if b then without n xs else y ∷ without n xs) ++ x ∷ []
    by_test rest true = rest
    by_test rest false = ap (λ ys. y ∷ ys) rest
