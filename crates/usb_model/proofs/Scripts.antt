-- What is left of a script behind its first answer.
use Rattle.std.proofs.Common.{◌≡◌, ℕ, ◌+◌, ◌≤◌, zero, suc, List, [], ◌∷◌, length, drop, refl, sym, arith}
use Rattle.std.proofs.lemmas.List.{drop-drop}

-- one more is given
pub one_given : {A : Type 0} (given : ℕ) (l : List A) → drop (given + 1) l ≡ drop 1 (drop given l)
one_given given l = sym (drop-drop 1 given l)

-- all were
pub all_given : {A : Type 0} (given : ℕ) (l : List A) → length l ≤ given → drop given l ≡ drop 1 (drop given l)
all_given zero [] few = refl
all_given (suc given) [] few = refl
all_given zero (x ∷ l) few = absurd (omega (arith, few))
all_given (suc given) (x ∷ l) few = all_given given l (omega (arith, few))
