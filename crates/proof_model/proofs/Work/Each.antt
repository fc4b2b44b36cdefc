-- What holds of each transfer of a line holds of each that is left, and of each result.
use Rattle.std.proofs.Common.{Bool, List, Some, [], false, map, subst, true, ℕ, ◌∷◌, ◌≡◌}
use Rattle.std.specs.Prelude.{if◌then◌else◌}
use Rattle.std.specs.List.{AllByRecursion}
use Rattle.usb_model.specs.declared.item.Item.{Item}
use Rattle.usb_model.specs.Endpoint.{first_waiting, in_progress, is_blank, is_transfer, is_waiting, past_blanks, past_number, with_first}
use Rattle.std.proofs.lemmas.Option.{same_Some}

-- behind the blanks
pub each-past_blanks : (P : Item → Type 0) (xs : List Item) → AllByRecursion P xs → AllByRecursion P (past_blanks xs)
unfolding past_blanks
each-past_blanks P [] e = tt
each-past_blanks P (x ∷ xs) e = by_test (is_blank x) (each-past_blanks P xs e.1)
  where
    by_test : (t : Bool) → AllByRecursion P (past_blanks xs) → AllByRecursion P (if t then past_blanks xs else x ∷ xs)
    by_test true rest = rest
    by_test false rest = e

-- behind a transfer
pub each-past_number : (P : Item → Type 0) (k : ℕ) (xs : List Item) → AllByRecursion P xs → AllByRecursion P (past_number k xs)
unfolding past_number
each-past_number P k [] e = tt
each-past_number P k (x ∷ xs) e = by_test (is_transfer k x) (each-past_number P k xs e.1)
  where
    by_test : (t : Bool) → AllByRecursion P (past_number k xs) → AllByRecursion P (if t then xs else past_number k xs)
    by_test true rest = e.1
    by_test false rest = rest

-- where each is changed
pub each-map : {A B : Type 0} (P : A → Type 0) (Q : B → Type 0) (f : A → B) → ((x : A) → P x → Q (f x)) → (xs : List A) → AllByRecursion P xs → AllByRecursion Q (map f xs)
each-map P Q f keeps [] e = tt
each-map P Q f keeps (x ∷ xs) e = (keeps x e.0, each-map P Q f keeps xs e.1)

-- where the first that waits is replaced
pub each-with_first : (P : Item → Type 0) (xs : List Item) (y : Item) → P y → AllByRecursion P xs → AllByRecursion P (with_first y xs)
unfolding with_first
each-with_first P [] y p e = tt
each-with_first P (x ∷ xs) y p e = by_test (is_waiting x) (each-with_first P xs y p e.1)
  where
    by_test : (t : Bool) → AllByRecursion P (with_first y xs) → AllByRecursion P (if t then y ∷ xs else x ∷ with_first y xs)
    by_test true rest = (p, e.1)
    by_test false rest = (e.0, rest)

-- the first that waits is one of them
pub each-first_waiting : (P : Item → Type 0) (xs : List Item) (x : Item) → AllByRecursion P xs → first_waiting xs ≡ Some x → P x
unfolding first_waiting
each-first_waiting P [] x a e = absurd cc
each-first_waiting P (y ∷ ys) x a e = by_test (is_waiting y) e (each-first_waiting P ys x a.1)
  where
    by_test : (b : Bool) → (if b then Some y else first_waiting ys) ≡ Some x → (first_waiting ys ≡ Some x → P x) → P x
    by_test true q rest = subst P (same_Some y x q) a.0
    by_test false q rest = rest q

-- so is that of a number
pub each-in_progress : (P : Item → Type 0) (n : ℕ) (xs : List Item) (x : Item) → AllByRecursion P xs → in_progress n xs ≡ Some x → P x
unfolding in_progress
each-in_progress P n [] x a e = absurd cc
each-in_progress P n (y ∷ ys) x a e = by_test (is_transfer n y) e (each-in_progress P n ys x a.1)
  where
    by_test : (b : Bool) → (if b then Some y else in_progress n ys) ≡ Some x → (in_progress n ys ≡ Some x → P x) → P x
    by_test true q rest = subst P (same_Some y x q) a.0
    by_test false q rest = rest q
