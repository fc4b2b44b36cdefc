-- The first piece of a shared list.
use Rattle.std.proofs.Common.{◌≡◌, ℕ, ◌≤◌, ◌==◌, true, List, [], ◌∷◌, length, drop, slice_index_or, Some, arith}
use Rattle.std.proofs.lemmas.Bool.{eq-eqb}
use Rattle.usb_model.specs.declared.shared.Tagged.{Tagged}
use Rattle.usb_model.specs.World.Shared.{first_name, pieces_of}

-- the first piece of all, where it is the name's, is the first of its own
pub head_of_name : {A : Type 0} (h : ℕ) (x : Tagged A) (xs : List (Tagged A)) → Some x.name ≡ Some h → pieces_of h (x ∷ xs) ≡ x.piece ∷ pieces_of h xs
head_of_name h x xs e = let same : (x.name == h) ≡ true = eq-eqb x.name h cc in rw same

-- the same of the element that is read first
pub first_of_name : {A : Type 0} (h : ℕ) (xs : List (Tagged A)) (x : Tagged A) → 1 ≤ length xs → x ≡ slice_index_or xs 0 x → first_name xs ≡ Some h → pieces_of h xs ≡ x.piece ∷ pieces_of h (drop 1 xs)
first_of_name h [] x some e own = absurd (omega arith)
first_of_name h (y ∷ xs) x some e own = rw e (head_of_name h y xs own)
