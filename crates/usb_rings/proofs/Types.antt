-- What is read of a cell.
use Rattle.std.proofs.Common.{◌≡◌, ℕ, ◌%◌, ◌<◌, ◌≤◌, ap, ◌∙◌, arith, nat_eq, List, [], length, get_or}
use Rattle.std.proofs.lemmas.List.{get_or_read}
use Rattle.usb_trb.specs.Read.{cycle_in}
use Rattle.usb_rings.specs.Places.{index_of}
use Rattle.usb_rings.specs.Memory.{Memory, cell}

-- the cycle bit is the lowest of byte 12
pub cycle-read : (xs ys : List ℕ) → xs ≡ ys → nat_eq (get_or xs 12 0 % 2) 1 ≡ cycle_in ys
unfolding cycle_in
cycle-read xs ys e = ap (λ (zs : List ℕ). nat_eq (get_or zs 12 0 % 2) 1) e

-- the cell of a place, read by its index
pub cell-read : (w : ℕ) (m m' : Memory) (p i : ℕ) (x : List ℕ) → i < w → w ≤ length m.cells → i ≡ index_of w p → x ≡ get_or m.cells i x → m ≡ m' → x ≡ cell w m' p
cell-read w m m' p i x low size e f v =
    get_or_read m.cells i x (omega arith) f [] ∙ ap (λ (j : ℕ). get_or m.cells j []) e ∙ ap (λ (n : Memory). cell w n p) v
