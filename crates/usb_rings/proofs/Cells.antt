-- What a write at a place leaves in memory.
use Rattle.std.proofs.Common.{◌≡◌, ◌≢◌, ℕ, suc, ◌+◌, ◌-◌, ◌%◌, ◌<◌, ◌≤◌, Bool, true, false, refl, ap, sym, ◌∙◌, subst, arith, eqb, List, [], ◌∷◌, length, get_or, set}
use Rattle.std.proofs.lemmas.List.{get_or-set_other, get_or-set_same, length-set}
use Rattle.std.proofs.lemmas.Bool.{eq-eqb, eqb-true}
use Rattle.std.proofs.Math.Nat.{mod-lt}
use Rattle.usb_trb.specs.declared.kind.TrbKind.{TrbKind}
use Rattle.usb_trb.specs.Words.{trb_bytes, IsKind}
use Rattle.usb_trb.specs.Read.{kind_of}
use Rattle.usb_trb.proofs.Numbers.{kind_of-bytes}
use Rattle.usb_rings.specs.Places.{index_of, cycle_of}
use Rattle.usb_rings.specs.Memory.{Memory, cell, kind_at, chain_of, trb_at, link_at, put, puts}
use Rattle.usb_rings.specs.Written.{IsCell, IsWritten}
use Rattle.usb_rings.proofs.Places.{index-same, cycle-same, same-suc, same-add}

-- an index is below the width
pub index-below : (w p : ℕ) → 0 < w → index_of w p < w
index-below w p h = mod-lt p h

-- places that are equal over two turns are one cell, and a write at one is a write at the other
pub cell-same : (w : ℕ) (m : Memory) (p q : ℕ) → 0 < w → p % (w + w) ≡ q % (w + w) → cell w m p ≡ cell w m q
cell-same w m p q z h = ap (λ (i : ℕ). get_or m.cells i []) (index-same w p q z h)

-- a write at one of them is a write at the other
pub put-same : (w : ℕ) (m : Memory) (p q : ℕ) (k : TrbKind) → 0 < w → p % (w + w) ≡ q % (w + w) → put w m p k ≡ put w m q k
put-same w m p q k z h = rw (index-same w p q z h, h) refl

-- so are writes there and behind it
pub puts-same : (w : ℕ) (m : Memory) (p q : ℕ) (ks : List TrbKind) → 0 < w → p % (w + w) ≡ q % (w + w) → puts w m p ks ≡ puts w m q ks
unfolding puts
puts-same w m p q [] z h = refl
puts-same w m p q (k ∷ ks) z h = rw (put-same w m p q k z h) (puts-same w (put w m q k) (suc p) (suc q) ks z (same-suc (w + w) p q h))

-- no cell comes or goes
pub length-put : (w : ℕ) (m : Memory) (p : ℕ) (k : TrbKind) → length (put w m p k).cells ≡ length m.cells
length-put w m p k = by_test (eqb (suc (index_of w p)) w) refl
  where
    by_test : (b : Bool) → eqb (suc (index_of w p)) w ≡ b → length (put w m p k).cells ≡ length m.cells
    by_test true e = rw e (simp length-set)
    by_test false e = rw e (simp length-set)

-- a cell of another index keeps its bytes
pub cell-put-other : (w : ℕ) (m : Memory) (p q : ℕ) (k : TrbKind) → 0 < w → index_of w q ≢ index_of w p → cell w (put w m p k) q ≡ cell w m q
cell-put-other w m p q k z h = by_test (eqb (suc (index_of w p)) w) refl
  where
    by_test : (b : Bool) → eqb (suc (index_of w p)) w ≡ b → cell w (put w m p k) q ≡ cell w m q
    by_test true e =
        let below = index-below w q z in
        let low : index_of w q ≢ w = omega (arith, below) in
        rw e (get_or-set_other _ w (index_of w q) _ [] low ∙ get_or-set_other m.cells (index_of w p) (index_of w q) _ [] h)
    by_test false e = rw e (get_or-set_other m.cells (index_of w p) (index_of w q) _ [] h)

-- the cell of this index has the TRB's
pub cell-put-same : (w : ℕ) (m : Memory) (p q : ℕ) (k : TrbKind) → 0 < w → w ≤ length m.cells → index_of w q ≡ index_of w p
    → cell w (put w m p k) q ≡ trb_bytes (trb_at w k p)
cell-put-same w m p q k z size h = by_test (eqb (suc (index_of w p)) w) refl
  where
    by_test : (b : Bool) → eqb (suc (index_of w p)) w ≡ b → cell w (put w m p k) q ≡ trb_bytes (trb_at w k p)
    by_test true e =
        let below = index-below w p z in
        let low : index_of w p ≢ w = omega (arith, below) in
        let room : index_of w p < length m.cells = omega (arith, below, size) in
        rw (e, h)
        (get_or-set_other (set m.cells (index_of w p) (trb_bytes (trb_at w k p))) w (index_of w p) (trb_bytes (link_at m.base (chain_of k) (cycle_of w p))) [] low
        ∙ get_or-set_same m.cells (index_of w p) (trb_bytes (trb_at w k p)) [] room)
    by_test false e =
        let below = index-below w p z in
        rw (e, h) (get_or-set_same m.cells (index_of w p) _ [] (omega (arith, below, size)))

-- at the last index the Link gets the place's cycle and the TRB's CH
pub link-put-at : (w : ℕ) (m : Memory) (p : ℕ) (k : TrbKind) → length m.cells ≡ suc w → suc (index_of w p) ≡ w
    → get_or (put w m p k).cells w [] ≡ trb_bytes (link_at m.base (chain_of k) (cycle_of w p))
link-put-at w m p k size h =
    rw (eq-eqb (suc (index_of w p)) w h)
    (get_or-set_same (set m.cells (index_of w p) (trb_bytes (trb_at w k p))) w (trb_bytes (link_at m.base (chain_of k) (cycle_of w p))) []
    (simp length-set (omega (arith, size))))

-- at any other index it stays
pub link-put-other : (w : ℕ) (m : Memory) (p : ℕ) (k : TrbKind) → 0 < w → (suc (index_of w p) ≡ w → ⊥) → get_or (put w m p k).cells w [] ≡ get_or m.cells w []
link-put-other w m p k z h = by_test (eqb (suc (index_of w p)) w) refl
  where
    by_test : (b : Bool) → eqb (suc (index_of w p)) w ≡ b → get_or (put w m p k).cells w [] ≡ get_or m.cells w []
    by_test true e = absurd (h (eqb-true (suc (index_of w p)) w e))
    by_test false e =
        let below = index-below w p z in
        let low : w ≢ index_of w p = omega (arith, below) in
        rw e (get_or-set_other m.cells (index_of w p) w _ [] low)

-- the TRB that is written stands there
pub kind-put : (w : ℕ) (m : Memory) (p q : ℕ) (k : TrbKind) → 0 < w → w ≤ length m.cells → IsKind k → index_of w q ≡ index_of w p → kind_at w (put w m p k) q ≡ k
kind-put w m p q k z size h e = ap kind_of (cell-put-same w m p q k z size e) ∙ kind_of-bytes (trb_at w k p) h

-- what is written is written
pub is_cell-put : (w : ℕ) (m : Memory) (p : ℕ) (k : TrbKind) → 0 < w → w ≤ length m.cells → IsKind k → IsCell w (put w m p k) p
is_cell-put w m p k z size h =
    let e = kind-put w m p p k z size h refl in
    (subst IsKind (sym e) h, ap (λ (k' : TrbKind). trb_bytes (trb_at w k' p)) e ∙ sym (cell-put-same w m p p k z size refl))

-- where the cell is the same, what is said of it is
pub is_cell-keep : (w : ℕ) (m m' : Memory) (q : ℕ) → cell w m' q ≡ cell w m q → IsCell w m q → IsCell w m' q
is_cell-keep w m m' q e h =
    let f : kind_at w m' q ≡ kind_at w m q = ap kind_of e in
    (subst IsKind (sym f) h.0, ap (λ (k : TrbKind). trb_bytes (trb_at w k q)) f ∙ h.1 ∙ sym e)

-- what is written at a place is written at each that is equal to it over two turns
pub is_cell-same : (w : ℕ) (m : Memory) (p q : ℕ) → 0 < w → p % (w + w) ≡ q % (w + w) → IsCell w m p → IsCell w m q
is_cell-same w m p q z e h =
    let f : cell w m p ≡ cell w m q = cell-same w m p q z e in
    let g : kind_at w m q ≡ kind_at w m p = ap kind_of (sym f) in
    let t : trb_at w (kind_at w m q) q ≡ trb_at w (kind_at w m p) p = rw (g, cycle-same w p q e) refl in
    (subst IsKind (sym g) h.0, ap trb_bytes t ∙ h.1 ∙ f)

-- so for a window of places
pub written-same : (w : ℕ) (m : Memory) (p p' n : ℕ) → 0 < w → p % (w + w) ≡ p' % (w + w) → IsWritten w m p n → IsWritten w m p' n
written-same w m p p' n z e h = λ q a b.
    let there : p' + (q - p') ≡ q = omega arith in
    is_cell-same w m (p + (q - p')) q z (same-add (w + w) p p' (q - p') e ∙ ap (λ (x : ℕ). x % (w + w)) there) (h (p + (q - p')) (omega arith) (omega arith))

-- a part of what is written is written
pub written-less : (w : ℕ) (m : Memory) (p p' n n' : ℕ) → p ≤ p' → p' + n' ≤ p + n → IsWritten w m p n → IsWritten w m p' n'
written-less w m p p' n n' a b h = λ q c d. h q (omega arith) (omega arith)

-- where the cells are the same, what is written is
pub written-keep : (w : ℕ) (m m' : Memory) (p n : ℕ) → ((q : ℕ) → p ≤ q → q < p + n → cell w m' q ≡ cell w m q) → IsWritten w m p n → IsWritten w m' p n
written-keep w m m' p n keep h = λ q a b. is_cell-keep w m m' q (keep q a b) (h q a b)
