-- A segment as it is made.
use Rattle.std.proofs.Common.{◌≡◌, ℕ, suc, ◌+◌, ◌-◌, ◌%◌, ◌<◌, ◌≤◌, Bool, true, false, refl, ap, sym, ◌∙◌, arith, List, [], length, get_or, set, replicate}
use Rattle.std.specs.Prelude.{not}
use Rattle.std.proofs.lemmas.Bool.{lt-ltb}
use Rattle.std.proofs.lemmas.List.{get_or-set_other, get_or-set_same, length-set, get_or-replicate, length-replicate, set_past}
use Rattle.std.proofs.Math.Nat.{mod-eq_of_lt}
use Rattle.usb_trb.specs.Words.{trb_bytes}
use Rattle.usb_trb.specs.Read.{kind_of, cycle_in}
use Rattle.usb_trb.proofs.Numbers.{cycle_in-zeros}
use Rattle.usb_rings.specs.Places.{index_of, cycle_of}
use Rattle.usb_rings.specs.Memory.{cell, chain_of, link_at, zeros, cleared_cells, cleared}
use Rattle.usb_rings.specs.Written.{IsMemory}
use Rattle.usb_rings.proofs.Cells.{index-below}

-- what zeros say isn't chained
pub zeros-chain : chain_of (kind_of zeros) ≡ false
unfolding kind_of
zeros-chain = refl

-- each place has zeros
pub cell-cleared : (w size base q : ℕ) → 0 < w → w ≤ size → cell w (cleared w size base) q ≡ zeros
unfolding cleared_cells
cell-cleared w size base q z h =
    let below = index-below w q z in
    let other : index_of w q ≡ w → ⊥ = omega (arith, below) in
    let low : index_of w q < size = omega (arith, below) in
    get_or-set_other (replicate size zeros) w (index_of w q) (trb_bytes (link_at base false false)) [] other ∙ get_or-replicate size (index_of w q) zeros [] low

-- the first turn has the cycle true
pub cycle-first : (w q : ℕ) → q < w → cycle_of w q ≡ true
cycle-first w q h =
    let two : q < w + w = omega arith in
    let e : q % (w + w) ≡ q = mod-eq_of_lt two in
    lt-ltb (q % (w + w)) w (omega (arith, e))

-- there are so many cells
pub length-cleared : (w size base : ℕ) → length (cleared_cells w size base) ≡ size
unfolding cleared_cells
length-cleared w size base = length-set (replicate size zeros) w (trb_bytes (link_at base false false)) ∙ length-replicate size zeros

-- the last of them is a Link with the cycle false, where it has no place
link-cleared : (w size base : ℕ) → w < size → get_or (cleared_cells w size base) w [] ≡ trb_bytes (link_at base false false)
unfolding cleared_cells
link-cleared w size base h = get_or-set_same (replicate size zeros) w (trb_bytes (link_at base false false)) [] (omega (arith, length-replicate size zeros))

-- enqueue is at the first place
pub memory-cleared : (w size base : ℕ) → 0 < w → w ≤ size → IsMemory w (cleared w size base) 0
memory-cleared w size base z h = record {
  cells = omega (arith, length-cleared w size base);
  turned = λ q a b. ap cycle_in (cell-cleared w size base q z h) ∙ cycle_in-zeros ∙ ap not (sym (cycle-first w q (omega arith)));
  linked = λ long.
      link-cleared w size base (omega (arith, length-cleared w size base, long))
      ∙ ap (λ (b : Bool). trb_bytes (link_at base b false)) (sym (ap (λ (c : List ℕ). chain_of (kind_of c)) (cell-cleared w size base (w - 1) z h) ∙ zeros-chain))
      ∙ ap (λ (b : Bool). trb_bytes (link_at base (chain_of (kind_of (cell w (cleared w size base) (w - 1)))) (not b))) (sym (cycle-first w 0 z));
}

-- no Link is written where there is no cell for it
pub made-none : (w base : ℕ) (cells : List (List ℕ)) → cells ≡ replicate w zeros → record { base = base; cells = cells } ≡ cleared w w base
unfolding cleared_cells
made-none w base cells e =
    ap (λ (xs : List (List ℕ)). record { base = base; cells = xs })
    (e ∙ sym (set_past (replicate w zeros) w (trb_bytes (link_at base false false)) (omega (arith, length-replicate w zeros))))

-- zeros of which the last becomes the Link
pub made-link : (w base : ℕ) (cells : List (List ℕ)) (x : List ℕ) → cells ≡ replicate (suc w) zeros → x ≡ trb_bytes (link_at base false false)
    → record { base = base; cells = set cells w x } ≡ cleared w (suc w) base
unfolding cleared_cells
made-link w base cells x e f = rw (e, f) refl
