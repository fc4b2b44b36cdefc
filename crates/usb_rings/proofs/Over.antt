-- TRBs in use are written over.
use Rattle.std.proofs.Common.{◌≡◌, ◌≢◌, ℕ, suc, ◌+◌, ◌-◌, ◌%◌, ◌<◌, ◌≤◌, Bool, ap, sym, ◌∙◌, subst, arith, List, [], ◌∷◌, length, get_or, inl, inr, ◌⊎◌}
use Rattle.std.specs.Prelude.{not}
use Rattle.std.proofs.lemmas.Bool.{cases_eq, cases_lt}
use Rattle.usb_trb.specs.declared.kind.TrbKind.{TrbKind}
use Rattle.usb_trb.specs.Words.{trb_bytes, IsKind}
use Rattle.usb_trb.specs.Read.{kind_of, cycle_in}
use Rattle.usb_trb.proofs.Numbers.{cycle_in-bytes}
use Rattle.usb_rings.specs.Places.{index_of, cycle_of}
use Rattle.usb_rings.specs.Memory.{Memory, cell, kind_at, chain_of, trb_at, link_at, put, puts}
use Rattle.usb_rings.specs.Written.{AllKinds, IsCell, IsWritten, IsTurned, IsLinked, IsMemory}
use Rattle.usb_rings.proofs.Places.{index-turn, cycle-turn, cycle-within, index-apart, index-apart2}
use Rattle.usb_rings.proofs.Cells.{length-put, cell-put-other, cell-put-same, link-put-at, link-put-other, kind-put, is_cell-put, is_cell-keep}
use Rattle.usb_rings.proofs.Puts.{back-twice, index-last}

-- a TRB of a window that is less than a turn
pub written-over : (w : ℕ) (m : Memory) (p n at : ℕ) (k : TrbKind) → w ≤ length m.cells → IsKind k → n < w → p ≤ at → at < p + n → IsWritten w m p n → IsWritten w (put w m at k) p n
written-over w m p n at k size h few a b wr = λ q c d. by_place q c d (cases_eq q at)
  where
    by_side : (q : ℕ) → p ≤ q → q < p + n → (q ≡ at → ⊥) → (at < q) ⊎ (q ≤ at) → index_of w q ≢ index_of w at
    by_side q c d other (inl above) = λ f. index-apart w at q above (omega arith) f
    by_side q c d other (inr below) = λ f. index-apart w q at (omega arith) (omega arith) (sym f)

    by_place : (q : ℕ) → p ≤ q → q < p + n → (q ≡ at) ⊎ (q ≡ at → ⊥) → IsCell w (put w m at k) q
    by_place q c d (inl same) = subst (λ (x : ℕ). IsCell w (put w m at k) x) (sym same) (is_cell-put w m at k (omega arith) size h)
    by_place q c d (inr other) = is_cell-keep w m (put w m at k) q (cell-put-other w m at q k (omega arith) (by_side q c d other (cases_lt at q))) (wr q c d)

-- its cell keeps its cycle, since it is of the same turn
pub turned-over : (w : ℕ) (m : Memory) (e p : ℕ) (k : TrbKind) → 0 < w → w ≤ length m.cells → p < e → e ≤ p + w → IsTurned w m e → IsTurned w (put w m p k) e
turned-over w m e p k z size a b t = λ q c d. by_place q c d (cases_eq q (p + w))
  where
    by_place : (q : ℕ) → e ≤ q → q < e + w → (q ≡ p + w) ⊎ (q ≡ p + w → ⊥) → cycle_in (cell w (put w m p k) q) ≡ not (cycle_of w q)
    by_place q c d (inl same) =
        ap cycle_in (cell-put-same w m p q k z size (ap (λ (x : ℕ). x % w) same ∙ index-turn w p))
        ∙ cycle_in-bytes (trb_at w k p) ∙ back-twice (cycle_of w p) ∙ ap not (sym (ap (cycle_of w) same ∙ cycle-turn w p z))
    by_place q c d (inr other) =
        ap cycle_in (cell-put-other w m p q k z (λ f. index-apart2 w p q (omega arith) (omega arith) other f)) ∙ t q c d

-- so does the Link behind it
pub linked-over : (w : ℕ) (m : Memory) (e p : ℕ) (k : TrbKind) → 0 < w → w ≤ length m.cells → IsKind k → p < e → e ≤ p + w → IsLinked w m e → IsLinked w (put w m p k) e
linked-over w m e p k z size h a b l = λ long. by_index (sym (length-put w m p k) ∙ long) (cases_eq (suc (index_of w p)) w)
  where
    by_index : length m.cells ≡ suc w → (suc (index_of w p) ≡ w) ⊎ (suc (index_of w p) ≡ w → ⊥)
        → get_or (put w m p k).cells w [] ≡ trb_bytes (link_at m.base (chain_of (kind_at w (put w m p k) (w - 1))) (not (cycle_of w e)))
    by_index long (inl at) =
        let last = index-last w z in
        let kind : kind_at w (put w m p k) (w - 1) ≡ k = kind-put w m p (w - 1) k z size h (omega (arith, last, at)) in
        link-put-at w m p k long at ∙ ap (λ (b : Bool). trb_bytes (link_at m.base (chain_of k) b)) (cycle-within w p e at a b)
        ∙ ap (λ (k' : TrbKind). trb_bytes (link_at m.base (chain_of k') (not (cycle_of w e)))) (sym kind)
    by_index long (inr at) =
        let last = index-last w z in
        let kind : kind_at w (put w m p k) (w - 1) ≡ kind_at w m (w - 1) = ap kind_of (cell-put-other w m p (w - 1) k z (λ f. at (omega (arith, last, f)))) in
        link-put-other w m p k z at ∙ l long
        ∙ ap (λ (k' : TrbKind). trb_bytes (link_at m.base (chain_of k') (not (cycle_of w e)))) (sym kind)

-- what is shown of the bytes is kept by TRBs before enqueue, at most a turn
pub memory-over : (w : ℕ) (m : Memory) (e p : ℕ) (ks : List TrbKind) → 0 < w → AllKinds ks → p + length ks ≤ e → e ≤ p + w → IsMemory w m e → IsMemory w (puts w m p ks) e
unfolding puts
memory-over w m e p [] z h a b s = s
memory-over w m e p (k ∷ ks) z h a b s =
    memory-over w (put w m p k) e (suc p) ks z h.1 (omega arith) (omega arith) (record {
      cells = omega (arith, length-put w m p k, s.cells);
      turned = turned-over w m e p k z s.cells (omega arith) b s.turned;
      linked = linked-over w m e p k z s.cells h.0 (omega arith) b s.linked;
    })

-- TRBs of a window that is less than a turn
pub written-over-all : (w : ℕ) (m : Memory) (p n at : ℕ) (ks : List TrbKind) → w ≤ length m.cells → AllKinds ks → n < w → p ≤ at → at + length ks ≤ p + n
    → IsWritten w m p n → IsWritten w (puts w m at ks) p n
unfolding puts
written-over-all w m p n at [] size h few a b wr = wr
written-over-all w m p n at (k ∷ ks) size h few a b wr =
    written-over-all w (put w m at k) p n (suc at) ks (omega (arith, length-put w m at k, size)) h.1 few (omega arith) (omega arith)
    (written-over w m p n at k size h.0 few a (omega arith) wr)
