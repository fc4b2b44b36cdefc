-- What writes at enqueue and behind it leave in memory.
use Rattle.std.proofs.Common.{◌≡◌, ℕ, suc, ◌+◌, ◌-◌, ◌%◌, ◌<◌, ◌≤◌, Bool, true, false, refl, ap, sym, ◌∙◌, subst, arith, List, [], ◌∷◌, length, get_or, inl, inr, ◌⊎◌}
use Rattle.std.specs.Prelude.{not}
use Rattle.std.proofs.lemmas.Bool.{cases_eq}
use Rattle.std.proofs.Math.Nat.{mod-eq_of_lt}
use Rattle.usb_trb.specs.declared.kind.TrbKind.{TrbKind}
use Rattle.usb_trb.specs.Words.{trb_bytes, IsKind}
use Rattle.usb_trb.specs.Read.{kind_of, cycle_in}
use Rattle.usb_trb.proofs.Numbers.{cycle_in-bytes}
use Rattle.usb_rings.specs.Places.{index_of, cycle_of}
use Rattle.usb_rings.specs.Memory.{Memory, cell, kind_at, chain_of, trb_at, link_at, put, puts}
use Rattle.usb_rings.specs.Written.{kinds, AllKinds, IsCell, IsWritten, IsTurned, IsLinked, IsMemory}
use Rattle.usb_rings.proofs.Places.{cycle-same, index-turn, cycle-turn, cycle-link, cycle-next, index-apart, same-add}
use Rattle.usb_rings.proofs.Cells.{cell-same, puts-same, length-put, cell-put-other, cell-put-same, link-put-at, link-put-other, kind-put, is_cell-put, is_cell-keep}

-- cells before the writes, less than a turn
pub cell-puts-before : (w : ℕ) (m : Memory) (p q : ℕ) (ks : List TrbKind) → q < p → p + length ks ≤ q + w → cell w (puts w m p ks) q ≡ cell w m q
unfolding puts
cell-puts-before w m p q [] a b = refl
cell-puts-before w m p q (k ∷ ks) a b =
    cell-puts-before w (put w m p k) (suc p) q ks (omega arith) (omega arith)
    ∙ cell-put-other w m p q k (omega arith) (λ e. index-apart w q p a (omega arith) (sym e))

-- cells behind the writes, less than a turn
pub cell-puts-after : (w : ℕ) (m : Memory) (p q : ℕ) (ks : List TrbKind) → p + length ks ≤ q → q < p + w → cell w (puts w m p ks) q ≡ cell w m q
unfolding puts
cell-puts-after w m p q [] a b = refl
cell-puts-after w m p q (k ∷ ks) a b =
    cell-puts-after w (put w m p k) (suc p) q ks (omega arith) (omega arith)
    ∙ cell-put-other w m p q k (omega arith) (λ e. index-apart w p q (omega arith) b e)

-- no cell comes or goes
pub length-puts : (w : ℕ) (m : Memory) (p : ℕ) (ks : List TrbKind) → length (puts w m p ks).cells ≡ length m.cells
unfolding puts
length-puts w m p [] = refl
length-puts w m p (k ∷ ks) = length-puts w (put w m p k) (suc p) ks ∙ length-put w m p k

-- the address stays
pub base-puts : (w : ℕ) (m : Memory) (p : ℕ) (ks : List TrbKind) → (puts w m p ks).base ≡ m.base
unfolding puts
base-puts w m p [] = refl
base-puts w m p (k ∷ ks) = base-puts w (put w m p k) (suc p) ks

-- what was written stands there
pub kinds-puts : (w : ℕ) (m : Memory) (p : ℕ) (ks : List TrbKind) → 0 < w → w ≤ length m.cells → AllKinds ks → length ks ≤ w → kinds w (puts w m p ks) p (length ks) ≡ ks
unfolding puts
kinds-puts w m p [] z size h few = refl
kinds-puts w m p (k ∷ ks) z size h few =
    let here : cell w (puts w (put w m p k) (suc p) ks) p ≡ cell w (put w m p k) p = cell-puts-before w (put w m p k) (suc p) p ks (omega arith) (omega arith) in
    let kind : kind_at w (puts w (put w m p k) (suc p) ks) p ≡ k = ap kind_of here ∙ kind-put w m p p k z size h.0 refl in
    let rest : kinds w (puts w (put w m p k) (suc p) ks) (suc p) (length ks) ≡ ks =
    kinds-puts w (put w m p k) (suc p) ks z (omega (arith, length-put w m p k, size)) h.1 (omega arith) in
    rw (kind, rest) refl

-- a TRB put at the end of a window is in it
pub written-put : (w : ℕ) (m : Memory) (p n e : ℕ) (k : TrbKind) → w ≤ length m.cells → IsKind k → p + n ≡ e → n < w → IsWritten w m p n → IsWritten w (put w m e k) p (suc n)
written-put w m p n e k size h at few wr = λ q a b. by_place q a b (cases_eq q e)
  where
    by_place : (q : ℕ) → p ≤ q → q < p + suc n → (q ≡ e) ⊎ (q ≡ e → ⊥) → IsCell w (put w m e k) q
    by_place q a b (inl same) = subst (λ (x : ℕ). IsCell w (put w m e k) x) (sym same) (is_cell-put w m e k (omega arith) size h)
    by_place q a b (inr other) =
        is_cell-keep w m (put w m e k) q (cell-put-other w m e q k (omega arith) (λ f. index-apart w q e (omega arith) (omega arith) (sym f))) (wr q a (omega arith))

-- TRBs put at the end of a window are in it
pub written-puts : (w : ℕ) (m : Memory) (p n e : ℕ) (ks : List TrbKind) → w ≤ length m.cells → AllKinds ks → p + n ≡ e → n + length ks ≤ w
    → IsWritten w m p n → IsWritten w (puts w m e ks) p (n + length ks)
unfolding puts
written-puts w m p n e [] size h at few wr = λ q a b. wr q a (omega arith)
written-puts w m p n e (k ∷ ks) size h at few wr =
    let one = written-put w m p n e k size h.0 at (omega arith) wr in
    let all = written-puts w (put w m e k) p (suc n) (suc e) ks (omega (arith, length-put w m e k, size)) h.1 (omega arith) (omega arith) one in
    λ q a b. all q a (omega arith)

-- a bit turned twice is itself
pub back-twice : (b : Bool) → b ≡ not (not b)
back-twice true = refl
back-twice false = refl

-- enqueue goes on by one: the cell that was written isn't new until the turn behind it
pub turned-put : (w : ℕ) (m : Memory) (e : ℕ) (k : TrbKind) → 0 < w → w ≤ length m.cells → IsTurned w m e → IsTurned w (put w m e k) (suc e)
turned-put w m e k z size t = λ q a b. by_place q a b (cases_eq q (e + w))
  where
    by_place : (q : ℕ) → suc e ≤ q → q < suc e + w → (q ≡ e + w) ⊎ (q ≡ e + w → ⊥) → cycle_in (cell w (put w m e k) q) ≡ not (cycle_of w q)
    by_place q a b (inl same) =
        ap cycle_in (cell-put-same w m e q k z size (ap (λ (x : ℕ). x % w) same ∙ index-turn w e))
        ∙ cycle_in-bytes (trb_at w k e) ∙ back-twice (cycle_of w e) ∙ ap not (sym (ap (cycle_of w) same ∙ cycle-turn w e z))
    by_place q a b (inr other) =
        ap cycle_in (cell-put-other w m e q k z (λ f. index-apart w e q (omega arith) (omega arith) f)) ∙ t q (omega arith) (omega arith)

-- the place before the Link
pub index-last : (w : ℕ) → 0 < w → suc (index_of w (w - 1)) ≡ w
index-last w z =
    let small : w - 1 < w = omega arith in
    omega (arith, mod-eq_of_lt small)

-- so the Link
pub linked-put : (w : ℕ) (m : Memory) (e : ℕ) (k : TrbKind) → 0 < w → w ≤ length m.cells → IsKind k → IsLinked w m e → IsLinked w (put w m e k) (suc e)
linked-put w m e k z size h l = λ long. by_index (sym (length-put w m e k) ∙ long) (cases_eq (suc (index_of w e)) w)
  where
    by_index : length m.cells ≡ suc w → (suc (index_of w e) ≡ w) ⊎ (suc (index_of w e) ≡ w → ⊥)
        → get_or (put w m e k).cells w [] ≡ trb_bytes (link_at m.base (chain_of (kind_at w (put w m e k) (w - 1))) (not (cycle_of w (suc e))))
    by_index long (inl at) =
        let last = index-last w z in
        let kind : kind_at w (put w m e k) (w - 1) ≡ k = kind-put w m e (w - 1) k z size h (omega (arith, last, at)) in
        link-put-at w m e k long at ∙ ap (λ (b : Bool). trb_bytes (link_at m.base (chain_of k) b)) (cycle-link w e at)
        ∙ ap (λ (k' : TrbKind). trb_bytes (link_at m.base (chain_of k') (not (cycle_of w (suc e))))) (sym kind)
    by_index long (inr at) =
        let last = index-last w z in
        let kind : kind_at w (put w m e k) (w - 1) ≡ kind_at w m (w - 1) = ap kind_of (cell-put-other w m e (w - 1) k z (λ f. at (omega (arith, last, f)))) in
        link-put-other w m e k z at ∙ l long ∙ ap (λ (b : Bool). trb_bytes (link_at m.base (chain_of (kind_at w m (w - 1))) (not b))) (cycle-next w e z at)
        ∙ ap (λ (k' : TrbKind). trb_bytes (link_at m.base (chain_of k') (not (cycle_of w (suc e))))) (sym kind)

-- what is shown of the bytes is so wherever enqueue is the same over two turns
pub memory-same : (w : ℕ) (m : Memory) (e e' : ℕ) → 0 < w → e % (w + w) ≡ e' % (w + w) → IsMemory w m e → IsMemory w m e'
memory-same w m e e' z h s = record {
  cells = s.cells;
  turned = λ q a b.
      let there : e' + (q - e') ≡ q = omega arith in
      let same : (e + (q - e')) % (w + w) ≡ q % (w + w) = same-add (w + w) e e' (q - e') h ∙ ap (λ (x : ℕ). x % (w + w)) there in
      ap cycle_in (sym (cell-same w m (e + (q - e')) q z same)) ∙ s.turned (e + (q - e')) (omega arith) (omega arith) ∙ ap not (cycle-same w (e + (q - e')) q same);
  linked = λ long. s.linked long ∙ ap (λ (b : Bool). trb_bytes (link_at m.base (chain_of (kind_at w m (w - 1))) (not b))) (cycle-same w e e' h);
}

-- what is shown of the bytes is kept by a TRB at enqueue
pub memory-put : (w : ℕ) (m : Memory) (e : ℕ) (k : TrbKind) → 0 < w → IsKind k → IsMemory w m e → IsMemory w (put w m e k) (suc e)
memory-put w m e k z h s = record {
  cells = omega (arith, length-put w m e k, s.cells);
  turned = turned-put w m e k z s.cells s.turned;
  linked = linked-put w m e k z s.cells h s.linked;
}

-- so by more of them
pub memory-puts : (w : ℕ) (m : Memory) (e : ℕ) (ks : List TrbKind) → 0 < w → AllKinds ks → IsMemory w m e → IsMemory w (puts w m e ks) (e + length ks)
unfolding puts
memory-puts w m e [] z h s = subst (IsMemory w m) (omega arith) s
memory-puts w m e (k ∷ ks) z h s =
    subst (IsMemory w (puts w (put w m e k) (suc e) ks)) (omega arith) (memory-puts w (put w m e k) (suc e) ks z h.1 (memory-put w m e k z h.0 s))

-- TRBs are written one after another
pub puts-none : (w : ℕ) (m : Memory) (at : ℕ) → puts w m at [] ≡ m
unfolding puts
puts-none w m at = refl

-- the first, and then the others
pub puts-one : (w : ℕ) (m : Memory) (at at' : ℕ) (k : TrbKind) (ks : List TrbKind) → 0 < w → at' % (w + w) ≡ suc at % (w + w) → puts w (put w m at k) at' ks ≡ puts w m at (k ∷ ks)
unfolding puts
puts-one w m at at' k ks z h = puts-same w (put w m at k) at' (suc at) ks z h
