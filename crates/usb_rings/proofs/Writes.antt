-- One TRB after another is written.
use Rattle.std.proofs.Common.{◌≡◌, ℕ, zero, suc, ◌+◌, ◌-◌, ◌%◌, ◌<◌, ◌≤◌, refl, ap, sym, ◌∙◌, subst, arith, List, [], ◌∷◌, length, take, drop, get_or, replicate}
use Rattle.std.proofs.Math.Seq.{drop-cons}
use Rattle.std.proofs.lemmas.List.{drop_all}
use Rattle.usb_trb.specs.declared.kind.TrbKind.TheVariants.{Normal, NoOp}
use Rattle.usb_trb.specs.declared.kind.Normal.{Normal as NormalTrb}
use Rattle.usb_trb.specs.Words.{IsKind}
use Rattle.usb_rings.specs.Places.{after}
use Rattle.usb_rings.specs.Memory.{Memory, put, puts}
use Rattle.usb_rings.specs.Written.{AllKinds}
use Rattle.usb_rings.proofs.Puts.{puts-one, puts-none}
use Rattle.usb_rings.specs.Line.{places, normals}
use Rattle.usb_rings.proofs.ItemsTrbs.{some-places}

-- the place behind a place, over two turns
pub next-place : (at at' : ℕ) → at' ≡ after places at 1 → at' % (places + places) ≡ suc at % (places + places)
next-place at at' h = omega arith

-- one TRB more is written
pub puts-next : (m : Memory) (at at' i : ℕ) (trbs : List NormalTrb) (t : NormalTrb) → i < length trbs → t ≡ get_or trbs i t → at' ≡ after places at 1
    → puts places (put places m at (Normal t)) at' (normals (drop (i + 1) trbs)) ≡ puts places m at (normals (drop i trbs))
puts-next m at at' i trbs t h e f =
    let next : i + 1 ≡ suc i = omega arith in
    let here : t ∷ drop (i + 1) trbs ≡ drop i trbs =
    ap (λ (u : NormalTrb). u ∷ drop (i + 1) trbs) e ∙ ap (λ (j : ℕ). get_or trbs i t ∷ drop j trbs) next ∙ sym (drop-cons trbs i t h) in
    puts-one places m at at' (Normal t) (normals (drop (i + 1) trbs)) some-places (next-place at at' f) ∙ ap (λ (us : List NormalTrb). puts places m at (normals us)) here

-- all TRBs are written
pub puts-end : (m : Memory) (at i : ℕ) (trbs : List NormalTrb) → length trbs ≤ i → puts places m at (normals (drop i trbs)) ≡ m
puts-end m at i trbs h = ap (λ (us : List NormalTrb). puts places m at (normals us)) (drop_all i trbs h) ∙ puts-none places m at

-- the ranges of one TRB more
pub ranges-more : (trbs : List NormalTrb) (i : ℕ) (t : NormalTrb) → i < length trbs → t ≡ get_or trbs i t → IsKind (Normal t)
    → AllKinds (normals (take i trbs)) → AllKinds (normals (take (i + 1) trbs))
ranges-more [] i t h e r all = absurd (omega arith)
ranges-more (x ∷ xs) zero t h e r all = (subst (λ (u : NormalTrb). IsKind (Normal u)) e r, tt)
ranges-more (x ∷ xs) (suc i) t h e r all =
    let next : suc i + 1 ≡ suc (i + 1) = omega arith in
    rw next (all.0, ranges-more xs i t (omega arith) e r all.1)

-- No Ops are one and the others
pub replicate-one : (n : ℕ) → 0 < n → replicate n NoOp ≡ NoOp ∷ replicate (n - 1) NoOp
replicate-one zero h = absurd (omega arith)
replicate-one (suc n) h =
    let all : suc n - 1 ≡ n = omega arith in
    rw all refl

-- no No Ops
pub replicate-none : (n : ℕ) → n ≤ 0 → replicate n NoOp ≡ []
replicate-none zero h = refl
replicate-none (suc n) h = absurd (omega arith)
