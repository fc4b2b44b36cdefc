-- Lists of what the TRBs at places say.
use Rattle.std.proofs.Common.{◌≡◌, ℕ, zero, suc, ◌+◌, ◌-◌, ◌%◌, ◌<◌, ◌≤◌, Bool, refl, ap, sym, ◌∙◌, arith, List, ◌∷◌, ◌++◌, length, drop, get_or}
use Rattle.usb_trb.specs.declared.kind.TrbKind.{TrbKind}
use Rattle.usb_trb.specs.declared.kind.TrbKind.TheVariants.{NoOp}
use Rattle.usb_trb.specs.Words.{trb_bytes}
use Rattle.usb_trb.specs.Read.{kind_of}
use Rattle.usb_rings.specs.Memory.{Memory, cell, kind_at, trb_at}
use Rattle.usb_rings.specs.Written.{kinds, IsWritten}
use Rattle.usb_rings.proofs.Places.{cycle-same, same-add, same-suc}
use Rattle.usb_rings.proofs.Cells.{cell-same}

-- there are as many as places
pub length-kinds : (w : ℕ) (m : Memory) (p n : ℕ) → length (kinds w m p n) ≡ n
length-kinds w m p zero = refl
length-kinds w m p (suc n) = ap suc (length-kinds w m (suc p) n)

-- two windows behind one another are one
pub kinds-append : (w : ℕ) (m : Memory) (p a b c : ℕ) → a + b ≡ c → kinds w m p a ++ kinds w m (p + a) b ≡ kinds w m p c
kinds-append w m p zero b c h = rw (omega-eq p, ← h, omega-zero b) refl
  where
    omega-eq : (p : ℕ) → p + 0 ≡ p
    omega-eq p = omega arith

    omega-zero : (b : ℕ) → 0 + b ≡ b
    omega-zero b = omega arith
kinds-append w m p (suc a) b zero h = absurd (omega arith)
kinds-append w m p (suc a) b (suc c) h =
    let at : p + suc a ≡ suc p + a = omega arith in
    rw at (ap (λ (ks : List TrbKind). kind_at w m p ∷ ks) (kinds-append w m (suc p) a b c (omega arith)))

-- where the cells are the same, so are the kinds
pub kinds-keep : (w : ℕ) (m m' : Memory) (p n : ℕ) → ((q : ℕ) → p ≤ q → q < p + n → cell w m' q ≡ cell w m q) → kinds w m' p n ≡ kinds w m p n
kinds-keep w m m' p zero h = refl
kinds-keep w m m' p (suc n) h =
    let here : kind_at w m' p ≡ kind_at w m p = ap kind_of (h p (omega arith) (omega arith)) in
    rw (here, kinds-keep w m m' (suc p) n (λ q a b. h q (omega arith) (omega arith))) refl

-- so they are at places that are equal over two turns
pub kinds-same : (w : ℕ) (m : Memory) (p q n : ℕ) → 0 < w → p % (w + w) ≡ q % (w + w) → kinds w m p n ≡ kinds w m q n
kinds-same w m p q zero z h = refl
kinds-same w m p q (suc n) z h =
    let here : kind_at w m p ≡ kind_at w m q = ap kind_of (cell-same w m p q z h) in
    rw (here, kinds-same w m (suc p) (suc q) n z (same-suc (w + w) p q h)) refl

-- a window without its first places
pub drop-kinds : (w : ℕ) (m : Memory) (p a n : ℕ) → drop a (kinds w m p n) ≡ kinds w m (p + a) (n - a)
drop-kinds w m p zero n =
    let at : p + 0 ≡ p = omega arith in
    let all : n - 0 ≡ n = omega arith in
    rw (at, all) refl
drop-kinds w m p (suc a) zero =
    let all : 0 - suc a ≡ 0 = omega arith in
    rw all refl
drop-kinds w m p (suc a) (suc n) =
    let at : p + suc a ≡ suc p + a = omega arith in
    let all : suc n - suc a ≡ n - a = omega arith in
    rw (at, all) (drop-kinds w m (suc p) a n)

-- the one of this number
pub get_or-kinds : (w : ℕ) (m : Memory) (p n j : ℕ) → j < n → get_or (kinds w m p n) j NoOp ≡ kind_at w m (p + j)
get_or-kinds w m p zero j h = absurd (omega arith)
get_or-kinds w m p (suc n) zero h = ap (kind_at w m) (omega-eq p)
  where
    omega-eq : (p : ℕ) → p ≡ p + 0
    omega-eq p = omega arith
get_or-kinds w m p (suc n) (suc j) h =
    let at : suc p + j ≡ p + suc j = omega arith in
    get_or-kinds w m (suc p) n j (omega arith) ∙ ap (kind_at w m) at

-- what is written in a window is read from its cells
pub window-read : (w : ℕ) (m : Memory) (p n d : ℕ) (ks : List TrbKind) → 0 < w → IsWritten w m p n → ks ≡ kinds w m p n → d % (w + w) ≡ p % (w + w)
    → (j : ℕ) → j < length ks → cell w m (d + j) ≡ trb_bytes (trb_at w (get_or ks j NoOp) (d + j))
window-read w m p n d ks z wr e f j h =
    let long : length ks ≡ n = ap length e ∙ length-kinds w m p n in
    let same : (d + j) % (w + w) ≡ (p + j) % (w + w) = same-add (w + w) d p j f in
    let there = wr (p + j) (omega arith) (omega arith) in
    let kind : get_or ks j NoOp ≡ kind_at w m (p + j) = ap (λ (xs : List TrbKind). get_or xs j NoOp) e ∙ get_or-kinds w m p n j (omega arith) in
    cell-same w m (d + j) (p + j) z same ∙ sym there.1
    ∙ ap (λ (k : TrbKind). trb_bytes (trb_at w k (p + j))) (sym kind)
    ∙ ap (λ (b : Bool). trb_bytes (record { kind = get_or ks j NoOp; cycle = b })) (sym (cycle-same w (d + j) (p + j) same))
