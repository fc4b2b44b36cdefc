-- The TRBs of a TD, piece by piece.
use Rattle.std.proofs.Common.{◌≡◌, ℕ, suc, ◌+◌, ◌-◌, ◌*◌, ◌/◌, ◌<◌, ◌≤◌, Bool, true, false, List, [], ◌∷◌, ◌++◌, length, length-append, refl, sym, ap, ◌∙◌, arith}
use Rattle.std.specs.Prelude.{replicate, if◌then◌else◌}
use Rattle.std.proofs.lemmas.List.{append-nil}
use Rattle.usb_trb.specs.declared.kind.Normal.{Normal as NormalTrb}
use Rattle.usb_model.specs.Stands.{full_trbs, lengths_of}
use Rattle.usb_tables.specs.Tds.{Tds, lengths}
use Rattle.usb_tables.specs.Trbs.{normal_at, td_at, normals_at, lengths_in}

-- at most 65,536 bytes are one piece
pub lengths_of-small : (n : ℕ) → n ≤ 65536 → lengths_of false n ≡ n ∷ []
lengths_of-small n small =
    let none : (n - 1) / 65536 ≡ 0 = omega arith in
    let rest : n - 0 ≡ n = omega arith in
    rw (none, rest) refl

-- so many whole pieces and a rest; one more whole piece
one_more : (f r n : ℕ) → (n - 1) / 65536 ≡ suc f → lengths_of false n ≡ 65536 ∷ (replicate f 65536 ++ (n - suc f * 65536) ∷ [])
one_more f r n e = rw e refl

-- more bytes are a piece of 65,536, and the pieces of the others
pub lengths_of-large : (n : ℕ) → 65536 < n → lengths_of false n ≡ 65536 ∷ lengths_of false (n - 65536)
lengths_of-large n large =
    let f : ℕ = (n - 65536 - 1) / 65536 in
    let e : (n - 1) / 65536 ≡ suc f = omega arith in
    let rest : n - suc f * 65536 ≡ n - 65536 - f * 65536 = omega arith in
    one_more f 0 n e ∙ ap (λ r. 65536 ∷ (replicate f 65536 ++ r ∷ [])) rest

-- the first TRB of a TD goes on in the next
first_goes_on : (inward ends : Bool) (a l r : ℕ) (ls : List ℕ) → td_at inward ends a (l ∷ (ls ++ r ∷ [])) ≡ normal_at inward true false a l ∷ td_at inward ends (a + l) (ls ++ r ∷ [])
first_goes_on inward ends a l r [] = refl
first_goes_on inward ends a l r (m ∷ ls) = refl

-- the TD of more bytes is a TRB of 65,536, and the TD of the others
pub td_at-large : (inward ends : Bool) (a n : ℕ) → 65536 < n → td_at inward ends a (lengths_of false n) ≡ normal_at inward true false a 65536 ∷ td_at inward ends (a + 65536) (lengths_of false (n - 65536))
td_at-large inward ends a n large =
    ap (td_at inward ends a) (lengths_of-large n large)
    ∙ first_goes_on inward ends a 65536 (n - 65536 - full_trbs (n - 65536) * 65536) (replicate (full_trbs (n - 65536)) 65536)

-- the TD of at most 65,536 bytes is one TRB
pub td_at-small : (inward ends : Bool) (a n : ℕ) → n ≤ 65536 → td_at inward ends a (lengths_of false n) ≡ normal_at inward false ends a n ∷ []
td_at-small inward ends a n small = ap (td_at inward ends a) (lengths_of-small n small)

-- the TRBs of a TD have the lengths of its pieces
pub td_at-lengths : (inward ends : Bool) (a : ℕ) (ls : List ℕ) → lengths_in (td_at inward ends a ls) ≡ ls
td_at-lengths inward ends a [] = refl
td_at-lengths inward ends a (l ∷ []) = refl
td_at-lengths inward ends a (l ∷ m ∷ ls) = ap (λ xs. l ∷ xs) (td_at-lengths inward ends (a + l) (m ∷ ls))

lengths_in-append : (xs ys : List NormalTrb) → lengths_in (xs ++ ys) ≡ lengths_in xs ++ lengths_in ys
lengths_in-append [] ys = refl
lengths_in-append (x ∷ xs) ys = ap (λ zs. x.length ∷ zs) (lengths_in-append xs ys)

behind : (ls : List ℕ) (r : ℕ) → (ls ++ r ∷ []) ++ 0 ∷ [] ≡ ls ++ r ∷ 0 ∷ []
behind [] r = refl
behind (l ∷ ls) r = ap (λ xs. l ∷ xs) (behind ls r)

-- the TRBs of a transfer have the lengths of its TDs
pub normals_at_lengths : (a : ℕ) (t : Tds) → lengths_in (normals_at a t) ≡ lengths t
normals_at_lengths a t = by_extra t.extra t.inward t.length
  where
    by_extra : (extra inward : Bool) (n : ℕ) → lengths_in (normals_at a (record { length = n; extra = extra; inward = inward })) ≡ lengths_of extra n
    by_extra true inward n =
        lengths_in-append (td_at inward false a (lengths_of false n)) _
        ∙ ap (λ xs. xs ++ 0 ∷ []) (td_at-lengths inward false a (lengths_of false n))
        ∙ behind (replicate (full_trbs n) 65536) (n - full_trbs n * 65536)
    by_extra false inward n =
        lengths_in-append (td_at inward true a (lengths_of false n)) []
        ∙ ap (λ xs. xs ++ []) (td_at-lengths inward true a (lengths_of false n))
        ∙ append-nil (lengths_of false n)

length_of_lengths : (xs : List NormalTrb) → length (lengths_in xs) ≡ length xs
length_of_lengths [] = refl
length_of_lengths (x ∷ xs) = ap suc (length_of_lengths xs)

-- there are as many TRBs as lengths
pub normals_at_count : (a : ℕ) (t : Tds) → length (normals_at a t) ≡ length (lengths t)
normals_at_count a t = sym (length_of_lengths (normals_at a t)) ∙ ap length (normals_at_lengths a t)

-- there is a TRB
pub normals_at_some : (a : ℕ) (t : Tds) → 0 < length (normals_at a t)
normals_at_some a t =
    let whole : List ℕ = replicate (full_trbs t.length) 65536 in
    let last : List ℕ = (t.length - full_trbs t.length * 65536) ∷ (if t.extra then 0 ∷ [] else []) in
    let split : length (lengths t) ≡ length whole + length last = length-append whole last in
    rw (normals_at_count a t) (omega (arith, split))
