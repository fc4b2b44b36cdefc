-- The TRBs of a transfer, from one of them on.
use Rattle.std.proofs.Common.{◌≡◌, ℕ, zero, suc, ◌+◌, ◌-◌, ◌*◌, ◌<◌, refl, ap, sym, subst, ◌∙◌, arith, List, [], ◌∷◌, ◌++◌, length, drop, true, false, Bool, not, ◌||◌, if◌then◌else◌}
use Rattle.std.specs.Prelude.{replicate}
use Rattle.std.proofs.lemmas.List.{append-nil, length-map}
use Rattle.usb_model.specs.declared.request.Request.{Request}
use Rattle.usb_model.specs.Requests.{length_of}
use Rattle.usb_trb.specs.declared.kind.Normal.{Normal as NormalTrb}
use Rattle.usb_trb.specs.declared.kind.TrbKind.{TrbKind}
use Rattle.usb_trb.specs.declared.kind.TrbKind.TheVariants.{Normal}
use Rattle.usb_model.specs.Stands.{full_trbs, lengths_of}
use Rattle.usb_model.specs.Kept.{is_extra, trbs_of}
use Rattle.usb_tables.specs.Tds.{Tds}
use Rattle.usb_tables.specs.Trbs.{normal_at, normals_at, td_at, lengths_in}
use Rattle.usb_rings.specs.Line.{normals}
use Rattle.usb_xhc.specs.Ahead.{ahead, goes_on, lengths}

-- the last tells the transfer's end, and no other does
abbrev pub EndsLast : List NormalTrb → Type 0
EndsLast [] = ⊥
EndsLast (t ∷ []) = t.done ≡ true
EndsLast (t ∷ u ∷ ts) = (t.done ≡ false) × EndsLast (u ∷ ts)

-- so they are the transfer's, whatever stands behind them
pub ahead_whole : (ts : List NormalTrb) (ks : List TrbKind) → EndsLast ts → ahead (normals ts ++ ks) ≡ ts
ahead_whole [] ks h = absurd h
ahead_whole (t ∷ []) ks h = ap (λ (b : Bool). if b then t ∷ [] else t ∷ ahead ks) h
ahead_whole (t ∷ u ∷ ts) ks h =
    ap (λ (b : Bool). if b then t ∷ [] else t ∷ ahead (normals (u ∷ ts) ++ ks)) h.0
    ∙ ap (λ (xs : List NormalTrb). t ∷ xs) (ahead_whole (u ∷ ts) ks h.1)

-- from one of them on
pub ends_drop : (ts : List NormalTrb) (i : ℕ) → EndsLast ts → i < length ts → EndsLast (drop i ts)
ends_drop [] i h less = absurd h
ends_drop (t ∷ ts) zero h less = h
ends_drop (t ∷ []) (suc i) h less = absurd (omega (arith, less))
ends_drop (t ∷ u ∷ ts) (suc i) h less = ends_drop (u ∷ ts) i h.1 (omega (arith, less))

-- each but the last belongs to the same TD as the next
abbrev pub AllChained : List NormalTrb → Type 0
AllChained [] = Unit {0}
AllChained (t ∷ []) = Unit {0}
AllChained (t ∷ u ∷ ts) = (t.chain ≡ true) × AllChained (u ∷ ts)

-- so no TD ends before the transfer
pub chained_ends : (ts : List NormalTrb) (i : ℕ) → AllChained ts → goes_on (drop i ts) ≡ false
chained_ends [] zero h = refl
chained_ends [] (suc i) h = refl
chained_ends (t ∷ []) zero h = refl
chained_ends (t ∷ []) (suc i) h = chained_ends [] i tt
chained_ends (t ∷ u ∷ ts) zero h = ap (λ (b : Bool). not b || goes_on (u ∷ ts)) h.0 ∙ chained_ends (u ∷ ts) zero h.1
chained_ends (t ∷ u ∷ ts) (suc i) h = chained_ends (u ∷ ts) i h.1

-- the last ends its TD
abbrev pub EndsTd : List NormalTrb → Type 0
EndsTd [] = ⊥
EndsTd (t ∷ []) = t.chain ≡ false
EndsTd (t ∷ u ∷ ts) = EndsTd (u ∷ ts)

or_true : (b : Bool) → (b || true) ≡ true
or_true true = refl
or_true false = refl

-- where another TRB stands behind it, this is seen from each of them on
pub more_behind : (ts : List NormalTrb) (z : NormalTrb) (i : ℕ) → EndsTd ts → i < length ts → goes_on (drop i (ts ++ z ∷ [])) ≡ true
more_behind [] z i h less = absurd h
more_behind (t ∷ []) z zero h less = ap (λ (b : Bool). not b || goes_on (z ∷ [])) h
more_behind (t ∷ []) z (suc i) h less = absurd (omega (arith, less))
more_behind (t ∷ u ∷ ts) z zero h less = ap (λ (b : Bool). not t.chain || b) (more_behind (u ∷ ts) z zero h (omega arith)) ∙ or_true (not t.chain)
more_behind (t ∷ u ∷ ts) z (suc i) h less = more_behind (u ∷ ts) z i h (omega (arith, less))

-- a TD of some pieces
pub td_ends : (inward : Bool) (a l : ℕ) (ls : List ℕ) → EndsLast (td_at inward true a (l ∷ ls))
td_ends inward a l [] = refl
td_ends inward a l (m ∷ []) = (refl, refl)
td_ends inward a l (m ∷ n ∷ ls) = (refl, td_ends inward (a + l) m (n ∷ ls))

-- a TD behind which another TRB ends the transfer
pub td_goes : (inward : Bool) (a : ℕ) (ls : List ℕ) (z : NormalTrb) → z.done ≡ true → EndsLast (td_at inward false a ls ++ z ∷ [])
td_goes inward a [] z h = h
td_goes inward a (l ∷ []) z h = (refl, h)
td_goes inward a (l ∷ m ∷ []) z h = (refl, (refl, h))
td_goes inward a (l ∷ m ∷ n ∷ ls) z h = (refl, td_goes inward (a + l) (m ∷ n ∷ ls) z h)

pub td_chained : (inward ends : Bool) (a : ℕ) (ls : List ℕ) → AllChained (td_at inward ends a ls)
td_chained inward ends a [] = tt
td_chained inward ends a (l ∷ []) = tt
td_chained inward ends a (l ∷ m ∷ []) = (refl, tt)
td_chained inward ends a (l ∷ m ∷ n ∷ ls) = (refl, td_chained inward ends (a + l) (m ∷ n ∷ ls))

pub td_last : (inward ends : Bool) (a l : ℕ) (ls : List ℕ) → EndsTd (td_at inward ends a (l ∷ ls))
td_last inward ends a l [] = refl
td_last inward ends a l (m ∷ []) = refl
td_last inward ends a l (m ∷ n ∷ ls) = td_last inward ends (a + l) m (n ∷ ls)

-- the lengths, said in two ways
pub same_lengths : (ts : List NormalTrb) → lengths ts ≡ lengths_in ts
same_lengths [] = refl
same_lengths (t ∷ ts) = ap (λ (ls : List ℕ). t.length ∷ ls) (same_lengths ts)

-- the pieces of a transfer's bytes: there is one at least
pub some_pieces : (n : ℕ) (P : List ℕ → Type 0) → ((l : ℕ) (ls : List ℕ) → P (l ∷ ls)) → P (lengths_of false n)
some_pieces n P each = by_full (full_trbs n)
  where
    by_full : (f : ℕ) → P (replicate f 65536 ++ (n - f * 65536) ∷ [])
    by_full zero = each (n - 0) []
    by_full (suc f) = each 65536 (replicate f 65536 ++ (n - suc f * 65536) ∷ [])

-- the TRBs of a transfer: of its bytes alone, or with an empty packet behind them
pub normals_plain : (inward : Bool) (a n : ℕ) → normals_at a (record { length = n; extra = false; inward = inward }) ≡ td_at inward true a (lengths_of false n)
normals_plain inward a n = append-nil (td_at inward true a (lengths_of false n))

pub normals_end : (a : ℕ) (t : Tds) → EndsLast (normals_at a t)
normals_end a t = by_extra t.extra t.inward t.length
  where
    by_extra : (extra inward : Bool) (n : ℕ) → EndsLast (normals_at a (record { length = n; extra = extra; inward = inward }))
    by_extra true inward n = td_goes inward a (lengths_of false n) (normal_at inward false true (a + n) 0) refl
    by_extra false inward n = subst EndsLast (sym (normals_plain inward a n)) (some_pieces n (λ ls. EndsLast (td_at inward true a ls)) (λ l ls. td_ends inward a l ls))

-- as many TRBs of any kind
pub normals_count : (ts : List NormalTrb) → length (normals ts) ≡ length ts
normals_count ts = length-map ts (λ (t : NormalTrb). Normal t)

-- a transfer has a TRB at least
pub some_trbs : (size : ℕ) (request : Request) → 0 < length (trbs_of size request)
some_trbs size request = by_full (full_trbs (length_of request.body)) (is_extra size request request.body)
  where
    by_full : (f : ℕ) (extra : Bool) → 0 < length (replicate f 65536 ++ (length_of request.body - f * 65536) ∷ (if extra then 0 ∷ [] else []))
    by_full zero extra = omega arith
    by_full (suc f) extra = omega arith
