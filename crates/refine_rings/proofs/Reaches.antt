-- What the TRBs from one on say of the transfer: its room, whether an empty packet comes, where its bytes stand.
use Rattle.std.proofs.Common.{◌≡◌, ℕ, zero, suc, ◌+◌, ◌-◌, ◌*◌, ◌%◌, ◌^◌, ◌<◌, ◌≤◌, refl, ap, sym, subst, ◌∙◌, arith, List, [], ◌∷◌, ◌++◌, length, take, drop, Some, None, true, false, Bool, ◌&&◌, ◌||◌, if◌then◌else◌, inl, inr, ◌⊎◌}
use Rattle.std.specs.Prelude.{min, nat_lt, slice_get, replicate}
use Rattle.std.proofs.lemmas.Bool.{cases_lt}
use Rattle.std.proofs.lemmas.Option.{slice_get_within}
use Rattle.usb_model.specs.declared.response.Response.{Response}
use Rattle.usb_model.specs.declared.response.Response.TheVariants as response
use Rattle.usb_trb.specs.declared.kind.Normal.{Normal as NormalTrb}
use Rattle.usb_model.specs.Stands.{full_trbs, lengths_of, total}
use Rattle.usb_model.specs.Packets.{packet_by}
use Rattle.usb_tables.specs.Tds.{Tds, lengths as lengths_by}
use Rattle.usb_tables.specs.Trbs.{buffer_of, normal_at, normals_at, td_at}
use Rattle.usb_tables.proofs.Pieces.{td_at-lengths}
use Rattle.usb_xhc.specs.Ahead.{goes_on, lengths}
use Rattle.refine_rings.proofs.Trbs.{EndsTd, chained_ends, more_behind, normals_plain, same_lengths, some_pieces, td_chained, td_last}

-- a TD has a TRB a piece
pub td_count : (inward ends : Bool) (a : ℕ) (ls : List ℕ) → length (td_at inward ends a ls) ≡ length ls
td_count inward ends a [] = refl
td_count inward ends a (l ∷ []) = refl
td_count inward ends a (l ∷ m ∷ ls) = ap suc (td_count inward ends (a + l) (m ∷ ls))

-- behind the pieces is an empty one
pieces_behind : (ls : List ℕ) (r : ℕ) → ls ++ r ∷ 0 ∷ [] ≡ (ls ++ r ∷ []) ++ 0 ∷ []
pieces_behind [] r = refl
pieces_behind (l ∷ ls) r = ap (λ (xs : List ℕ). l ∷ xs) (pieces_behind ls r)

pub lengths_extra : (n : ℕ) → lengths_of true n ≡ lengths_of false n ++ 0 ∷ []
lengths_extra n = pieces_behind (replicate (full_trbs n) 65536) (n - full_trbs n * 65536)

-- from that one on there are no bytes
none_behind : (ls : List ℕ) (i : ℕ) → length ls ≤ i → total (drop i (ls ++ 0 ∷ [])) ≡ 0
none_behind [] zero le = refl
none_behind [] (suc zero) le = refl
none_behind [] (suc (suc i)) le = refl
none_behind (l ∷ ls) zero le = absurd (omega (arith, le))
none_behind (l ∷ ls) (suc i) le = none_behind ls i (omega (arith, le))

-- where bytes are left, the TRBs say whether an empty packet comes behind them
pub goes_as_extra : (a : ℕ) (t : Tds) (i : ℕ) → 0 < total (drop i (lengths_by t)) → goes_on (drop i (normals_at a t)) ≡ t.extra
goes_as_extra a t i some = by_extra t.extra t.inward t.length some
  where
    by_extra : (extra inward : Bool) (n : ℕ) → 0 < total (drop i (lengths_of extra n)) → goes_on (drop i (normals_at a (record { length = n; extra = extra; inward = inward }))) ≡ extra
    by_extra false inward n some = ap (λ (ts : List NormalTrb). goes_on (drop i ts)) (normals_plain inward a n) ∙ chained_ends (td_at inward true a (lengths_of false n)) i (td_chained inward true a (lengths_of false n))
    by_extra true inward n some = by_place (cases_lt i (length (lengths_of false n)))
      where
        by_place : (i < length (lengths_of false n)) ⊎ (length (lengths_of false n) ≤ i) → goes_on (drop i (td_at inward false a (lengths_of false n) ++ normal_at inward false true (a + n) 0 ∷ [])) ≡ true
        by_place (inl less) =
            more_behind (td_at inward false a (lengths_of false n)) (normal_at inward false true (a + n) 0) i
            (some_pieces n (λ ls. EndsTd (td_at inward false a ls)) (λ l ls. td_last inward false a l ls)) (omega (arith, less, td_count inward false a (lengths_of false n)))
        by_place (inr past) =
            let none : total (drop i (lengths_of true n)) ≡ 0 = ap (λ (ls : List ℕ). total (drop i ls)) (lengths_extra n) ∙ none_behind (lengths_of false n) i past in
            absurd (omega (arith, some, none))

-- whether an empty packet comes is nothing to a packet where no bytes are left
pub same_packet : (size room : ℕ) (e f : Bool) (a : Response) → (0 < room → e ≡ f) → packet_by size room e a ≡ packet_by size room f a
same_packet size room e f (response.Data b) h = refl
same_packet size room e f response.Nak h = refl
same_packet size room e f response.Stall h = refl
same_packet size room e f response.Broken h = refl
same_packet size room e f response.Ack h = by_room room h
  where
    and_none : (b : Bool) → (b && false) ≡ false
    and_none true = refl
    and_none false = refl

    by_room : (r : ℕ) → (0 < r → e ≡ f) → packet_by size r e response.Ack ≡ packet_by size r f response.Ack
    by_room zero g =
        ap (λ (b : Bool). if nat_lt size 0 || b then record { bytes = min size 0; code = None } else record { bytes = min size 0; code = Some 1 }) (and_none e ∙ sym (and_none f))
    by_room (suc r) g = ap (λ (b : Bool). packet_by size (suc r) b response.Ack) (g (omega arith))

-- each TRB's bytes begin where those before end
abbrev pub AddressesFrom : ℕ → List NormalTrb → Type 0
AddressesFrom a [] = Unit {0}
AddressesFrom a (t ∷ ts) = (t.buffer ≡ a) × AddressesFrom (a + t.length) ts

pub buffer_at : (ts : List NormalTrb) (a i : ℕ) (t : NormalTrb) → AddressesFrom a ts → slice_get ts i ≡ Some t → t.buffer ≡ a + total (take i (lengths ts))
buffer_at [] a i t h g = absurd (omega (arith, slice_get_within [] i t g))
buffer_at (u ∷ ts) a zero t h g =
    let same : u ≡ t = cc in
    ap (λ (x : NormalTrb). x.buffer) (sym same) ∙ h.0 ∙ omega arith
buffer_at (u ∷ ts) a (suc i) t h g = buffer_at ts (a + u.length) i t h.1 g ∙ omega arith

td_addresses : (inward ends : Bool) (a : ℕ) (ls : List ℕ) → AddressesFrom a (td_at inward ends a ls)
td_addresses inward ends a [] = tt
td_addresses inward ends a (l ∷ []) = (refl, tt)
td_addresses inward ends a (l ∷ m ∷ ls) = (refl, td_addresses inward ends (a + l) (m ∷ ls))

addresses_behind : (a : ℕ) (ts : List NormalTrb) (z : NormalTrb) → AddressesFrom a ts → z.buffer ≡ a + total (lengths ts) → AddressesFrom a (ts ++ z ∷ [])
addresses_behind a [] z h g = (g ∙ omega arith, tt)
addresses_behind a (t ∷ ts) z h g = (h.0, addresses_behind (a + t.length) ts z h.1 (g ∙ omega arith))

total_whole : (f : ℕ) (ls : List ℕ) → total (replicate f 65536 ++ ls) ≡ f * 65536 + total ls
total_whole zero ls = omega arith
total_whole (suc f) ls = omega (arith, total_whole f ls)

-- the pieces have all bytes
pub total_pieces : (n : ℕ) → total (lengths_of false n) ≡ n
total_pieces n =
    let whole = total_whole (full_trbs n) ((n - full_trbs n * 65536) ∷ []) in
    let below : full_trbs n * 65536 ≤ n = omega arith in
    omega (arith, whole, below)

total_append : (ls : List ℕ) → total (ls ++ 0 ∷ []) ≡ total ls
total_append [] = refl
total_append (l ∷ ls) = ap (λ n. l + n) (total_append ls)

pub total_all : (extra : Bool) (n : ℕ) → total (lengths_of extra n) ≡ n
total_all false n = total_pieces n
total_all true n = ap total (lengths_extra n) ∙ total_append (lengths_of false n) ∙ total_pieces n

pub normals_addresses : (a : ℕ) (t : Tds) → AddressesFrom a (normals_at a t)
normals_addresses a t = by_extra t.extra t.inward t.length
  where
    by_extra : (extra inward : Bool) (n : ℕ) → AddressesFrom a (normals_at a (record { length = n; extra = extra; inward = inward }))
    by_extra false inward n = subst (AddressesFrom a) (sym (normals_plain inward a n)) (td_addresses inward true a (lengths_of false n))
    by_extra true inward n =
        let all : total (lengths (td_at inward false a (lengths_of false n))) ≡ n =
        ap total (same_lengths (td_at inward false a (lengths_of false n)) ∙ td_at-lengths inward false a (lengths_of false n)) ∙ total_pieces n in
        addresses_behind a (td_at inward false a (lengths_of false n)) (normal_at inward false true (a + n) 0) (td_addresses inward false a (lengths_of false n)) (ap (λ m. a + m) (sym all))

-- where a TRB's bytes stand in the transfer's
pub offset_is : (key t : ℕ) → t < 262144 → (buffer_of key + t) % 262144 ≡ t
offset_is key t less = by_key (key % 2 ^ 32)
  where
    by_key : (k : ℕ) → (4294967296 + k * 262144 + t) % 262144 ≡ t
    by_key k = omega (arith, less)
