-- The transfer where the controller stands, as its TRBs say it.
use Rattle.std.proofs.Common.{◌≡◌, ℕ, zero, suc, ◌+◌, ◌-◌, ◌*◌, ◌%◌, ◌^◌, ◌<◌, ◌≤◌, refl, ap, ap₂, sym, subst, ◌∙◌, arith, List, [], ◌∷◌, length, take, drop, Some, false, inl, inr, ◌⊎◌}
use Rattle.std.specs.Prelude.{slice_get}
use Rattle.std.proofs.lemmas.Bool.{cases_lt}
use Rattle.std.proofs.lemmas.List.{drop-map, length-drop}
use Rattle.usb_model.specs.declared.response.Response.{Response}
use Rattle.usb_model.specs.Requests.{length_of}
use Rattle.usb_trb.specs.declared.kind.Normal.{Normal as NormalTrb}
use Rattle.usb_model.specs.Stands.{length_at, lengths_of, stand, total}
use Rattle.usb_model.specs.Kept.{KeptEndpoint, KeptTransfer, is_extra}
use Rattle.usb_model.specs.Events.{find_at}
use Rattle.usb_model.specs.Packets.{packet_by, room_at, sent_before, walk}
use Rattle.usb_tables.specs.Tds.{tds_of}
use Rattle.usb_tables.specs.Trbs.{buffer_of, normals_of}
use Rattle.usb_tables.proofs.Pieces.{normals_at_lengths}
use Rattle.usb_xhc.specs.Ahead.{goes_on, lengths, room}
use Rattle.usb_xhc.specs.Context.{Context, stand_by, trbs}
use Rattle.usb_xhc.specs.Transaction.{offset_by, packet_in, packet_room}
use Rattle.refine_rings.specs.Line.{IsSent}
use Rattle.refine_rings.specs.Endpoint.{IsContext}
use Rattle.refine_rings.proofs.Contents.{trbs_at}
use Rattle.refine_rings.proofs.Lines.{Found, finds}
use Rattle.refine_rings.proofs.Reaches.{buffer_at, goes_as_extra, normals_addresses, offset_is, same_packet, total_all}
use Rattle.refine_rings.proofs.Trbs.{same_lengths}

-- a transfer in progress there: its item, and its TRBs from the dequeue place on
pub record IsFront (c : Context) (b : KeptEndpoint) (y : KeptTransfer) : Type 0 where
  pub found : Found c.size b.line c.ring.line.items b.end b.dequeue y
  pub sent : IsSent c.size y found.ks
  pub ahead : trbs c ≡ drop (b.dequeue - y.place) (normals_of sent.key (tds_of c.size y.request))

pub at_front : (c : Context) (b : KeptEndpoint) (y : KeptTransfer) → IsContext c b → find_at b.dequeue b.line ≡ Some y → y.blank ≡ false → IsFront c b y
at_front c b y is h live =
    let f : Found c.size b.line c.ring.line.items b.end b.dequeue y = finds c.size b.line c.ring.line.items b.end b.dequeue y is.ring.items is.ring.row h in
    let s : IsSent c.size y f.ks = f.is_item.sent live in
    record { found = f; sent = s; ahead = trbs_at c.size c.ring.line b.line b.end b.dequeue y is.ring f s }

-- all its lengths
pub all_lengths : (size key : ℕ) (y : KeptTransfer) (s : (y.lengths ≡ lengths_of (is_extra size y.request y.request.body) (length_of y.request.body))) → lengths (normals_of key (tds_of size y.request)) ≡ y.lengths
all_lengths size key y s = same_lengths (normals_of key (tds_of size y.request)) ∙ normals_at_lengths (buffer_of key) (tds_of size y.request) ∙ sym s

-- those from there on
pub lengths_ahead : (c : Context) (b : KeptEndpoint) (y : KeptTransfer) → IsFront c b y → lengths (trbs c) ≡ drop (b.dequeue - y.place) y.lengths
lengths_ahead c b y f =
    let i : ℕ = b.dequeue - y.place in
    let ts : List NormalTrb = normals_of f.sent.key (tds_of c.size y.request) in
    ap lengths f.ahead ∙ (sym (drop-map (λ (t : NormalTrb). t.length) i ts) ∙ ap (drop i) (all_lengths c.size f.sent.key y f.sent.lengths))

-- where it stands some bytes on
pub same_walk : (c : Context) (b : KeptEndpoint) (y : KeptTransfer) (k : ℕ) → IsContext c b → IsFront c b y → stand_by c k ≡ walk b y k
same_walk c b y k is f = ap₂ (λ (ls : List ℕ) (n : ℕ). stand ls (n + k)) (lengths_ahead c b y f) is.partly

-- the bytes before and behind a TRB
pub total_split : (ls : List ℕ) (i : ℕ) → total (take i ls) + total (drop i ls) ≡ total ls
total_split ls zero = omega arith
total_split [] (suc i) = refl
total_split (l ∷ ls) (suc i) = omega (arith, total_split ls i)

pub length_drop_at : (ls : List ℕ) (i j : ℕ) → length_at (drop i ls) j ≡ length_at ls (i + j)
length_drop_at ls zero j = ap (length_at ls) (omega arith)
length_drop_at [] (suc i) j = none j
  where
    none : (j : ℕ) → length_at [] j ≡ length_at [] (suc i + j)
    none zero = omega arith
    none (suc j) = omega arith
length_drop_at (l ∷ ls) (suc i) j = length_drop_at ls i j ∙ ap (length_at (l ∷ ls)) (let more : suc (i + j) ≡ suc i + j = omega arith in more)

at_most_total : (ls : List ℕ) → length_at ls 0 ≤ total ls
at_most_total [] = omega arith
at_most_total (l ∷ ls) = omega arith

-- what of its TRB moved is no more than what is there
pub within_total : (c : Context) (b : KeptEndpoint) (y : KeptTransfer) → IsContext c b → find_at b.dequeue b.line ≡ Some y → b.within ≤ total (drop (b.dequeue - y.place) y.lengths)
within_total c b y is h =
    let ls : List ℕ = drop (b.dequeue - y.place) y.lengths in
    let here : length_at ls 0 ≡ length_at y.lengths (b.dequeue - y.place) = length_drop_at y.lengths (b.dequeue - y.place) 0 ∙ ap (length_at y.lengths) (omega arith) in
    omega (arith, (is.front y h).fits, here, at_most_total ls)

-- its bytes in all
pub total_is : (c : Context) (b : KeptEndpoint) (y : KeptTransfer) → IsFront c b y → total y.lengths ≡ length_of y.request.body
total_is c b y f = ap total f.sent.lengths ∙ total_all (is_extra c.size y.request y.request.body) (length_of y.request.body)

-- what is left of it
pub same_room : (c : Context) (b : KeptEndpoint) (y : KeptTransfer) → IsContext c b → IsFront c b y → room (trbs c) c.within ≡ room_at b y
same_room c b y is f = ap₂ (λ (ls : List ℕ) (n : ℕ). total ls - n) (lengths_ahead c b y f) is.partly

-- an answer does the same
pub same_answer : (c : Context) (b : KeptEndpoint) (y : KeptTransfer) (a : Response) → IsContext c b → IsFront c b y → packet_in c a ≡ packet_by c.size (room_at b y) (is_extra c.size y.request y.request.body) a
same_answer c b y a is f =
    ap (λ (r : ℕ). packet_by c.size r (goes_on (trbs c)) a) (same_room c b y is f)
    ∙ same_packet c.size (room_at b y) (goes_on (trbs c)) (is_extra c.size y.request y.request.body) a some
  where
    some : 0 < room_at b y → goes_on (trbs c) ≡ is_extra c.size y.request y.request.body
    some left =
        let bytes : 0 < total (drop (b.dequeue - y.place) (lengths_of (is_extra c.size y.request y.request.body) (length_of y.request.body))) =
        subst (λ (ls : List ℕ). 0 < total (drop (b.dequeue - y.place) ls)) f.sent.lengths (omega (arith, left)) in
        ap goes_on f.ahead ∙ goes_as_extra (buffer_of f.sent.key) (tds_of c.size y.request) (b.dequeue - y.place) bytes

-- its first TRB there
pub first_is : (c : Context) (b : KeptEndpoint) (y : KeptTransfer) → IsFront c b y → (t : NormalTrb) × (slice_get (trbs c) 0 ≡ Some t)
first_is c b y f = by_trbs (trbs c) (ap length (lengths_ahead c b y f))
  where
    by_trbs : (ts : List NormalTrb) → length (lengths ts) ≡ length (drop (b.dequeue - y.place) y.lengths) → (t : NormalTrb) × (slice_get ts 0 ≡ Some t)
    by_trbs [] e = absurd (omega (arith, e, length-drop (b.dequeue - y.place) y.lengths, f.found.low, f.found.high))
    by_trbs (t ∷ ts) e = (t, refl)

get_drop : {A : Type 0} (xs : List A) (i : ℕ) → slice_get (drop i xs) 0 ≡ slice_get xs i
get_drop xs zero = refl
get_drop [] (suc i) = refl
get_drop (x ∷ xs) (suc i) = get_drop xs i

-- where this TRB's bytes stand in the transfer's
pub buffer_is : (c : Context) (b : KeptEndpoint) (y : KeptTransfer) (t : NormalTrb) (f : IsFront c b y) → slice_get (trbs c) 0 ≡ Some t → t.buffer ≡ buffer_of f.sent.key + total (take (b.dequeue - y.place) y.lengths)
buffer_is c b y t f h =
    let i : ℕ = b.dequeue - y.place in
    let ts : List NormalTrb = normals_of f.sent.key (tds_of c.size y.request) in
    let there : slice_get ts i ≡ Some t = sym (get_drop ts i) ∙ ap (λ (us : List NormalTrb). slice_get us 0) (sym f.ahead) ∙ h in
    buffer_at ts (buffer_of f.sent.key) i t (normals_addresses (buffer_of f.sent.key) (tds_of c.size y.request)) there
    ∙ ap (λ (ls : List ℕ). buffer_of f.sent.key + total (take i ls)) (all_lengths c.size f.sent.key y f.sent.lengths)

-- there are the bytes for a packet from there on: in the transfer, and in its buffer
pub record HasBytes (c : Context) (b : KeptEndpoint) (y : KeptTransfer) (t : NormalTrb) : Type 0 where
  pub room : sent_before b y + packet_room c ≤ length_of y.request.body
  pub reaches : offset_by t c.within + packet_room c ≤ length_of y.request.body
  pub offset : 0 < packet_room c → offset_by t c.within ≡ sent_before b y

pub has_bytes : (c : Context) (b : KeptEndpoint) (y : KeptTransfer) (t : NormalTrb) → IsContext c b → IsFront c b y → find_at b.dequeue b.line ≡ Some y → slice_get (trbs c) 0 ≡ Some t → HasBytes c b y t
has_bytes c b y t is f h first =
    let i : ℕ = b.dequeue - y.place in
    let split = total_split y.lengths i in
    let all = total_is c b y f in
    let inner = within_total c b y is h in
    let rest = same_room c b y is f in
    let at = buffer_is c b y t f first in
    let small : total (take i y.lengths) ≤ 262144 = omega (arith, split, all, f.sent.few) in
    by_size (cases_lt (total (take i y.lengths)) 262144) i refl split all inner rest at small
  where
    by_size : (total (take (b.dequeue - y.place) y.lengths) < 262144) ⊎ (262144 ≤ total (take (b.dequeue - y.place) y.lengths)) → (i : ℕ) → i ≡ b.dequeue - y.place
        → total (take (b.dequeue - y.place) y.lengths) + total (drop (b.dequeue - y.place) y.lengths) ≡ total y.lengths → total y.lengths ≡ length_of y.request.body
        → b.within ≤ total (drop (b.dequeue - y.place) y.lengths) → room (trbs c) c.within ≡ room_at b y
        → t.buffer ≡ buffer_of f.sent.key + total (take (b.dequeue - y.place) y.lengths) → total (take (b.dequeue - y.place) y.lengths) ≤ 262144 → HasBytes c b y t
    by_size (inl less) i same split all inner rest at small =
        let there : t.buffer % 262144 ≡ total (take (b.dequeue - y.place) y.lengths) = ap (λ n. n % 262144) at ∙ offset_is f.sent.key (total (take (b.dequeue - y.place) y.lengths)) less in
        record {
          room = omega (arith, split, all, inner, rest);
          reaches = omega (arith, split, all, inner, rest, there, is.partly);
          offset = λ some. omega (arith, there, is.partly);
        }
    by_size (inr full) i same split all inner rest at small =
        let none : total (drop (b.dequeue - y.place) y.lengths) ≡ 0 = omega (arith, full, split, all, f.sent.few) in
        let there : t.buffer % 262144 ≡ 0 = ap (λ n. n % 262144) at ∙ at_end f.sent.key (total (take (b.dequeue - y.place) y.lengths)) (omega (arith, full, small)) in
        record {
          room = omega (arith, split, all, inner, rest, none);
          reaches = omega (arith, split, all, inner, rest, there, is.partly, none);
          offset = λ some. absurd (omega (arith, some, rest, none));
        }
      where
        at_end : (key n : ℕ) → n ≡ 262144 → (buffer_of key + n) % 262144 ≡ 0
        at_end key n e = by_key (key % 2 ^ 32)
          where
            by_key : (k : ℕ) → (4294967296 + k * 262144 + n) % 262144 ≡ 0
            by_key k = omega (arith, e)
