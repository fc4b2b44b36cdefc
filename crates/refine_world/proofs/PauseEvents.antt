-- What a packet tells of the first waiting transfer, and when its pause is told, in any endpoint whose waiting transfers are open.
use Rattle.std.proofs.Common.{Bool, List, None, Some, [], ap, append-nil, ap₂, arith, drop, false, length, refl, replicate, subst, suc, sym, take, true, zero, ℕ, ◌*◌, ◌+◌, ◌++◌, ◌-◌, ◌<◌, ◌≤◌, ◌==◌, ◌∙◌, ◌∷◌, ◌≡◌}
use Rattle.std.specs.Prelude.{if◌then◌else◌, unwrap_or}
use Rattle.std.specs.List.{list_all}
use Rattle.std.proofs.lemmas.Bool.{and_parts, ne_eqb}
use Rattle.std.proofs.Math.Nat.{div-mul-le_self, suc-mul}
use Rattle.usb_model.specs.declared.response.Response.{Response}
use Rattle.usb_model.specs.declared.request.Body.{Body}
use Rattle.usb_model.specs.declared.request.Body.TheVariants.{In, Out}
use Rattle.usb_model.specs.declared.request.Request.{Request}
use Rattle.usb_model.specs.declared.endpoint.Endpoint.{Endpoint}
use Rattle.usb_model.specs.declared.item.Item.{Item}
use Rattle.usb_model.specs.declared.item.ItemState.TheVariants.{Blank, Served, Waiting}
use Rattle.usb_model.specs.declared.item.ItemState.{ItemState}
use Rattle.usb_model.specs.declared.outcome.Outcome.{Outcome}
use Rattle.usb_model.specs.Direction.{is_of_direction, IsBody}
use Rattle.usb_model.specs.Endpoint.{bytes_read, first_waiting, is_waiting_state, outcome_of}
use Rattle.usb_model.specs.Endpoint.Packets.{IsOpenAt, count_of, ended_with, open_with, outcome, without_naks}
use Rattle.usb_model.specs.Requests.{length_of}
use Rattle.usb_model.specs.Endpoint.Serve.{acknowledged, next_answer}
use Rattle.proof_model.proofs.Shares.More.{one_more}
use Rattle.proof_model.proofs.Shares.Next.{next_there}
use Rattle.proof_model.proofs.Shares.OpenShares.{IsWhole, open_at, open_whole, halted_outcome}
use Rattle.usb_model.specs.Stands.{full_trbs, lengths_of, total}
use Rattle.refine_world.specs.ShownEndpoint.{AllNew, AllOpen, IsLive, count, known_by, new_by}
use Rattle.usb_model.specs.Kept.{KeptEndpoint, KeptTransfer, is_extra, trbs_of}
use Rattle.usb_model.specs.Packets.{Packet, answer_now, gave, got, packet_by, packet_now, packet_of, room_at}
use Rattle.refine_world.specs.Kept.{PacketIs, grown, outcome_now, PauseTold}
use Rattle.refine_world.proofs.Packets.{IsCounted, counted, next_is}
use Rattle.refine_world.proofs.Fronts.{none_moved}
use Rattle.refine_world.proofs.Serves.{At, PacketTold}
use Rattle.std.proofs.Math.Seq.{drop-nil}

-- a transfer's TRBs hold its bytes
total-append : (ls ms : List ℕ) → total (ls ++ ms) ≡ total ls + total ms
total-append [] ms = omega arith
total-append (l ∷ ls) ms = omega (arith, total-append ls ms)

total-replicate : (k n : ℕ) → total (replicate k n) ≡ k * n
total-replicate zero n = omega arith
total-replicate (suc k) n = omega (arith, total-replicate k n, suc-mul k n)

total_of : (extra : Bool) (n : ℕ) → total (lengths_of extra n) ≡ n
total_of extra n =
    omega (arith, total-append (replicate (full_trbs n) 65536) ((n - full_trbs n * 65536) ∷ (if extra then 0 ∷ [] else [])), total-replicate (full_trbs n) 65536, div-mul-le_self (n - 1) 65536, behind extra)
  where
    behind : (b : Bool) → total (if b then 0 ∷ [] else []) ≡ 0
    behind true = refl
    behind false = refl

total-split : (i : ℕ) (ls : List ℕ) → total (take i ls) + total (drop i ls) ≡ total ls
total-split zero ls = omega arith
total-split (suc i) [] = omega arith
total-split (suc i) (l ∷ ls) = omega (arith, total-split i ls)

-- the room that the controller sees is what is left of the request
pub room_is : (size : ℕ) (b : KeptEndpoint) (x : Item) (y : KeptTransfer) → IsLive size x y → At size b x y → room_at b y ≡ length_of x.request.body - count size x
room_is size b x y live a =
    let whole : total y.lengths ≡ length_of x.request.body = ap total live.lengths ∙ total_of (is_extra size x.request x.request.body) (length_of x.request.body) in
    omega (arith, whole, a.before, total-split (b.dequeue - y.place) y.lengths)

-- the first waiting transfer is open, and new at a halted device
pub first_open : (size : ℕ) (xs : List Item) (x : Item) → first_waiting xs ≡ Some x → AllOpen size xs → IsOpenAt (outcome x.request size x.share false)
unfolding first_waiting
first_open size [] x f o = absurd cc
first_open size (z ∷ xs) x f o = by_state z.state f o.0 (λ g. first_open size xs x g o.1)
  where
    by_state : (s : ItemState) → (if is_waiting_state s then Some z else first_waiting xs) ≡ Some x → known_by s (IsOpenAt (outcome z.request size z.share false)) (Unit {0}) → (first_waiting xs ≡ Some x → IsOpenAt (outcome x.request size x.share false)) → IsOpenAt (outcome x.request size x.share false)
    by_state Waiting f o rest = let same : z ≡ x = cc in subst (λ (i : Item). IsOpenAt (outcome i.request size i.share false)) same o
    by_state (Served c) f o rest = rest f
    by_state Blank f o rest = rest f

pub first_new : (xs : List Item) (x : Item) → first_waiting xs ≡ Some x → AllNew xs → x.share ≡ []
unfolding first_waiting
first_new [] x f n = absurd cc
first_new (z ∷ xs) x f n = by_state z.state f n (first_new xs x)
  where
    by_state : (s : ItemState) → (if is_waiting_state s then Some z else first_waiting xs) ≡ Some x → new_by s z (AllNew xs) → (first_waiting xs ≡ Some x → AllNew xs → x.share ≡ []) → x.share ≡ []
    by_state Waiting f n rest = let same : z ≡ x = cc in subst (λ (i : Item). i.share ≡ []) same n.0
    by_state (Served c) f n rest = rest f n
    by_state Blank f n rest = rest f n

-- a pause is told just where bytes moved
pub pause_told_if_open : (size : ℕ) (e : Endpoint) → 0 < size → AllOpen size e.line → PauseTold size e
pause_told_if_open size e some opens x first =
    let o = open_at (outcome x.request size x.share false) (first_open size e.line x first opens) in
    let c = counted x.request size x.request.body (without_naks x.share) o.0 (open_whole x.request size x.share o.0 o.1 o.2) in
    let same : outcome_of size x ≡ o.0 = ap (λ r. unwrap_or r (open_with [])) o.1 in
    rw same (by_length (length o.0.packets) refl (count_of o.0) c.whole)
  where
    by_length : (n : ℕ) → n ≡ n → (m : ℕ) → m ≡ n * size → (n == 0) ≡ (m == 0)
    by_length zero e m is = let none : m ≡ 0 = omega (arith, is) in rw none refl
    by_length (suc n) e m is = ne_eqb (suc n) 0 (λ z. omega (arith, z)) ∙ sym (ne_eqb m 0 (λ z. omega (arith, z, is, suc-mul n size, some)))

-- nothing of a list behind all of it
drop_whole : (l : List (List ℕ)) → drop (length l) l ≡ []
drop_whole [] = refl
drop_whole (x ∷ xs) = drop_whole xs

pub packet_told : (size : ℕ) (inward : Bool) (e : Endpoint) (b : KeptEndpoint) → 0 < size → AllOpen size e.line → (e.device_halted ≡ true → AllNew e.line) → b.device_halted ≡ e.device_halted → ((x : Item) → first_waiting e.line ≡ Some x → IsBody inward x.request.body)
    → list_all (is_of_direction inward) e.script_left ≡ true → PacketTold size e b
packet_told size inward e b some opens stalls halted bodies kinds x y first live a same = by_halted e.device_halted refl e.script_left refl
  where
    o : (p : Outcome) × (outcome x.request size x.share false ≡ Some p) × (p.code ≡ None)
    o = open_at (outcome x.request size x.share false) (first_open size e.line x first opens)

    before : outcome_of size x ≡ o.0
    before = ap (λ r. unwrap_or r (open_with [])) o.1

    whole : IsWhole x.request size x.request.body (without_naks x.share) o.0.packets
    whole = open_whole x.request size x.share o.0 o.1 o.2

    c : IsCounted size x.request.body o.0
    c = counted x.request size x.request.body (without_naks x.share) o.0 whole

    counts : count size x ≡ count_of o.0
    counts = ap count_of before

    room : ℕ
    room = length_of x.request.body - count_of o.0

    extra : Bool
    extra = is_extra size x.request x.request.body

    holds : total (trbs_of size x.request) ≡ length_of x.request.body
    holds = total_of extra (length_of x.request.body)

    -- the packet, from what the controller sees
    packet_is : (next : List Response) → b.device_halted ≡ false → answer_now b ≡ next → packet_now size b y ≡ packet_of size room extra next
    packet_is next up is =
        subst (λ t. (if t then record { bytes = 0; code = Some 6 } else packet_of size (room_at b y) (is_extra size y.request y.request.body) (answer_now b)) ≡ packet_of size room extra next) (sym up)
        (ap (λ m. packet_of size m (is_extra size y.request y.request.body) (answer_now b)) (room_is size b x y live a ∙ ap (λ m. length_of x.request.body - m) counts)
        ∙ (ap (λ (r : Request). packet_of size room (is_extra size r r.body) (answer_now b)) live.request ∙ ap (packet_of size room extra) is))

    -- what a packet tells, from the outcomes before and after it
    tells : (next : List Response) (k : Packet) (p q : Outcome) → next_answer e ≡ next → outcome_now size e x ≡ p → outcome_of size (grown e x) ≡ q → p.code ≡ k.code → count_of p ≡ count_of o.0 + k.bytes → count_of q ≡ count_of o.0 + k.bytes
        → count_of o.0 + k.bytes ≤ length_of x.request.body → bytes_read x.request.body q ≡ bytes_read x.request.body o.0 ++ got x.request.body next k.bytes → acknowledged x.request.body o.0 p ≡ gave x.request.body next (count_of o.0) k.bytes → PacketIs size e x k
    tells next k p q is now later code count_now count_later fits bytes taken = record {
      code = ap (λ r. r.code) now ∙ code;
      now = ap count_of now ∙ (count_now ∙ ap (λ m. m + k.bytes) (sym counts));
      later = ap count_of later ∙ (count_later ∙ ap (λ m. m + k.bytes) (sym counts));
      fits = omega (arith, holds, fits, counts);
      bytes = ap (bytes_read x.request.body) later ∙ (bytes ∙ ap₂ (λ r l. bytes_read x.request.body r ++ got x.request.body l k.bytes) (sym before) (sym is));
      packets_received = ap₂ (acknowledged x.request.body) before now ∙ (taken ∙ ap₂ (λ l m. gave x.request.body l m k.bytes) (sym is) (sym counts));
    }

    -- the outcome with the next answer, halted or not
    now_is : (next : List Response) (h : Bool) (p : Outcome) → next_answer e ≡ next → e.device_halted ≡ h → outcome x.request size (x.share ++ next) h ≡ Some p → outcome_now size e x ≡ p
    now_is next h p is hs r = ap (λ l. unwrap_or (outcome x.request size (x.share ++ l) e.device_halted) (open_with [])) is ∙ (ap (λ t. unwrap_or (outcome x.request size (x.share ++ next) t) (open_with [])) hs ∙ ap (λ z. unwrap_or z (open_with [])) r)

    later_is : (next : List Response) (p : Outcome) → next_answer e ≡ next → outcome x.request size (x.share ++ next) false ≡ Some p → outcome_of size (grown e x) ≡ p
    later_is next p is r = ap (λ l. unwrap_or (outcome x.request size (x.share ++ l) false) (open_with [])) is ∙ ap (λ z. unwrap_or z (open_with [])) r

    none_got : (body : Body) (k : ℕ) → got body [] k ≡ []
    none_got (In n) k = refl
    none_got (Out bytes) k = refl

    none_gave : (body : Body) (m k : ℕ) → gave body [] m k ≡ []
    none_gave (In n) m k = refl
    none_gave (Out bytes) m k = refl

    read_on : (r : Outcome) (k : ℕ) → bytes_read x.request.body r ≡ bytes_read x.request.body r ++ got x.request.body [] k
    read_on r k = sym (append-nil (bytes_read x.request.body r)) ∙ ap (λ l. bytes_read x.request.body r ++ l) (sym (none_got x.request.body k))

    none_taken : (body : Body) (r : Outcome) → acknowledged body r r ≡ []
    none_taken (In n) r = refl
    none_taken (Out bytes) r = drop_whole r.packets

    none_stalled : (body : Body) (r : Outcome) → acknowledged body r (ended_with [] 6) ≡ []
    none_stalled (In n) r = refl
    none_stalled (Out bytes) r = drop-nil (length r.packets)

    plus_none : (n : ℕ) → n ≡ n + 0
    plus_none n = omega arith

    answers : (h : Bool) (l : List Response) → e.device_halted ≡ h → e.script_left ≡ l → next_answer e ≡ (if h then [] else take 1 l)
    answers h l is left = ap₂ (λ t m. if t then [] else take 1 m) is left

    by_halted : (h : Bool) → e.device_halted ≡ h → (l : List Response) → e.script_left ≡ l → PacketIs size e x (packet_now size b y)
    by_halted true is l left =
        let none : x.share ≡ [] = first_new e.line x first (stalls is) in
        let empty : x.share ++ [] ≡ [] = append-nil x.share ∙ none in
        let nothing : count_of o.0 ≡ 0 = sym counts ∙ none_moved size x none in
        let k : packet_now size b y ≡ record { bytes = 0; code = Some 6 } = ap (λ t. if t then record { bytes = 0; code = Some 6 } else packet_of size (room_at b y) (is_extra size y.request y.request.body) (answer_now b)) (halted ∙ is) in
        subst (PacketIs size e x) (sym k)
        (tells [] (record { bytes = 0; code = Some 6 }) (ended_with [] 6) o.0 (answers true l is left) (now_is [] true (ended_with [] 6) (answers true l is left) is (ap (λ m. outcome x.request size m true) empty ∙ halted_outcome x.request size))
        (later_is [] o.0 (answers true l is left) (ap (λ m. outcome x.request size m false) (append-nil x.share) ∙ o.1)) refl (omega (arith, nothing)) (plus_none (count_of o.0)) (omega (arith, c.inside)) (read_on o.0 0)
        (none_stalled x.request.body o.0 ∙ sym (none_gave x.request.body (count_of o.0) 0)))
    by_halted false is [] left =
        subst (PacketIs size e x) (sym (packet_is [] (halted ∙ is) (same ∙ answers false [] is left)))
        (tells [] (record { bytes = 0; code = None }) o.0 o.0 (answers false [] is left) (now_is [] false o.0 (answers false [] is left) is (ap (λ m. outcome x.request size m false) (append-nil x.share) ∙ o.1))
        (later_is [] o.0 (answers false [] is left) (ap (λ m. outcome x.request size m false) (append-nil x.share) ∙ o.1)) o.2 (plus_none (count_of o.0)) (plus_none (count_of o.0)) (omega (arith, c.inside)) (read_on o.0 0)
        (none_taken x.request.body o.0 ∙ sym (none_gave x.request.body (count_of o.0) 0)))
    by_halted false is (z ∷ zs) left =
        let fits : is_of_direction inward z ≡ true = (and_parts (is_of_direction inward z) (list_all (is_of_direction inward) zs) (ap (list_all (is_of_direction inward)) (sym left) ∙ kinds)).0 in
        let r = next_there inward x.request size x.share z o.0 some (bodies x first) fits o.1 o.2 in
        let n = next_is x.request size x.request.body (without_naks x.share) o.0 z r.0 some o.2 whole (sym (one_more x.request size x.share z o.0 some o.1 o.2) ∙ r.1) in
        subst (PacketIs size e x) (sym (packet_is (z ∷ []) (halted ∙ is) (same ∙ answers false (z ∷ zs) is left)))
        (tells (z ∷ []) (packet_by size room extra z) r.0 r.0 (answers false (z ∷ zs) is left) (now_is (z ∷ []) false r.0 (answers false (z ∷ zs) is left) is r.1) (later_is (z ∷ []) r.0 (answers false (z ∷ zs) is left) r.1) n.code n.count n.count n.fits n.bytes n.packets_received)
