-- What one answer does to an open transfer, by the room that its TRBs have left: the bytes, the code and the packet are those that the definitions read off the whole share.
use Rattle.std.proofs.Common.{Bool, List, None, Option, Some, [], ap, append-nil, ap₂, arith, drop, false, length, length-append, length-drop, min, refl, subst, suc, sym, take, true, ℕ, ◌*◌, ◌+◌, ◌++◌, ◌-◌, ◌/◌, ◌<◌, ◌≤◌, ◌==◌, ◌∙◌, ◌∷◌, ◌≡◌}
use Rattle.std.specs.Prelude.{if◌then◌else◌, nat_lt, not, ◌&&◌, ◌||◌}
use Rattle.std.specs.List.{concat}
use Rattle.std.proofs.lemmas.Bool.{eq-eqb, eqb-false, eqb-true, ltb-false, ltb-true, ne_eqb}
use Rattle.std.proofs.lemmas.List.{take_all}
use Rattle.std.proofs.lemmas.List.Folds.{concat-append}
use Rattle.std.proofs.Math.Nat.{div-mul-le_self, mul-le-mul_right, suc-mul}
use Rattle.usb_model.specs.declared.response.Response.{Response}
use Rattle.usb_model.specs.declared.response.Response.TheVariants.{Ack, Broken, Data, Nak, Stall}
use Rattle.usb_model.specs.declared.request.Body.{Body}
use Rattle.usb_model.specs.declared.request.Body.TheVariants.{In, Out}
use Rattle.usb_model.specs.declared.request.Request.{Request}
use Rattle.usb_model.specs.declared.outcome.Outcome.{Outcome}
use Rattle.usb_model.specs.Endpoint.{bytes_read}
use Rattle.usb_model.specs.Endpoint.Packets.{count_of, cut, ended_with, full_packets, open_with, packets_by, pieces}
use Rattle.usb_model.specs.Requests.{adds_zero_packet, length_of}
use Rattle.usb_model.specs.Endpoint.Serve.{acknowledged}
use Rattle.usb_model.proofs.CutPackets.{length_cut, no_more_packets}
use Rattle.proof_model.proofs.Shares.More.{next_of, read_next, sent_next}
use Rattle.proof_model.proofs.Shares.OpenShares.{IsRead, IsSent, IsWhole, full_count}
use Rattle.std.proofs.lemmas.Option.{same_Some}
use Rattle.usb_model.specs.Kept.{is_extra}
use Rattle.usb_model.specs.Packets.{Packet, gave, got, packet_by}
use Rattle.refine_world.proofs.Pieces.{first_pieces, more_comes, next_piece}

-- what an answer tells of a transfer
pub record NextIs (request : Request) (size : ℕ) (body : Body) (o : Outcome) (a : Response) (p : Outcome) : Type 0 where
  pub code : p.code ≡ (packet_by size (length_of body - count_of o) (is_extra size request body) a).code
  pub count : count_of p ≡ count_of o + (packet_by size (length_of body - count_of o) (is_extra size request body) a).bytes
  pub fits : count_of o + (packet_by size (length_of body - count_of o) (is_extra size request body) a).bytes ≤ length_of body
  pub bytes : bytes_read body p ≡ bytes_read body o ++ got body (a ∷ []) (packet_by size (length_of body - count_of o) (is_extra size request body) a).bytes
  pub packets_received : acknowledged body o p ≡ gave body (a ∷ []) (count_of o) (packet_by size (length_of body - count_of o) (is_extra size request body) a).bytes

-- the bytes that an open transfer moved are those of whole packets, and fit
pub record IsCounted (size : ℕ) (body : Body) (o : Outcome) : Type 0 where
  pub whole : count_of o ≡ length o.packets * size
  pub inside : count_of o ≤ length_of body

counted_in : (size n : ℕ) (xs : List Response) (o : Outcome) → IsRead n size xs o.packets → IsCounted size (In n) o
counted_in size n xs o w =
    let whole = full_count size o.packets w.full in
    let up : length o.packets * size ≤ (n - 1) / size * size = mul-le-mul_right size w.room in
    record { whole = whole; inside = omega (arith, whole, up, div-mul-le_self (n - 1) size) }

-- the packets of an open OUT transfer
few : (request : Request) (size : ℕ) (bytes : List ℕ) (xs : List Response) (o : Outcome) → IsSent (packets_by request size (Out bytes)) xs o.packets → length o.packets ≤ full_packets (adds_zero_packet request) (length bytes) size
unfolding pieces
few request size bytes xs o w = omega (arith, w.room, length_cut size (full_packets (adds_zero_packet request) (length bytes) size) bytes)

counted_out : (request : Request) (size : ℕ) (bytes : List ℕ) (xs : List Response) (o : Outcome) → IsSent (packets_by request size (Out bytes)) xs o.packets → IsCounted size (Out bytes) o
unfolding pieces
counted_out request size bytes xs o w =
    let k : ℕ = full_packets (adds_zero_packet request) (length bytes) size in
    let j : ℕ = length o.packets in
    let le : j ≤ k = few request size bytes xs o w in
    let fit : k * size ≤ length bytes = no_more_packets (adds_zero_packet request) (length bytes) size in
    let up : j * size ≤ k * size = mul-le-mul_right size le in
    let count : count_of o ≡ min (j * size) (length bytes) = ap (λ l. length (concat l)) w.packets ∙ first_pieces size k j bytes (omega (arith, le)) fit in
    record { whole = omega (arith, count, up, fit); inside = omega (arith, count) }

pub counted : (request : Request) (size : ℕ) (body : Body) (xs : List Response) (o : Outcome) → IsWhole request size body xs o.packets → IsCounted size body o
counted request size (In n) xs o w = counted_in size n xs o w
counted request size (Out bytes) xs o w = counted_out request size bytes xs o w

-- a test that the bytes fill the room
fills : (c l n : ℕ) → c ≤ n → (c + l == n) ≡ (l == n - c)
fills c l n le = by_test (l == n - c) refl
  where
    by_test : (t : Bool) → (l == n - c) ≡ t → (c + l == n) ≡ t
    by_test true e = eq-eqb (c + l) n (omega (arith, eqb-true l (n - c) e, le))
    by_test false e = ne_eqb (c + l) n (λ z. eqb-false l (n - c) e (omega (arith, z)))

-- one more piece at the end
concat_one : (ps : List (List ℕ)) (b : List ℕ) → concat (ps ++ b ∷ []) ≡ concat ps ++ b
concat_one ps b = concat-append ps (b ∷ []) ∙ ap (λ l. concat ps ++ l) (append-nil b)

-- data of an IN transfer
next_data : (request : Request) (size n : ℕ) (o : Outcome) (b : List ℕ) → IsCounted size (In n) o → NextIs request size (In n) o (Data b) (read_next n size o.packets b)
next_data request size n o b w =
    subst (λ c. NextIs request size (In n) o (Data b) (if nat_lt (min size (n - c)) (length b) then ended_with o.packets 3 else if c + length b == n then ended_with (o.packets ++ b ∷ []) 1 else if nat_lt (length b) size then ended_with (o.packets ++ b ∷ []) 13 else open_with (o.packets ++ b ∷ []))) w.whole
    (rw (fills (count_of o) (length b) n w.inside) (by_tests (nat_lt (min size (n - count_of o)) (length b)) refl (length b == n - count_of o) (nat_lt (length b) size)))
  where
    Is : Packet → Outcome → Type 0
    Is k p = (p.code ≡ k.code) × (count_of p ≡ count_of o + k.bytes) × (count_of o + k.bytes ≤ n) × (concat p.packets ≡ concat o.packets ++ take k.bytes b)

    longer : (code : Option ℕ) → nat_lt (min size (n - count_of o)) (length b) ≡ false → Is (record { bytes = length b; code = code }) (record { packets = o.packets ++ b ∷ []; code = code })
    longer code few =
        let small : length b ≤ min size (n - count_of o) = ltb-false (min size (n - count_of o)) (length b) few in
        (refl, ap length (concat_one o.packets b) ∙ length-append (concat o.packets) b, omega (arith, small, w.inside), concat_one o.packets b ∙ ap (λ l. concat o.packets ++ l) (sym (take_all (length b) b (omega arith))))

    packet : Bool → Bool → Bool → Packet
    packet p q r = if p then record { bytes = 0; code = Some 3 } else if q then record { bytes = length b; code = Some 1 } else if r then record { bytes = length b; code = Some 13 } else record { bytes = length b; code = None }

    after : Bool → Bool → Bool → Outcome
    after p q r = if p then ended_with o.packets 3 else if q then ended_with (o.packets ++ b ∷ []) 1 else if r then ended_with (o.packets ++ b ∷ []) 13 else open_with (o.packets ++ b ∷ [])

    is : (p : Bool) → nat_lt (min size (n - count_of o)) (length b) ≡ p → (q r : Bool) → Is (packet p q r) (after p q r)
    is true e q r = (refl, omega arith, omega (arith, w.inside), sym (append-nil (concat o.packets)))
    is false e true r = longer (Some 1) e
    is false e false true = longer (Some 13) e
    is false e false false = longer None e

    by_tests : (p : Bool) → nat_lt (min size (n - count_of o)) (length b) ≡ p → (q r : Bool) → NextIs request size (In n) o (Data b) (after (nat_lt (min size (n - count_of o)) (length b)) (length b == n - count_of o) (nat_lt (length b) size))
    by_tests p e q r =
        let i = is (nat_lt (min size (n - count_of o)) (length b)) refl (length b == n - count_of o) (nat_lt (length b) size) in
        record { code = i.0; count = i.1; fits = i.2; bytes = i.3; packets_received = refl }

-- an acknowledgement of an OUT transfer's packet
next_ack : (request : Request) (size : ℕ) (bytes : List ℕ) (xs : List Response) (o : Outcome) → 0 < size → IsSent (packets_by request size (Out bytes)) xs o.packets
    → NextIs request size (Out bytes) o Ack (sent_next (packets_by request size (Out bytes)) (length o.packets))
unfolding pieces
next_ack request size bytes xs o some w = rw (length_cut size k bytes, more) (by_test (nat_lt size (length bytes - j * size) || (is_extra size request (Out bytes) && nat_lt 0 (length bytes - j * size))) refl)
  where
    k : ℕ
    k = full_packets (adds_zero_packet request) (length bytes) size

    j : ℕ
    j = length o.packets

    all : List (List ℕ)
    all = cut size k bytes

    le : j ≤ k
    le = few request size bytes xs o w

    fit : k * size ≤ length bytes
    fit = no_more_packets (adds_zero_packet request) (length bytes) size

    c : IsCounted size (Out bytes) o
    c = counted_out request size bytes xs o w

    more : (j + 1 == suc k) ≡ not (nat_lt size (length bytes - j * size) || (is_extra size request (Out bytes) && nat_lt 0 (length bytes - j * size)))
    more = more_comes (adds_zero_packet request) (length bytes) size j some le

    room : length bytes - count_of o ≡ length bytes - j * size
    room = omega (arith, c.whole)

    -- the pieces up to the next one
    upto : length (concat (take (suc j) all)) ≡ count_of o + min size (length bytes - j * size)
    upto = omega (arith, first_pieces size k (suc j) bytes (omega (arith, le)) fit, c.whole, suc-mul j size, c.inside)

    piece : take size (drop (j * size) bytes) ≡ take (min size (length bytes - j * size)) (drop (count_of o) bytes)
    piece = by_room (nat_lt (length bytes - j * size) size) refl
      where
        at : drop (j * size) bytes ≡ drop (count_of o) bytes
        at = ap (λ n. drop n bytes) (sym c.whole)

        by_room : (t : Bool) → nat_lt (length bytes - j * size) size ≡ t → take size (drop (j * size) bytes) ≡ take (min size (length bytes - j * size)) (drop (count_of o) bytes)
        by_room true e =
            let less : length bytes - j * size < size = ltb-true (length bytes - j * size) size e in
            let n : min size (length bytes - j * size) ≡ length bytes - j * size = omega (arith, less) in
            take_all size (drop (j * size) bytes) (omega (arith, length-drop (j * size) bytes, less))
            ∙ (sym (take_all (length bytes - j * size) (drop (j * size) bytes) (omega (arith, length-drop (j * size) bytes))) ∙ ap₂ take (sym n) at)
        by_room false e =
            let large : size ≤ length bytes - j * size = ltb-false (length bytes - j * size) size e in
            ap₂ take (let n : size ≡ min size (length bytes - j * size) = omega (arith, large) in n) at

    next : drop j (take (suc j) all) ≡ take (min size (length bytes - j * size)) (drop (count_of o) bytes) ∷ []
    next = next_piece size k j bytes le ∙ ap (λ l. l ∷ []) piece

    one_on : take (j + 1) all ≡ take (suc j) all
    one_on = ap (λ n. take n all) (let q : j + 1 ≡ suc j = omega arith in q)

    inside : count_of o + min size (length bytes - j * size) ≤ length bytes
    inside = omega (arith, c.inside, c.whole)

    by_test : (t : Bool) → (nat_lt size (length bytes - j * size) || (is_extra size request (Out bytes) && nat_lt 0 (length bytes - j * size))) ≡ t
        → NextIs request size (Out bytes) o Ack (if not t then ended_with all 1 else open_with (take (j + 1) all))
    by_test true e = record {
      code = rw (room, e) refl;
      count = rw (room, e) (ap (λ l. length (concat l)) one_on ∙ upto);
      fits = rw (room, e) inside;
      bytes = refl;
      packets_received = rw (room, e) (ap (drop j) one_on ∙ next);
    }
    by_test false e =
        let last : j ≡ k = omega (arith, eqb-true (j + 1) (suc k) (more ∙ ap not e)) in
        let whole : all ≡ take (suc j) all = sym (take_all (suc j) all (omega (arith, last, length_cut size k bytes))) in
        record {
          code = rw (room, e) refl;
          count = rw (room, e) (ap (λ l. length (concat l)) whole ∙ upto);
          fits = rw (room, e) inside;
          bytes = refl;
          packets_received = rw (room, e) (ap (drop j) whole ∙ next);
        }

-- what leaves the packets as they were
next_still : (request : Request) (size : ℕ) (body : Body) (o : Outcome) (a : Response) (code : Option ℕ) → IsCounted size body o → packet_by size (length_of body - count_of o) (is_extra size request body) a ≡ record { bytes = 0; code = code }
    → ((k : ℕ) → got body (a ∷ []) k ≡ []) → ((c k : ℕ) → gave body (a ∷ []) c k ≡ []) → NextIs request size body o a (record { packets = o.packets; code = code })
next_still request size body o a code w is reads sends = record {
  code = sym (ap (λ k. k.code) is);
  count = rw is (let same : count_of o ≡ count_of o + 0 = omega arith in same);
  fits = rw is (omega (arith, w.inside));
  bytes = read_same body ∙ (sym (append-nil (bytes_read body o)) ∙ ap (λ l. bytes_read body o ++ l) (sym (reads (packet_by size (length_of body - count_of o) (is_extra size request body) a).bytes)));
  packets_received = taken_same body ∙ sym (sends (count_of o) (packet_by size (length_of body - count_of o) (is_extra size request body) a).bytes);
}
  where
    read_same : (body : Body) → bytes_read body (record { packets = o.packets; code = code }) ≡ bytes_read body o
    read_same (In n) = refl
    read_same (Out bytes) = refl

    taken_same : (body : Body) → acknowledged body o (record { packets = o.packets; code = code }) ≡ []
    taken_same (In n) = refl
    taken_same (Out bytes) = drop_whole o.packets
      where
        drop_whole : (l : List (List ℕ)) → drop (length l) l ≡ []
        drop_whole [] = refl
        drop_whole (x ∷ xs) = drop_whole xs

-- any answer that an open transfer may be given
pub next_is : (request : Request) (size : ℕ) (body : Body) (xs : List Response) (o : Outcome) (a : Response) (p : Outcome) → 0 < size → o.code ≡ None → IsWhole request size body xs o.packets → next_of request size body o a ≡ Some p → NextIs request size body o a p
next_is request size body xs o Nak p some op w e =
    subst (NextIs request size body o Nak) (same_Some o p e) (subst (λ c. NextIs request size body o Nak (record { packets = o.packets; code = c })) (sym op) (next_still request size body o Nak None (counted request size body xs o w) refl (no_read body) (no_send body)))
  where
    no_read : (body : Body) (k : ℕ) → got body (Nak ∷ []) k ≡ []
    no_read (In n) k = refl
    no_read (Out bytes) k = refl

    no_send : (body : Body) (c k : ℕ) → gave body (Nak ∷ []) c k ≡ []
    no_send (In n) c k = refl
    no_send (Out bytes) c k = refl
next_is request size body xs o Stall p some op w e = subst (NextIs request size body o Stall) (same_Some (ended_with o.packets 6) p e) (next_still request size body o Stall (Some 6) (counted request size body xs o w) refl (no_read body) (no_send body))
  where
    no_read : (body : Body) (k : ℕ) → got body (Stall ∷ []) k ≡ []
    no_read (In n) k = refl
    no_read (Out bytes) k = refl

    no_send : (body : Body) (c k : ℕ) → gave body (Stall ∷ []) c k ≡ []
    no_send (In n) c k = refl
    no_send (Out bytes) c k = refl
next_is request size body xs o Broken p some op w e = subst (NextIs request size body o Broken) (same_Some (ended_with o.packets 4) p e) (next_still request size body o Broken (Some 4) (counted request size body xs o w) refl (no_read body) (no_send body))
  where
    no_read : (body : Body) (k : ℕ) → got body (Broken ∷ []) k ≡ []
    no_read (In n) k = refl
    no_read (Out bytes) k = refl

    no_send : (body : Body) (c k : ℕ) → gave body (Broken ∷ []) c k ≡ []
    no_send (In n) c k = refl
    no_send (Out bytes) c k = refl
next_is request size (In n) xs o (Data b) p some op w e = subst (NextIs request size (In n) o (Data b)) (same_Some (read_next n size o.packets b) p e) (next_data request size n o b (counted_in size n xs o w))
next_is request size (Out bytes) xs o Ack p some op w e = subst (NextIs request size (Out bytes) o Ack) (same_Some (sent_next (packets_by request size (Out bytes)) (length o.packets)) p e) (next_ack request size bytes xs o some w)
next_is request size (In n) xs o Ack p some op w e = absurd cc
next_is request size (Out bytes) xs o (Data b) p some op w e = absurd cc
