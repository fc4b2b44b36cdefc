-- One more answer to an open share.
use Rattle.std.proofs.Common.{◌≡◌, ℕ, ◌+◌, ◌-◌, ◌*◌, ◌/◌, ◌<◌, ◌≤◌, ◌==◌, ◌⊎◌, inl, inr, zero, suc, min, Bool, true, false, List, [], ◌∷◌, ◌++◌, length, take, drop, Option, Some, None, refl, ap, sym, ◌∙◌, append-nil, arith}
use Rattle.std.specs.Prelude.{if◌then◌else◌, nat_lt}
use Rattle.std.proofs.lemmas.Bool.{cases_lt, eqb-true, eqb-false, ne_eqb, ltb-false, lt-ltb, le-ltb}
use Rattle.std.proofs.Math.Nat.{suc-mul, div-mul-le_self, lt-mul-div-succ, mul_comm, mul-le-mul_right}
use Rattle.usb_model.specs.declared.response.Response.{Response}
use Rattle.usb_model.specs.declared.response.Response.TheVariants.{Data, Ack, Nak, Stall, Broken}
use Rattle.usb_model.specs.declared.request.Body.{Body}
use Rattle.usb_model.specs.declared.request.Body.TheVariants.{In, Out}
use Rattle.usb_model.specs.declared.request.Request.{Request}
use Rattle.usb_model.specs.declared.outcome.Outcome.{Outcome}
use Rattle.usb_model.specs.Endpoint.Packets.{outcome, open_with, ended_with, moved_by, packets_by, without_naks, acks, sent_with, full_front, read_with}
use Rattle.proof_model.proofs.Shares.Outcome.{outcome_is}
use Rattle.proof_model.proofs.Shares.OpenShares.{IsRead, IsSent, IsWhole, no_front, read_behind, sent_behind, open_if_whole, naks-append, open_whole}

-- a packet that comes behind these, with room for n bytes in all
abbrev pub read_next : ℕ → ℕ → List (List ℕ) → List ℕ → Outcome
read_next n size front b =
    if nat_lt (min size (n - length front * size)) (length b) then ended_with front 3
    else if length front * size + length b == n then ended_with (front ++ b ∷ []) 1
    else if nat_lt (length b) size then ended_with (front ++ b ∷ []) 13
    else open_with (front ++ b ∷ [])

-- an acknowledgement that comes behind j
abbrev pub sent_next : List (List ℕ) → ℕ → Outcome
sent_next all j = if j + 1 == length all then ended_with all 1 else open_with (take (j + 1) all)

-- what one more answer makes of an open outcome; None where the answer isn't of its direction
abbrev pub next_of : Request → ℕ → Body → Outcome → Response → Option Outcome
next_of request size body o Nak = Some o
next_of request size body o Stall = Some (ended_with o.packets 6)
next_of request size body o Broken = Some (ended_with o.packets 4)
next_of request size (In n) o (Data b) = Some (read_next n size o.packets b)
next_of request size (Out bytes) o (Data b) = None
next_of request size (In n) o Ack = None
next_of request size (Out bytes) o Ack = Some (sent_next (packets_by request size (Out bytes)) (length o.packets))

-- room behind j packets, and none
pub room_behind : (n size j : ℕ) → j < (n - 1) / size → j * size + size < n
room_behind n size j less =
    let below : (n - 1) / size * size ≤ n - 1 = div-mul-le_self (n - 1) size in
    let up : suc j * size ≤ (n - 1) / size * size = mul-le-mul_right size (omega (arith, less)) in
    let product : suc j * size ≡ j * size + size = suc-mul j size in
    omega (arith, below, up, product)

-- no room for a byte more behind one packet more
pub no_room_behind : (n size j : ℕ) → 0 < size → (n - 1) / size ≤ j → n ≤ j * size + size
no_room_behind n size j some most =
    let above : n - 1 < size * ((n - 1) / size + 1) = lt-mul-div-succ (n - 1) some in
    let turned : size * ((n - 1) / size + 1) ≡ ((n - 1) / size + 1) * size = mul_comm size ((n - 1) / size + 1) in
    let up : ((n - 1) / size + 1) * size ≤ suc j * size = mul-le-mul_right size (omega (arith, most)) in
    let product : suc j * size ≡ j * size + size = suc-mul j size in
    omega (arith, above, turned, up, product)

-- a packet as the last of a share, where it ends the transfer
read_end : (n size : ℕ) (front : List (List ℕ)) (b : List ℕ)
    → (nat_lt (min size (n - length front * size)) (length b) ≡ false → (length front * size + length b == n) ≡ false → nat_lt (length b) size ≡ false → ⊥)
    → read_with n size front (Data b ∷ []) ≡ Some (read_next n size front b)
read_end n size front b ends = by_tests (nat_lt (min size (n - length front * size)) (length b)) (length front * size + length b == n) (nat_lt (length b) size) ends
  where
    by_tests : (p q r : Bool) → (p ≡ false → q ≡ false → r ≡ false → ⊥)
        → (if p then Some (ended_with front 3) else (if q then Some (ended_with (front ++ b ∷ []) 1) else (if r then Some (ended_with (front ++ b ∷ []) 13) else None)))
        ≡ Some (if p then ended_with front 3 else (if q then ended_with (front ++ b ∷ []) 1 else (if r then ended_with (front ++ b ∷ []) 13 else open_with (front ++ b ∷ []))))
    by_tests true q r e = refl
    by_tests false true r e = refl
    by_tests false false true e = refl
    by_tests false false false e = absurd (e refl refl refl)

-- an answer that may come in packets of this size: an empty packet needs one
abbrev pub IsSized : ℕ → Response → Type 0
IsSized size (Data b) = 0 < size + length b
IsSized size _ = Unit {0}

-- at a size of at least 1 each may
pub sized_all : (size : ℕ) (x : Response) → 0 < size → IsSized size x
sized_all size (Data b) some = omega (arith, some)
sized_all size Nak some = tt
sized_all size Ack some = tt
sized_all size Stall some = tt
sized_all size Broken some = tt

-- the last packet for which there is room leaves none, or overflows
no_room_left : (n size j count : ℕ) → 0 < size + count → (n - 1) / size ≤ j → count ≤ min size (n - j * size) → n ≤ j * size + size
no_room_left n size j count some most fits = by_size (cases_lt 0 size)
  where
    by_size : (0 < size) ⊎ (size ≤ 0) → n ≤ j * size + size
    by_size (inl lt) = no_room_behind n size j lt most
    by_size (inr le) = absurd (omega (arith, some, le, fits))

-- a packet behind the front of full ones; left: how many may still join that
read_data : (n size left : ℕ) (ps : List (List ℕ)) (b : List ℕ) → 0 < size + length b → (n - 1) / size ≡ length ps + left
    → read_with n size (ps ++ full_front size left (Data b ∷ [])) (drop (length (full_front size left (Data b ∷ []))) (Data b ∷ [])) ≡ Some (read_next n size ps b)
read_data n size zero ps b some e =
    ap (λ l. read_with n size l (Data b ∷ [])) (append-nil ps)
    ∙ read_end n size ps b (λ p q r. eqb-false (length ps * size + length b) n q
    (let fits : length b ≤ min size (n - length ps * size) = ltb-false (min size (n - length ps * size)) (length b) p in
    omega (arith, no_room_left n size (length ps) (length b) some (omega (arith, e)) fits, fits, ltb-false (length b) size r)))
read_data n size (suc left) ps b some e = by_test (length b == size) refl
  where
    by_test : (t : Bool) → (length b == size) ≡ t
        → read_with n size (ps ++ (if t then b ∷ full_front size left [] else [])) (drop (length (if t then b ∷ full_front size left [] else [])) (Data b ∷ [])) ≡ Some (read_next n size ps b)
    by_test true full =
        let same : length b ≡ size = eqb-true (length b) size full in
        let more : length ps * size + size < n = room_behind n size (length ps) (omega (arith, e)) in
        let p : nat_lt (min size (n - length ps * size)) (length b) ≡ false = le-ltb (min size (n - length ps * size)) (length b) (omega (arith, same, more)) in
        let q : (length ps * size + length b == n) ≡ false = ne_eqb (length ps * size + length b) n (λ z. omega (arith, z, same, more)) in
        let r : nat_lt (length b) size ≡ false = le-ltb (length b) size (omega (arith, same)) in
        ap (λ l. read_with n size (ps ++ b ∷ l) (drop (length l) [])) (no_front size left) ∙ rw (p, q, r) refl
    by_test false full =
        let apart : length b ≡ size → ⊥ = eqb-false (length b) size full in
        ap (λ l. read_with n size l (Data b ∷ [])) (append-nil ps)
        ∙ read_end n size ps b (λ p q r. omega (arith, ltb-false (min size (n - length ps * size)) (length b) p, ltb-false (length b) size r, apart))

-- any other answer behind them
read_other : (n size left : ℕ) (ps : List (List ℕ)) (x : Response) → full_front size left (x ∷ []) ≡ []
    → read_with n size (ps ++ full_front size left (x ∷ [])) (drop (length (full_front size left (x ∷ []))) (x ∷ [])) ≡ read_with n size ps (x ∷ [])
read_other n size left ps x none = ap (λ l. read_with n size (ps ++ l) (drop (length l) (x ∷ []))) none ∙ ap (λ l. read_with n size l (x ∷ [])) (append-nil ps)

-- what is no packet is not among the full packets
no_packet : (size left : ℕ) → (full_front size left (Ack ∷ []) ≡ []) × (full_front size left (Stall ∷ []) ≡ []) × (full_front size left (Broken ∷ []) ≡ [])
no_packet size zero = (refl, refl, refl)
no_packet size (suc left) = (refl, refl, refl)

-- one more answer to an IN transfer
read_one_more : (request : Request) (n size : ℕ) (xs : List Response) (ps : List (List ℕ)) (x : Response) → IsSized size x → IsRead n size xs ps
    → moved_by request size (In n) (xs ++ without_naks (x ∷ [])) ≡ next_of request size (In n) (open_with ps) x
read_one_more request n size xs ps x some w = by_answer x some
  where
    left : ℕ
    left = (n - 1) / size - length ps

    behind : (rest : List Response) → moved_by request size (In n) (xs ++ rest) ≡ read_with n size (ps ++ full_front size left rest) (drop (length (full_front size left rest)) rest)
    behind rest = ap (λ l. moved_by request size (In n) (l ++ rest)) w.answers ∙ read_behind n size left ps rest request w.full (omega (arith, w.room))

    by_answer : (x : Response) → IsSized size x → moved_by request size (In n) (xs ++ without_naks (x ∷ [])) ≡ next_of request size (In n) (open_with ps) x
    by_answer Nak some = ap (moved_by request size (In n)) (append-nil xs) ∙ open_if_whole request size (In n) xs ps w
    by_answer (Data b) some = behind (Data b ∷ []) ∙ read_data n size left ps b some (omega (arith, w.room))
    by_answer Ack some = behind (Ack ∷ []) ∙ read_other n size left ps Ack (no_packet size left).0
    by_answer Stall some = behind (Stall ∷ []) ∙ read_other n size left ps Stall (no_packet size left).1
    by_answer Broken some = behind (Broken ∷ []) ∙ read_other n size left ps Broken (no_packet size left).2

-- an acknowledgement behind others
sent_ack : (all : List (List ℕ)) (j : ℕ) → j < length all → sent_with all (j + 1) [] ≡ Some (sent_next all j)
sent_ack all j room = by_test (j + 1 == length all) refl
  where
    by_test : (t : Bool) → (j + 1 == length all) ≡ t → (if nat_lt (j + 1) (length all) then Some (open_with (take (j + 1) all)) else (if j + 1 == length all then Some (ended_with all 1) else None))
        ≡ Some (if t then ended_with all 1 else open_with (take (j + 1) all))
    by_test true e =
        let full : nat_lt (j + 1) (length all) ≡ false = le-ltb (j + 1) (length all) (omega (arith, eqb-true (j + 1) (length all) e)) in
        rw (full, e) refl
    by_test false e =
        let more : nat_lt (j + 1) (length all) ≡ true = lt-ltb (j + 1) (length all) (omega (arith, room, eqb-false (j + 1) (length all) e)) in
        rw more refl

-- one more answer to an OUT transfer
sent_one_more : (request : Request) (size : ℕ) (bytes : List ℕ) (xs : List Response) (ps : List (List ℕ)) (x : Response) → IsSent (packets_by request size (Out bytes)) xs ps
    → moved_by request size (Out bytes) (xs ++ without_naks (x ∷ [])) ≡ next_of request size (Out bytes) (open_with ps) x
sent_one_more request size bytes xs ps x w = by_answer x
  where
    all : List (List ℕ)
    all = packets_by request size (Out bytes)

    behind : (k : ℕ) (rest : List Response) → length ps + acks rest ≡ k → moved_by request size (Out bytes) (xs ++ rest) ≡ sent_with all k (drop (acks rest) rest)
    behind k rest e = ap (λ l. moved_by request size (Out bytes) (l ++ rest)) w.answers ∙ (sent_behind request size (length ps) bytes rest ∙ ap (λ i. sent_with all i (drop (acks rest) rest)) e)

    by_answer : (x : Response) → moved_by request size (Out bytes) (xs ++ without_naks (x ∷ [])) ≡ next_of request size (Out bytes) (open_with ps) x
    by_answer Nak = ap (moved_by request size (Out bytes)) (append-nil xs) ∙ open_if_whole request size (Out bytes) xs ps w
    by_answer (Data b) = behind (length ps) (Data b ∷ []) (omega arith)
    by_answer Ack = behind (length ps + 1) (Ack ∷ []) (omega arith) ∙ sent_ack all (length ps) w.room
    by_answer Stall = behind (length ps) (Stall ∷ []) (omega arith) ∙ rw (lt-ltb (length ps) (length all) w.room) (ap (λ l. Some (ended_with l 6)) (sym w.packets))
    by_answer Broken = behind (length ps) (Broken ∷ []) (omega arith) ∙ rw (lt-ltb (length ps) (length all) w.room) (ap (λ l. Some (ended_with l 4)) (sym w.packets))

-- one more answer to a transfer of either direction
moved_one_more : (request : Request) (size : ℕ) (body : Body) (xs : List Response) (ps : List (List ℕ)) (x : Response) → IsSized size x → IsWhole request size body xs ps
    → moved_by request size body (xs ++ without_naks (x ∷ [])) ≡ next_of request size body (open_with ps) x
moved_one_more request size (In n) xs ps x some w = read_one_more request n size xs ps x some w
moved_one_more request size (Out bytes) xs ps x some w = sent_one_more request size bytes xs ps x w

-- an open outcome is that of its packets
pub open_is : (o : Outcome) → o.code ≡ None → o ≡ open_with o.packets
open_is o open_code = ap (λ c. record o { code = c }) open_code

-- the outcome of an open share with one more answer, which may come at this size
pub one_more_sized : (request : Request) (size : ℕ) (share : List Response) (x : Response) (o : Outcome) → IsSized size x → outcome request size share false ≡ Some o → o.code ≡ None
    → outcome request size (share ++ x ∷ []) false ≡ next_of request size request.body o x
one_more_sized request size share x o some e open_code =
    outcome_is request size (share ++ x ∷ [])
    ∙ (ap (moved_by request size request.body) (naks-append share (x ∷ []))
    ∙ (moved_one_more request size request.body (without_naks share) o.packets x some (open_whole request size share o e open_code)
    ∙ ap (λ p. next_of request size request.body p x) (sym (open_is o open_code))))

-- and at a size of at least 1
pub one_more : (request : Request) (size : ℕ) (share : List Response) (x : Response) (o : Outcome) → 0 < size → outcome request size share false ≡ Some o → o.code ≡ None
    → outcome request size (share ++ x ∷ []) false ≡ next_of request size request.body o x
one_more request size share x o some e open_code = one_more_sized request size share x o (sized_all size x some) e open_code
