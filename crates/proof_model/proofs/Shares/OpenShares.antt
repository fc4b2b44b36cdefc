-- What an open share is, but for its naks: full packets alone, or acknowledgements alone.
use Rattle.std.proofs.Common.{◌≡◌, ℕ, ◌+◌, ◌-◌, ◌*◌, ◌/◌, ◌<◌, ◌≤◌, ◌==◌, zero, suc, min, Bool, true, false, not, List, [], ◌∷◌, ◌++◌, length, take, drop, map, Option, Some, None, refl, ap, ap₂, sym, ◌∙◌, subst, append-nil, length-append, length-take-le, eq-eqb, arith}
use Rattle.std.specs.Prelude.{if◌then◌else◌, nat_lt, replicate}
use Rattle.std.specs.List.{AllByRecursion, concat}
use Rattle.std.proofs.lemmas.Bool.{eqb-true, ltb-true, lt-ltb}
use Rattle.std.proofs.lemmas.List.Elements.{filter-append}
use Rattle.std.proofs.Math.Nat.{suc-mul}
use Rattle.usb_model.specs.declared.response.Response.{Response}
use Rattle.usb_model.specs.declared.response.Response.TheVariants.{Data, Ack, Nak, Stall, Broken}
use Rattle.usb_model.specs.declared.request.Body.{Body}
use Rattle.usb_model.specs.declared.request.Body.TheVariants.{In, Out}
use Rattle.usb_model.specs.declared.request.Request.{Request}
use Rattle.usb_model.specs.declared.outcome.Outcome.{Outcome}
use Rattle.usb_model.specs.Endpoint.Packets.{outcome, open_with, ended_with, moved_by, packets_by, cut, full_packets, pieces, is_nak, without_naks, acks, sent_with, full_front, read_with, front_of, IsOpenAt}
use Rattle.usb_model.specs.Requests.{adds_zero_packet}
use Rattle.usb_model.specs.Laws.Cut.{has_stall}
use Rattle.proof_model.proofs.Shares.Outcome.{outcome_is}
use Rattle.std.proofs.lemmas.Option.{same_Some}

-- each packet has exactly this size
abbrev pub AllFull : ℕ → List (List ℕ) → Type 0
AllFull size ps = AllByRecursion (λ b. length b ≡ size) ps

-- so their bytes are so many
pub full_count : (size : ℕ) (ps : List (List ℕ)) → AllFull size ps → length (concat ps) ≡ length ps * size
full_count size [] f = omega arith
full_count size (b ∷ ps) f = omega (arith, length-append b (concat ps), f.0, full_count size ps f.1, suc-mul (length ps) size)

-- IN: a share is its front of full packets and what stands behind it
pub front_split : (size most : ℕ) (xs : List Response) → xs ≡ map Data (full_front size most xs) ++ drop (length (full_front size most xs)) xs
front_split size zero xs = refl
front_split size (suc most) [] = refl
front_split size (suc most) (Data b ∷ xs) = by_test (length b == size) (front_split size most xs)
  where
    by_test : (t : Bool) → xs ≡ map Data (full_front size most xs) ++ drop (length (full_front size most xs)) xs
        → Data b ∷ xs ≡ map Data (if t then b ∷ full_front size most xs else []) ++ drop (length (if t then b ∷ full_front size most xs else [])) (Data b ∷ xs)
    by_test true rest = ap (λ l. Data b ∷ l) rest
    by_test false rest = refl
front_split size (suc most) (_ ∷ xs) = refl

-- the full packets at the front are full, and no more than are asked for
pub front_full : (size most : ℕ) (xs : List Response) → AllFull size (full_front size most xs) × (length (full_front size most xs) ≤ most)
front_full size zero xs = (tt, omega arith)
front_full size (suc most) [] = (tt, omega arith)
front_full size (suc most) (Data b ∷ xs) = by_test (length b == size) refl (front_full size most xs)
  where
    by_test : (t : Bool) → (length b == size) ≡ t → AllFull size (full_front size most xs) × (length (full_front size most xs) ≤ most)
        → AllFull size (if t then b ∷ full_front size most xs else []) × (length (if t then b ∷ full_front size most xs else []) ≤ suc most)
    by_test true e rest = ((eqb-true (length b) size e, rest.0), omega (arith, rest.1))
    by_test false e rest = (tt, omega arith)
front_full size (suc most) (_ ∷ xs) = (tt, omega arith)

-- the front of full packets with more behind them; left: how many more may join
front_behind : (size most left : ℕ) (ps : List (List ℕ)) (rest : List Response) → AllFull size ps → most ≡ length ps + left → full_front size most (map Data ps ++ rest) ≡ ps ++ full_front size left rest
front_behind size most left [] rest f e = ap (λ k. full_front size k rest) (let same : most ≡ left = omega (arith, e) in same)
front_behind size zero left (b ∷ ps) rest f e = absurd (omega (arith, e))
front_behind size (suc most) left (b ∷ ps) rest f e = rw (eq-eqb (length b) size f.0) (ap (λ l. b ∷ l) (front_behind size most left ps rest f.1 (omega (arith, e))))

-- dropped past packets and further
drop_behind : (ps qs : List (List ℕ)) (rest : List Response) → drop (length (ps ++ qs)) (map Data ps ++ rest) ≡ drop (length qs) rest
drop_behind [] qs rest = refl
drop_behind (b ∷ ps) qs rest = drop_behind ps qs rest

-- OUT: a share is its acknowledgements and what stands behind them
pub acks_split : (xs : List Response) → xs ≡ replicate (acks xs) Ack ++ drop (acks xs) xs
acks_split [] = refl
acks_split (Ack ∷ xs) = ap (λ l. Ack ∷ l) (acks_split xs)
acks_split (_ ∷ xs) = refl

-- acknowledgements are counted past acknowledgements
acks_behind : (j : ℕ) (rest : List Response) → acks (replicate j Ack ++ rest) ≡ j + acks rest
acks_behind zero rest = omega arith
acks_behind (suc j) rest = omega (arith, acks_behind j rest)

-- dropped past acknowledgements and further
drop_acks : (j k : ℕ) (rest : List Response) → drop (j + k) (replicate j Ack ++ rest) ≡ drop k rest
drop_acks zero k rest = ap (λ i. drop i rest) (let same : zero + k ≡ k = omega arith in same)
drop_acks (suc j) k rest = ap (λ i. drop i (Ack ∷ (replicate j Ack ++ rest))) (let same : suc j + k ≡ suc (j + k) = omega arith in same) ∙ drop_acks j k rest

-- these answers are packets of an IN transfer, full, and no more than leave room
pub record IsRead (n size : ℕ) (xs : List Response) (ps : List (List ℕ)) : Type 0 where
  pub answers : xs ≡ map Data ps
  pub full : AllFull size ps
  pub room : length ps ≤ (n - 1) / size

-- these answers acknowledge the first packets of all, and not the last
pub record IsSent (all : List (List ℕ)) (xs : List Response) (ps : List (List ℕ)) : Type 0 where
  pub answers : xs ≡ replicate (length ps) Ack
  pub packets : ps ≡ take (length ps) all
  pub room : length ps < length all

-- these answers moved the packets, and leave the transfer open
abbrev pub IsWhole : Request → ℕ → Body → List Response → List (List ℕ) → Type 0
IsWhole request size (In n) xs ps = IsRead n size xs ps
IsWhole request size (Out bytes) xs ps = IsSent (packets_by request size (Out bytes)) xs ps

-- what has ended is not open
ended_open : (o : Outcome) (ps : List (List ℕ)) (code : ℕ) → ◌≡◌ {A = Option Outcome} (Some (ended_with ps code)) (Some o) → o.code ≡ None → ⊥
ended_open o ps code e op = let c : ◌≡◌ {A = Option ℕ} (Some code) None = ap (λ x. x.code) (same_Some (ended_with ps code) o e) ∙ op in cc

-- an open IN transfer has full packets alone
read_open : (n size : ℕ) (front : List (List ℕ)) (rest : List Response) (o : Outcome) → read_with n size front rest ≡ Some o → o.code ≡ None → (rest ≡ []) × (front ≡ o.packets)
read_open n size front [] o e op = (refl, ap (λ x. x.packets) (same_Some (open_with front) o e))
read_open n size front (Stall ∷ []) o e op = absurd (ended_open o front 6 e op)
read_open n size front (Broken ∷ []) o e op = absurd (ended_open o front 4 e op)
read_open n size front (Data b ∷ []) o e op = absurd (by_tests (nat_lt (min size (n - length front * size)) (length b)) (length front * size + length b == n) (nat_lt (length b) size) e)
  where
    by_tests : (p q r : Bool) → (if p then Some (ended_with front 3) else (if q then Some (ended_with (front ++ b ∷ []) 1) else (if r then Some (ended_with (front ++ b ∷ []) 13) else None))) ≡ Some o → ⊥
    by_tests true q r e = ended_open o front 3 e op
    by_tests false true r e = ended_open o (front ++ b ∷ []) 1 e op
    by_tests false false true e = ended_open o (front ++ b ∷ []) 13 e op
    by_tests false false false e = cc
read_open n size front _ o e op = absurd cc

-- an open OUT transfer has acknowledgements alone, and packets left to send
sent_open : (all : List (List ℕ)) (j : ℕ) (rest : List Response) (o : Outcome) → sent_with all j rest ≡ Some o → o.code ≡ None → (rest ≡ []) × (j < length all) × (take j all ≡ o.packets)
sent_open all j [] o e op = by_tests (nat_lt j (length all)) refl (j == length all) e
  where
    by_tests : (p : Bool) → nat_lt j (length all) ≡ p → (q : Bool) → (if p then Some (open_with (take j all)) else (if q then Some (ended_with all 1) else None)) ≡ Some o
        → (◌≡◌ {A = List Response} [] []) × (j < length all) × (take j all ≡ o.packets)
    by_tests true l q e = (refl, ltb-true j (length all) l, ap (λ x. x.packets) (same_Some (open_with (take j all)) o e))
    by_tests false l true e = absurd (ended_open o all 1 e op)
    by_tests false l false e = absurd cc
sent_open all j (Stall ∷ []) o e op = absurd (by_test (nat_lt j (length all)) e)
  where
    by_test : (p : Bool) → (if p then Some (ended_with (take j all) 6) else None) ≡ Some o → ⊥
    by_test true e = ended_open o (take j all) 6 e op
    by_test false e = cc
sent_open all j (Broken ∷ []) o e op = absurd (by_test (nat_lt j (length all)) e)
  where
    by_test : (p : Bool) → (if p then Some (ended_with (take j all) 4) else None) ≡ Some o → ⊥
    by_test true e = ended_open o (take j all) 4 e op
    by_test false e = cc
sent_open all j _ o e op = absurd cc

-- an open outcome is that of a whole share
pub whole_if_open : (request : Request) (size : ℕ) (body : Body) (xs : List Response) (o : Outcome) → moved_by request size body xs ≡ Some o → o.code ≡ None → IsWhole request size body xs o.packets
whole_if_open request size (In n) xs o e op =
    let front : List (List ℕ) = front_of n size xs in
    let r = read_open n size front (drop (length front) xs) o e op in
    let f = front_full size ((n - 1) / size) xs in
    subst (IsRead n size xs) r.1
    (record { answers = front_split size ((n - 1) / size) xs ∙ (ap (λ l. map Data front ++ l) r.0 ∙ append-nil (map Data front)); full = f.0; room = f.1 })
whole_if_open request size (Out bytes) xs o e op =
    let all : List (List ℕ) = packets_by request size (Out bytes) in
    let r = sent_open all (acks xs) (drop (acks xs) xs) o e op in
    let many : length (take (acks xs) all) ≡ acks xs = length-take-le (acks xs) all (omega (arith, r.1)) in
    subst (IsSent all xs) r.2
    (record {
      answers = acks_split xs ∙ (ap (λ l. replicate (acks xs) Ack ++ l) r.0 ∙ (append-nil (replicate (acks xs) Ack) ∙ ap (λ k. replicate k Ack) (sym many)));
      packets = ap (λ k. take k all) (sym many);
      room = omega (arith, many, r.1);
    })

-- what answers do behind those
pub read_behind : (n size left : ℕ) (ps : List (List ℕ)) (rest : List Response) (request : Request) → AllFull size ps → (n - 1) / size ≡ length ps + left
    → moved_by request size (In n) (map Data ps ++ rest) ≡ read_with n size (ps ++ full_front size left rest) (drop (length (full_front size left rest)) rest)
read_behind n size left ps rest request f e =
    let front : front_of n size (map Data ps ++ rest) ≡ ps ++ full_front size left rest = front_behind size ((n - 1) / size) left ps rest f e in
    ap (λ l. read_with n size l (drop (length l) (map Data ps ++ rest))) front ∙ ap (read_with n size (ps ++ full_front size left rest)) (drop_behind ps (full_front size left rest) rest)

-- an OUT transfer past its acknowledgements
pub sent_behind : (request : Request) (size j : ℕ) (bytes : List ℕ) (rest : List Response)
    → moved_by request size (Out bytes) (replicate j Ack ++ rest) ≡ sent_with (packets_by request size (Out bytes)) (j + acks rest) (drop (acks rest) rest)
sent_behind request size j bytes rest =
    ap (λ k. sent_with (packets_by request size (Out bytes)) k (drop k (replicate j Ack ++ rest))) (acks_behind j rest)
    ∙ ap (sent_with (packets_by request size (Out bytes)) (j + acks rest)) (drop_acks j (acks rest) rest)

-- no answers have no full packets
pub no_front : (size left : ℕ) → full_front size left [] ≡ []
no_front size zero = refl
no_front size (suc left) = refl

-- the outcome of a whole share is open, with its packets
pub open_if_whole : (request : Request) (size : ℕ) (body : Body) (xs : List Response) (ps : List (List ℕ)) → IsWhole request size body xs ps → moved_by request size body xs ≡ Some (open_with ps)
open_if_whole request size (In n) xs ps w =
    let left : ℕ = (n - 1) / size - length ps in
    ap (moved_by request size (In n)) (w.answers ∙ sym (append-nil (map Data ps)))
    ∙ (read_behind n size left ps [] request w.full (omega (arith, w.room))
    ∙ (ap (λ l. read_with n size (ps ++ l) (drop (length l) [])) (no_front size left) ∙ ap (λ l. Some (open_with l)) (append-nil ps)))
open_if_whole request size (Out bytes) xs ps w =
    let all : List (List ℕ) = packets_by request size (Out bytes) in
    let same : length ps + 0 ≡ length ps = omega arith in
    ap (moved_by request size (Out bytes)) (w.answers ∙ sym (append-nil (replicate (length ps) Ack)))
    ∙ (sent_behind request size (length ps) bytes []
    ∙ (ap (λ k. sent_with all k []) same ∙ (rw (lt-ltb (length ps) (length all) w.room) (ap (λ l. Some (open_with l)) (sym w.packets)))))

-- naks are no stall
stall-without_naks : (xs : List Response) → has_stall (without_naks xs) ≡ has_stall xs
stall-without_naks [] = refl
stall-without_naks (Stall ∷ xs) = refl
stall-without_naks (Nak ∷ xs) = stall-without_naks xs
stall-without_naks (Ack ∷ xs) = stall-without_naks xs
stall-without_naks (Data b ∷ xs) = stall-without_naks xs
stall-without_naks (Broken ∷ xs) = stall-without_naks xs

-- an open outcome by itself
pub open_at : (r : Option Outcome) → IsOpenAt r → (o : Outcome) × (r ≡ Some o) × (o.code ≡ None)
open_at None op = absurd op
open_at (Some o) op = (o, refl, op)

-- an outcome that is there without a code is open
pub open_if : (r : Option Outcome) (o : Outcome) → r ≡ Some o → o.code ≡ None → IsOpenAt r
open_if r o e op = subst IsOpenAt (sym e) op

-- the packets of an open share
pub open_whole : (request : Request) (size : ℕ) (share : List Response) (o : Outcome) → outcome request size share false ≡ Some o → o.code ≡ None → IsWhole request size request.body (without_naks share) o.packets
open_whole request size share o e op = whole_if_open request size request.body (without_naks share) o (sym (outcome_is request size share) ∙ e) op

-- it has no stall
no_stall_in_packets : (ps : List (List ℕ)) → has_stall (map Data ps) ≡ false
no_stall_in_packets [] = refl
no_stall_in_packets (b ∷ ps) = no_stall_in_packets ps

-- acknowledgements are no stall
no_stall_in_acks : (j : ℕ) → has_stall (replicate j Ack) ≡ false
no_stall_in_acks zero = refl
no_stall_in_acks (suc j) = no_stall_in_acks j

-- a whole share has no stall
whole_no_stall : (request : Request) (size : ℕ) (body : Body) (xs : List Response) (ps : List (List ℕ)) → IsWhole request size body xs ps → has_stall xs ≡ false
whole_no_stall request size (In n) xs ps w = ap has_stall w.answers ∙ no_stall_in_packets ps
whole_no_stall request size (Out bytes) xs ps w = ap has_stall w.answers ∙ no_stall_in_acks (length ps)

-- an open share has no stall
pub open_no_stall : (request : Request) (size : ℕ) (share : List Response) → IsOpenAt (outcome request size share false) → has_stall share ≡ false
open_no_stall request size share op =
    let r = open_at (outcome request size share false) op in
    sym (stall-without_naks share) ∙ whole_no_stall request size request.body (without_naks share) r.0.packets (open_whole request size share r.0 r.1 r.2)

-- each beginning of it is open
packets_before : (xs ys : List Response) (ps : List (List ℕ)) → xs ++ ys ≡ map Data ps → (qs : List (List ℕ)) × (rs : List (List ℕ)) × (xs ≡ map Data qs) × (ps ≡ qs ++ rs)
packets_before [] ys ps e = ([], ps, refl, refl)
packets_before (x ∷ xs) ys [] e = absurd cc
packets_before (x ∷ xs) ys (b ∷ ps) e =
    let tails : xs ++ ys ≡ map Data ps = cc in
    let heads : x ≡ Data b = cc in
    let r = packets_before xs ys ps tails in
    (b ∷ r.0, r.1, ap₂ (λ a l. a ∷ l) heads r.2, ap (λ l. b ∷ l) r.3)

-- the front of full packets is full
full_before : (size : ℕ) (qs rs : List (List ℕ)) → AllFull size (qs ++ rs) → AllFull size qs
full_before size [] rs f = tt
full_before size (b ∷ qs) rs f = (f.0, full_before size qs rs f.1)

-- the front of acknowledgements is acknowledgements
acks_before : (xs ys : List Response) (j : ℕ) → xs ++ ys ≡ replicate j Ack → (xs ≡ replicate (length xs) Ack) × (length xs ≤ j)
acks_before [] ys j e = (refl, omega arith)
acks_before (x ∷ xs) ys zero e = absurd cc
acks_before (x ∷ xs) ys (suc j) e =
    let tails : xs ++ ys ≡ replicate j Ack = cc in
    let heads : x ≡ Ack = cc in
    let r = acks_before xs ys j tails in
    (ap₂ (λ a l. a ∷ l) heads r.0, omega (arith, r.1))

-- the front of a whole share is whole
whole_before : (request : Request) (size : ℕ) (body : Body) (xs ys : List Response) (ps : List (List ℕ)) → IsWhole request size body (xs ++ ys) ps → (qs : List (List ℕ)) × IsWhole request size body xs qs
whole_before request size (In n) xs ys ps w =
    let r = packets_before xs ys ps w.answers in
    let many : length ps ≡ length r.0 + length r.1 = ap length r.3 ∙ length-append r.0 r.1 in
    (r.0, record { answers = r.2; full = full_before size r.0 r.1 (subst (AllFull size) r.3 w.full); room = omega (arith, many, w.room) })
whole_before request size (Out bytes) xs ys ps w =
    let all : List (List ℕ) = packets_by request size (Out bytes) in
    let r = acks_before xs ys (length ps) w.answers in
    let many : length (take (length xs) all) ≡ length xs = length-take-le (length xs) all (omega (arith, r.1, w.room)) in
    (take (length xs) all, record { answers = r.0 ∙ ap (λ k. replicate k Ack) (sym many); packets = ap (λ k. take k all) (sym many); room = omega (arith, many, r.1, w.room) })

-- naks are left out of each part
pub naks-append : (xs ys : List Response) → without_naks (xs ++ ys) ≡ without_naks xs ++ without_naks ys
naks-append xs ys = filter-append (λ x. not (is_nak x)) xs ys

-- the front of an open share is open
pub open_before : (request : Request) (size : ℕ) (xs ys : List Response) → IsOpenAt (outcome request size (xs ++ ys) false) → IsOpenAt (outcome request size xs false)
open_before request size xs ys op =
    let r = open_at (outcome request size (xs ++ ys) false) op in
    let w = whole_before request size request.body (without_naks xs) (without_naks ys) r.0.packets
    (subst (λ l. IsWhole request size request.body l r.0.packets) (naks-append xs ys) (open_whole request size (xs ++ ys) r.0 r.1 r.2)) in
    open_if (outcome request size xs false) (open_with w.0) (outcome_is request size xs ∙ open_if_whole request size request.body (without_naks xs) w.0 w.1) refl

-- no answers at all are an open share
some_packet : (size k : ℕ) (bytes : List ℕ) → 0 < length (cut size k bytes)
some_packet size zero bytes = omega arith
some_packet size (suc k) bytes = omega arith

-- nothing is whole
whole_nothing : (request : Request) (size : ℕ) (body : Body) → IsWhole request size body [] []
unfolding pieces
whole_nothing request size (In n) = record { answers = refl; full = tt; room = omega arith }
whole_nothing request size (Out bytes) = record { answers = refl; packets = refl; room = some_packet size (full_packets (adds_zero_packet request) (length bytes) size) bytes }

-- a transfer that was served nothing is open
pub outcome_nothing : (request : Request) (size : ℕ) → outcome request size [] false ≡ Some (open_with [])
outcome_nothing request size = outcome_is request size [] ∙ open_if_whole request size request.body [] [] (whole_nothing request size request.body)

-- a halted device's transfer that took nothing stalls
pub halted_outcome : (request : Request) (size : ℕ) → outcome request size [] true ≡ Some (ended_with [] 6)
unfolding outcome
halted_outcome request size = refl
