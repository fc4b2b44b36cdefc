-- A recorded write, made again.
use Rattle.std.proofs.Common.{◌≡◌, ℕ, zero, suc, ◌+◌, ◌*◌, ◌/◌, ◌<◌, ◌≤◌, ◌==◌, ◌⊎◌, inl, inr, min, true, false, List, [], ◌∷◌, ◌++◌, length, take, Some, refl, ap, sym, ◌∙◌, append-nil, arith}
use Rattle.std.specs.Prelude.{replicate}
use Rattle.std.specs.List.{concat}
use Rattle.std.specs.Option.{option_to_list}
use Rattle.std.proofs.lemmas.Bool.{eq-eqb}
use Rattle.std.proofs.Math.Nat.{div-le_self}
use Rattle.usb_model.specs.declared.response.Response.{Response}
use Rattle.usb_model.specs.declared.response.Response.TheVariants.{Ack, Stall, Broken}
use Rattle.usb_model.specs.declared.request.Body.TheVariants.{Out}
use Rattle.usb_model.specs.declared.request.Request.{Request}
use Rattle.usb_model.specs.Requests.{is_short_not_ok, adds_zero_packet}
use Rattle.usb_model.specs.Setup.{is_in}
use Rattle.usb_model.specs.Endpoint.{bytes_read}
use Rattle.usb_model.specs.Endpoint.Packets.{open_with, ended_with, moved_by, outcome, without_naks, packets_by, pieces, full_packets}
use Rattle.proof_model.proofs.Shares.Outcome.{outcome_is}
use Rattle.proof_model.proofs.Shares.OpenShares.{full_count, IsSent, open_if_whole}
use Rattle.proof_model.proofs.Shares.More.{next_of, sent_next, one_more}
use Rattle.trace_capture.specs.declared.errno.Errno.{Errno}
use Rattle.trace_capture.specs.declared.errno.Errno.TheVariants.{Success, NoEntry, Pipe, Protocol, Overflow, Shutdown, InProgress, RemoteIo}
use Rattle.trace_recorded.specs.declared.transfer.RecordedEnd.{RecordedEnd}
use Rattle.trace_recorded.specs.declared.transfer.RecordedEnd.TheVariants.{Done, Stalled, Failed}
use Rattle.trace_recorded.specs.declared.transfer.RecordedTransfer.{RecordedTransfer}
use Rattle.trace_recorded.specs.Answers.{answers_of, front_packets, acknowledged_by, last_written}
use Rattle.trace_recorded.specs.Laws.{IsToldAgain, MovedWhole, WritesAreToldAgain}
use Rattle.trace_recorded.proofs.FrontPackets.{many, joined, full, first, pieces_are, whole, enough, before_last}
use Rattle.trace_recorded.proofs.Loops.{ack_more}
use Rattle.trace_recorded.proofs.Told.{recorded, of_stall, of_failure, of_success, all_moved, told}

-- acknowledgements have no naks
no_naks : (j : ℕ) → without_naks (replicate j Ack) ≡ replicate j Ack
no_naks zero = refl
no_naks (suc j) = ap (λ l. Ack ∷ l) (no_naks j)

-- how many packets of a write stand before the last
abbrev pub front_count : Request → ℕ → List ℕ → ℕ
front_count request size bytes = full_packets (adds_zero_packet request) (length bytes) size

-- its packets
pub all_are : (request : Request) (size : ℕ) (bytes : List ℕ) → packets_by request size (Out bytes) ≡ front_packets size (suc (front_count request size bytes)) bytes
unfolding pieces
all_are request size bytes = pieces_are size (front_count request size bytes) bytes

count_all : (request : Request) (size : ℕ) (bytes : List ℕ) → length (packets_by request size (Out bytes)) ≡ suc (front_count request size bytes)
count_all request size bytes = ap length (all_are request size bytes) ∙ many size (suc (front_count request size bytes)) bytes

-- some of them sent, and not the last
sent : (request : Request) (size j : ℕ) (bytes : List ℕ) → j ≤ front_count request size bytes → IsSent (packets_by request size (Out bytes)) (replicate j Ack) (front_packets size j bytes)
sent request size j bytes few = record {
  answers = ap (λ i. replicate i Ack) (sym (many size j bytes));
  packets = sym (ap (λ i. take i (packets_by request size (Out bytes))) (many size j bytes) ∙ (ap (take j) (all_are request size bytes) ∙ first size j (suc (front_count request size bytes)) bytes (omega (arith, few))));
  room = omega (arith, many size j bytes, count_all request size bytes, few);
}

-- acknowledgements of them are an open share
open_write : (request : Request) (size j : ℕ) (bytes : List ℕ) → request.body ≡ Out bytes → j ≤ front_count request size bytes → outcome request size (replicate j Ack) false ≡ Some (open_with (front_packets size j bytes))
open_write request size j bytes is few =
    outcome_is request size (replicate j Ack)
    ∙ (ap (λ b. moved_by request size b (without_naks (replicate j Ack))) is
    ∙ (ap (moved_by request size (Out bytes)) (no_naks j)
    ∙ open_if_whole request size (Out bytes) (replicate j Ack) (front_packets size j bytes) (sent request size j bytes few)))

-- and with one answer more
next_write : (request : Request) (size j : ℕ) (bytes : List ℕ) (y : Response) → 0 < size → request.body ≡ Out bytes → j ≤ front_count request size bytes
    → outcome request size (replicate j Ack ++ y ∷ []) false ≡ next_of request size (Out bytes) (open_with (front_packets size j bytes)) y
next_write request size j bytes y some is few =
    one_more request size (replicate j Ack) y (open_with (front_packets size j bytes)) some (open_write request size j bytes is few) refl
    ∙ ap (λ b. next_of request size b (open_with (front_packets size j bytes)) y) is

-- the answers of a write that ended so
answers_written : (size : ℕ) (x : RecordedTransfer) (e : RecordedEnd) → is_in x.ep ≡ false → x.end ≡ e
    → answers_of size x ≡ replicate (acknowledged_by e (full_packets x.zero_packet x.asked size) (x.moved / size)) Ack ++ option_to_list (last_written e)
unfolding answers_of
answers_written size x e outward is =
    rw outward (ap (λ z. replicate (acknowledged_by z (full_packets x.zero_packet x.asked size) (x.moved / size)) Ack ++ option_to_list (last_written z)) is)

-- the same, of this request
pub same_count : (request : Request) (size : ℕ) (x : RecordedTransfer) (bytes : List ℕ) → length bytes ≡ x.asked → adds_zero_packet request ≡ x.zero_packet
    → full_packets x.zero_packet x.asked size ≡ front_count request size bytes
same_count request size x bytes long zeros = ap (λ z. full_packets z x.asked size) (sym zeros) ∙ ap (λ n. full_packets (adds_zero_packet request) n size) (sym long)

-- a fault behind whole packets
fault : (request : Request) (size : ℕ) (x : RecordedTransfer) (errno : Errno) (bytes : List ℕ) (y : Response) (code : ℕ) → 0 < size → request.body ≡ Out bytes → length bytes ≡ x.asked
    → adds_zero_packet request ≡ x.zero_packet → MovedWhole size x.asked x.moved
    → answers_of size x ≡ replicate (min (full_packets x.zero_packet x.asked size) (x.moved / size)) Ack ++ y ∷ []
    → ((ps : List (List ℕ)) → next_of request size (Out bytes) (open_with ps) y ≡ Some (ended_with ps code))
    → recorded code (is_short_not_ok request) x.asked x.moved ≡ errno
    → IsToldAgain request size x errno []
fault request size x errno bytes y code some is long zeros w answers next status =
    told request size x errno [] (replicate k Ack) y (open_with ps) (ended_with ps code) code same (open_write request size k bytes is before) refl
    (next_write request size k bytes y some is before ∙ next ps) refl
    (ap (λ b. bytes_read b (ended_with ps code)) is) moved status
  where
    k : ℕ
    k = x.moved / size

    ps : List (List ℕ)
    ps = front_packets size k bytes

    held : x.moved / size * size ≡ x.moved
    held = whole x.moved size some w.whole

    few : (x.moved ≡ 0) ⊎ (x.moved < x.asked) → x.moved / size ≤ front_count request size bytes
    few (inl none) = omega (arith, div-le_self x.moved size, none)
    few (inr less) = before_last (adds_zero_packet request) (length bytes) size (x.moved / size) some (omega (arith, held, less, long))

    before : k ≤ front_count request size bytes
    before = few w.room

    fits : (x.moved ≡ 0) ⊎ (x.moved < x.asked) → x.moved ≤ x.asked
    fits (inl none) = omega (arith, none)
    fits (inr less) = omega (arith, less)

    least : min (full_packets x.zero_packet x.asked size) (x.moved / size) ≡ k
    least = omega (arith, same_count request size x bytes long zeros, before)

    same : answers_of size x ≡ replicate k Ack ++ y ∷ []
    same = answers ∙ ap (λ j. replicate j Ack ++ y ∷ []) least

    moved : length (concat ps) ≡ x.moved
    moved =
        let product : length ps * size ≡ k * size = ap (λ j. j * size) (many size k bytes) in
        omega (arith, full_count size ps (full size k bytes (omega (arith, held, fits w.room, long))), product, held)

-- all of it
all_written : (request : Request) (size : ℕ) (x : RecordedTransfer) (bytes : List ℕ) → 0 < size → is_in x.ep ≡ false → request.body ≡ Out bytes → length bytes ≡ x.asked
    → adds_zero_packet request ≡ x.zero_packet → x.end ≡ Done → x.moved ≡ x.asked
    → IsToldAgain request size x Success []
all_written request size x bytes some outward is long zeros end done =
    told request size x Success [] (replicate f Ack) Ack (open_with ps) (ended_with all 1) 1 same (open_write request size f bytes is (omega arith)) refl
    (next_write request size f bytes Ack some is (omega arith) ∙ ap Some next) refl
    (ap (λ b. bytes_read b (ended_with all 1)) is) moved
    (of_success (is_short_not_ok request) x.asked x.moved (all_moved (is_short_not_ok request) x.asked x.moved (omega (arith, done))))
  where
    f : ℕ
    f = front_count request size bytes

    ps : List (List ℕ)
    ps = front_packets size f bytes

    all : List (List ℕ)
    all = packets_by request size (Out bytes)

    next : sent_next all (length ps) ≡ ended_with all 1
    next =
        let last : (length ps + 1 == length all) ≡ true = eq-eqb (length ps + 1) (length all) (omega (arith, many size f bytes, count_all request size bytes)) in
        rw last refl

    same : answers_of size x ≡ replicate f Ack ++ Ack ∷ []
    same = answers_written size x Done outward end ∙ (append-nil _ ∙ (ap (λ j. replicate (j + 1) Ack) (same_count request size x bytes long zeros) ∙ ack_more f))

    moved : length (concat all) ≡ x.moved
    moved = ap (λ l. length (concat l)) (all_are request size bytes) ∙ (ap length (joined size (suc f) bytes (enough (adds_zero_packet request) (length bytes) size some)) ∙ (long ∙ sym done))

pub writes_again : WritesAreToldAgain
writes_again request size x Success bytes some outward is long zeros end can = all_written request size x bytes some outward is long zeros end can
writes_again request size x Pipe bytes some outward is long zeros end can =
    fault request size x Pipe bytes Stall 6 some is long zeros can (answers_written size x Stalled outward end) (λ ps. refl) (of_stall (is_short_not_ok request) x.asked x.moved)
writes_again request size x Protocol bytes some outward is long zeros end can =
    fault request size x Protocol bytes Broken 4 some is long zeros can (answers_written size x Failed outward end) (λ ps. refl) (of_failure (is_short_not_ok request) x.asked x.moved)
writes_again request size x Overflow bytes some outward is long zeros end can = absurd can
writes_again request size x NoEntry bytes some outward is long zeros end can = absurd can
writes_again request size x Shutdown bytes some outward is long zeros end can = absurd can
writes_again request size x InProgress bytes some outward is long zeros end can = absurd can
writes_again request size x RemoteIo bytes some outward is long zeros end can = absurd can
