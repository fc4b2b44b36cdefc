-- A recorded read, made again.
use Rattle.std.proofs.Common.{◌≡◌, ℕ, suc, ◌+◌, ◌-◌, ◌*◌, ◌/◌, ◌<◌, ◌≤◌, ◌==◌, ◌⊎◌, inl, inr, min, Bool, true, false, ◌&&◌, List, [], ◌∷◌, ◌++◌, length, map, Some, refl, ap, sym, ◌∙◌, append-nil, arith}
use Rattle.std.specs.Prelude.{nat_lt, replicate}
use Rattle.std.specs.List.{concat}
use Rattle.std.specs.Option.{option_to_list}
use Rattle.std.proofs.lemmas.Bool.{lt-ltb, le-ltb, eq-eqb, ne_eqb, ltb-true, ltb-false}
use Rattle.std.proofs.lemmas.List.{map-append, length-replicate}
use Rattle.std.proofs.lemmas.Nat.{le-div}
use Rattle.std.proofs.Math.Nat.{div-mul-le_self, div-le_self}
use Rattle.usb_model.specs.declared.response.Response.{Response}
use Rattle.usb_model.specs.declared.response.Response.TheVariants.{Data, Stall, Broken}
use Rattle.usb_model.specs.declared.request.Body.TheVariants.{In}
use Rattle.usb_model.specs.declared.request.Request.{Request}
use Rattle.usb_model.specs.Requests.{is_short_not_ok}
use Rattle.usb_model.specs.Setup.{is_in}
use Rattle.usb_model.specs.Endpoint.{bytes_read}
use Rattle.usb_model.specs.Endpoint.Packets.{open_with, ended_with, moved_by, outcome, without_naks}
use Rattle.proof_model.proofs.Shares.Outcome.{outcome_is}
use Rattle.proof_model.proofs.Shares.OpenShares.{AllFull, open_if_whole}
use Rattle.proof_model.proofs.Shares.More.{next_of, read_next, one_more}
use Rattle.trace_capture.specs.declared.errno.Errno.{Errno}
use Rattle.trace_capture.specs.declared.errno.Errno.TheVariants.{Success, NoEntry, Pipe, Protocol, Overflow, Shutdown, InProgress, RemoteIo}
use Rattle.trace_recorded.specs.declared.transfer.RecordedEnd.{RecordedEnd}
use Rattle.trace_recorded.specs.declared.transfer.RecordedEnd.TheVariants.{Done, Stalled, Failed, TooLong}
use Rattle.trace_recorded.specs.declared.transfer.RecordedTransfer.{RecordedTransfer}
use Rattle.trace_recorded.specs.Answers.{answers_of, front_packets, recorded_bytes, packets_by, last_by, room_behind}
use Rattle.trace_recorded.specs.Laws.{IsToldAgain, MovedWhole, ReadsAreToldAgain}
use Rattle.trace_recorded.proofs.FrontPackets.{many, joined, full, last, length_recorded, above, whole}
use Rattle.trace_recorded.proofs.Told.{recorded, of_stall, of_failure, of_babble, of_success, of_short, of_too_short, all_moved, told}

-- packets have no naks
no_naks : (ps : List (List ℕ)) → without_naks (map Data ps) ≡ map Data ps
no_naks [] = refl
no_naks (p ∷ ps) = ap (λ l. Data p ∷ l) (no_naks ps)

-- whole packets that leave room are an open share
open_read : (request : Request) (n size : ℕ) (ps : List (List ℕ)) → request.body ≡ In n → AllFull size ps → length ps ≤ (n - 1) / size → outcome request size (map Data ps) false ≡ Some (open_with ps)
open_read request n size ps is f room =
    outcome_is request size (map Data ps)
    ∙ (ap (λ b. moved_by request size b (without_naks (map Data ps))) is
    ∙ (ap (moved_by request size (In n)) (no_naks ps)
    ∙ open_if_whole request size (In n) (map Data ps) ps (record { answers = refl; full = f; room = room })))

-- and with one answer more
next_read : (request : Request) (n size : ℕ) (ps : List (List ℕ)) (y : Response) → 0 < size → request.body ≡ In n → AllFull size ps → length ps ≤ (n - 1) / size
    → outcome request size (map Data ps ++ y ∷ []) false ≡ next_of request size (In n) (open_with ps) y
next_read request n size ps y some is f room =
    one_more request size (map Data ps) y (open_with ps) some (open_read request n size ps is f room) refl ∙ ap (λ b. next_of request size b (open_with ps) y) is

-- the answers of a read that ended so
answers_read : (size : ℕ) (x : RecordedTransfer) (e : RecordedEnd) → is_in x.ep ≡ true → x.end ≡ e
    → answers_of size x ≡ map Data (front_packets size (packets_by e size x.asked x.moved) (recorded_bytes x)) ++ option_to_list (last_by e size (room_behind size x))
unfolding answers_of
answers_read size x e inward is =
    rw inward (ap (λ z. map Data (front_packets size (packets_by z size x.asked x.moved) (recorded_bytes x)) ++ option_to_list (last_by z size (room_behind size x))) is)

-- a fault behind whole packets
fault : (request : Request) (size : ℕ) (x : RecordedTransfer) (errno : Errno) (y : Response) (code : ℕ) → 0 < size → request.body ≡ In x.asked → MovedWhole size x.asked x.moved
    → answers_of size x ≡ map Data (front_packets size (x.moved / size) (recorded_bytes x)) ++ y ∷ []
    → next_of request size (In x.asked) (open_with (front_packets size (x.moved / size) (recorded_bytes x))) y ≡ Some (ended_with (front_packets size (x.moved / size) (recorded_bytes x)) code)
    → recorded code (is_short_not_ok request) x.asked x.moved ≡ errno
    → IsToldAgain request size x errno (recorded_bytes x)
fault request size x errno y code some is w same next status =
    told request size x errno (recorded_bytes x) (map Data ps) y (open_with ps) (ended_with ps code) code same (open_read request x.asked size ps is all_full room) refl
    (next_read request x.asked size ps y some is all_full room ∙ next) refl
    (ap (λ b. bytes_read b (ended_with ps code)) is ∙ all) (ap length all ∙ length_recorded x) status
  where
    ps : List (List ℕ)
    ps = front_packets size (x.moved / size) (recorded_bytes x)

    held : x.moved / size * size ≡ x.moved
    held = whole x.moved size some w.whole

    all_full : AllFull size ps
    all_full = full size (x.moved / size) (recorded_bytes x) (omega (arith, held, length_recorded x))

    all : concat ps ≡ recorded_bytes x
    all = joined size (x.moved / size) (recorded_bytes x) (omega (arith, held, length_recorded x))

    few : (x.moved ≡ 0) ⊎ (x.moved < x.asked) → x.moved / size ≤ (x.asked - 1) / size
    few (inl none) = omega (arith, div-le_self x.moved size, none)
    few (inr less) = le-div (x.moved / size) (x.asked - 1) size some (omega (arith, held, less))

    room : length ps ≤ (x.asked - 1) / size
    room = omega (arith, many size (x.moved / size) (recorded_bytes x), few w.room)

-- a packet that is too long behind them
too_long : (n size : ℕ) (ps : List (List ℕ)) (zs : List ℕ) (k room : ℕ) → length ps ≡ k → room ≡ n - k * size → length zs ≡ min room size + 1 → read_next n size ps zs ≡ ended_with ps 3
too_long n size ps zs k room count is more =
    let same : length ps * size ≡ k * size = ap (λ j. j * size) count in
    let long : nat_lt (min size (n - length ps * size)) (length zs) ≡ true = lt-ltb (min size (n - length ps * size)) (length zs) (omega (arith, same, is, more)) in
    rw long refl

-- a last packet that makes up what was asked for, and one that is short
makes_up : (n size : ℕ) (ps : List (List ℕ)) (b : List ℕ) → length b ≤ size → length ps * size + length b ≡ n → read_next n size ps b ≡ ended_with (ps ++ b ∷ []) 1
makes_up n size ps b fits all =
    let p : nat_lt (min size (n - length ps * size)) (length b) ≡ false = le-ltb (min size (n - length ps * size)) (length b) (omega (arith, fits, all)) in
    rw (p, eq-eqb (length ps * size + length b) n all) refl

is_short : (n size : ℕ) (ps : List (List ℕ)) (b : List ℕ) → length b < size → length ps * size + length b < n → read_next n size ps b ≡ ended_with (ps ++ b ∷ []) 13
is_short n size ps b short less =
    let p : nat_lt (min size (n - length ps * size)) (length b) ≡ false = le-ltb (min size (n - length ps * size)) (length b) (omega (arith, short, less)) in
    let q : (length ps * size + length b == n) ≡ false = ne_eqb (length ps * size + length b) n (λ z. omega (arith, z, less)) in
    rw (p, q, lt-ltb (length b) size short) refl

-- a last packet behind k whole ones
done : (request : Request) (size k : ℕ) (x : RecordedTransfer) (errno : Errno) (code : ℕ) → 0 < size → request.body ≡ In x.asked
    → k * size ≤ x.moved → x.moved ≤ suc k * size → k ≤ (x.asked - 1) / size
    → answers_of size x ≡ map Data (front_packets size (suc k) (recorded_bytes x)) ++ []
    → ((b : List ℕ) → length b ≤ size → k * size + length b ≡ x.moved → read_next x.asked size (front_packets size k (recorded_bytes x)) b ≡ ended_with (front_packets size k (recorded_bytes x) ++ b ∷ []) code)
    → recorded code (is_short_not_ok request) x.asked x.moved ≡ errno
    → IsToldAgain request size x errno (recorded_bytes x)
done request size k x errno code some is least most few answers next status =
    told request size x errno (recorded_bytes x) (map Data ps) (Data b) (open_with ps) (ended_with (ps ++ b ∷ []) code) code same (open_read request x.asked size ps is all_full room) refl
    (next_read request x.asked size ps (Data b) some is all_full room ∙ ap Some (next b (omega (arith, end.2)) exact)) refl
    (ap (λ z. bytes_read z (ended_with (ps ++ b ∷ []) code)) is ∙ all) (ap length all ∙ length_recorded x) status
  where
    ps : List (List ℕ)
    ps = front_packets size k (recorded_bytes x)

    end : (b : List ℕ) × (front_packets size (suc k) (recorded_bytes x) ≡ front_packets size k (recorded_bytes x) ++ b ∷ []) × (length b ≡ min size (length (recorded_bytes x) - k * size))
    end = last size k (recorded_bytes x)

    b : List ℕ
    b = end.0

    product : suc k * size ≡ k * size + size
    product = omega arith

    exact : k * size + length b ≡ x.moved
    exact = omega (arith, end.2, length_recorded x, least, most, product)

    all_full : AllFull size ps
    all_full = full size k (recorded_bytes x) (omega (arith, least, length_recorded x))

    all : concat (ps ++ b ∷ []) ≡ recorded_bytes x
    all = ap concat (sym end.1) ∙ joined size (suc k) (recorded_bytes x) (omega (arith, most, length_recorded x))

    room : length ps ≤ (x.asked - 1) / size
    room = omega (arith, many size k (recorded_bytes x), few)

    same : answers_of size x ≡ map Data ps ++ Data b ∷ []
    same = answers ∙ append-nil (map Data (front_packets size (suc k) (recorded_bytes x))) ∙ ap (map Data) end.1 ∙ map-append Data ps (b ∷ [])

-- a short read
short_read : (request : Request) (size : ℕ) (x : RecordedTransfer) (errno : Errno) → 0 < size → is_in x.ep ≡ true → request.body ≡ In x.asked → x.end ≡ Done → x.moved < x.asked
    → recorded 13 (is_short_not_ok request) x.asked x.moved ≡ errno
    → IsToldAgain request size x errno (recorded_bytes x)
short_read request size x errno some inward is end less status =
    let k : ℕ = x.moved / size in
    let low : k * size ≤ x.moved = div-mul-le_self x.moved size in
    let high : x.moved < suc k * size = above x.moved size some in
    let product : suc k * size ≡ k * size + size = omega arith in
    let count : packets_by Done size x.asked x.moved ≡ suc k = rw (lt-ltb x.moved x.asked less) refl in
    let packets = many size k (recorded_bytes x) in
    let before : length (front_packets size k (recorded_bytes x)) * size ≡ k * size = ap (λ j. j * size) packets in
    done request size k x errno 13 some is low (omega (arith, high)) (le-div k (x.asked - 1) size some (omega (arith, low, less)))
    (answers_read size x Done inward end ∙ ap (λ j. map Data (front_packets size j (recorded_bytes x)) ++ []) count)
    (λ b fits exact. is_short x.asked size (front_packets size k (recorded_bytes x)) b (omega (arith, exact, high, product)) (omega (arith, exact, before, less)))
    status

-- a read of all that was asked for
whole_read : (request : Request) (size : ℕ) (x : RecordedTransfer) → 0 < size → is_in x.ep ≡ true → request.body ≡ In x.asked → x.end ≡ Done → x.moved ≡ x.asked
    → IsToldAgain request size x Success (recorded_bytes x)
whole_read request size x some inward is end all =
    let k : ℕ = (x.moved - 1) / size in
    let low : k * size ≤ x.moved - 1 = div-mul-le_self (x.moved - 1) size in
    let high : x.moved - 1 < suc k * size = above (x.moved - 1) size some in
    let count : packets_by Done size x.asked x.moved ≡ suc k = rw (le-ltb x.moved x.asked (omega (arith, all))) refl in
    let packets = many size k (recorded_bytes x) in
    let before : length (front_packets size k (recorded_bytes x)) * size ≡ k * size = ap (λ j. j * size) packets in
    done request size k x Success 1 some is (omega (arith, low)) (omega (arith, high)) (le-div k (x.asked - 1) size some (omega (arith, low, all)))
    (answers_read size x Done inward end ∙ ap (λ j. map Data (front_packets size j (recorded_bytes x)) ++ []) count)
    (λ b fits exact. makes_up x.asked size (front_packets size k (recorded_bytes x)) b fits (omega (arith, exact, before, all)))
    (of_success (is_short_not_ok request) x.asked x.moved (all_moved (is_short_not_ok request) x.asked x.moved (omega (arith, all))))

-- fewer bytes than were asked for are no error, where they end well
no_error : (strict : Bool) (asked moved : ℕ) → (strict ≡ true → moved ≡ asked) → moved < asked → strict && nat_lt moved asked ≡ false
no_error true asked moved e less = absurd (omega (arith, e refl, less))
no_error false asked moved e less = refl

is_error : (strict : Bool) (asked moved : ℕ) → strict ≡ true → moved < asked → strict && nat_lt moved asked ≡ true
is_error strict asked moved e less = rw (e, lt-ltb moved asked less) refl

pub reads_again : ReadsAreToldAgain
reads_again request size x Success some inward is end can = by_test (nat_lt x.moved x.asked) refl
  where
    by_test : (t : Bool) → nat_lt x.moved x.asked ≡ t → IsToldAgain request size x Success (recorded_bytes x)
    by_test true t =
        let less : x.moved < x.asked = ltb-true x.moved x.asked t in
        short_read request size x Success some inward is end less (of_short (is_short_not_ok request) x.asked x.moved (no_error (is_short_not_ok request) x.asked x.moved can.1 less))
    by_test false t = whole_read request size x some inward is end (omega (arith, ltb-false x.moved x.asked t, can.0))
reads_again request size x RemoteIo some inward is end can =
    short_read request size x RemoteIo some inward is end can.0 (of_too_short (is_short_not_ok request) x.asked x.moved (is_error (is_short_not_ok request) x.asked x.moved can.1 can.0))
reads_again request size x Pipe some inward is end can =
    fault request size x Pipe Stall 6 some is can (answers_read size x Stalled inward end) refl (of_stall (is_short_not_ok request) x.asked x.moved)
reads_again request size x Protocol some inward is end can =
    fault request size x Protocol Broken 4 some is can (answers_read size x Failed inward end) refl (of_failure (is_short_not_ok request) x.asked x.moved)
reads_again request size x Overflow some inward is end can =
    let k : ℕ = x.moved / size in
    let zeros : List ℕ = replicate (min (room_behind size x) size + 1) 0 in
    fault request size x Overflow (Data zeros) 3 some is can (answers_read size x TooLong inward end)
    (ap Some (too_long x.asked size (front_packets size k (recorded_bytes x)) zeros k (room_behind size x) (many size k (recorded_bytes x)) refl (length-replicate {A = ℕ} (min (room_behind size x) size + 1) 0)))
    (of_babble (is_short_not_ok request) x.asked x.moved)
reads_again request size x NoEntry some inward is end can = absurd can
reads_again request size x Shutdown some inward is end can = absurd can
reads_again request size x InProgress some inward is end can = absurd can
