-- The answers of a transfer are those that are told with what was written, and that is what a device sees of the same write.
use Rattle.std.proofs.Common.{◌≡◌, ℕ, zero, suc, ◌+◌, ◌-◌, ◌≤◌, ◌/◌, min, Bool, true, false, List, [], ◌∷◌, ◌++◌, length, take, drop, map, refl, ap, ap₂, sym, ◌∙◌, length-drop, arith}
use Rattle.std.specs.Prelude.{nat_le, replicate}
use Rattle.std.specs.Option.{option_to_list}
use Rattle.std.proofs.lemmas.Bool.{le-leb}
use Rattle.std.proofs.lemmas.List.{map-append, take_min}
use Rattle.usb_model.specs.declared.response.Response.{Response}
use Rattle.usb_model.specs.declared.response.Response.TheVariants.{Ack}
use Rattle.usb_model.specs.declared.request.Body.TheVariants.{Out}
use Rattle.usb_model.specs.declared.request.Request.{Request}
use Rattle.usb_model.specs.Requests.{adds_zero_packet}
use Rattle.usb_model.specs.Setup.{is_in}
use Rattle.usb_model.specs.Endpoint.Packets.{full_packets, packets_by}
use Rattle.trace_recorded.specs.declared.answer.RecordedAnswer.{RecordedAnswer}
use Rattle.trace_recorded.specs.declared.answer.RecordedAnswer.TheVariants.{Given, Taken}
use Rattle.trace_recorded.specs.declared.transfer.RecordedEnd.{RecordedEnd}
use Rattle.trace_recorded.specs.declared.transfer.RecordedEnd.TheVariants.{Done, Stalled, Failed, TooLong, Withdrawn, Cut}
use Rattle.trace_recorded.specs.declared.transfer.RecordedTransfer.{RecordedTransfer}
use Rattle.trace_recorded.specs.Answers.{acknowledged_by, answers_in, answers_of, front_packets, last_written, packets_acknowledged}
use Rattle.trace_recorded.specs.Written.{recorded_answers, response_of, written_packets}
use Rattle.trace_recorded.specs.Laws.{AnswersAreThose, PacketsAreWritten, is_taken}
use Rattle.trace_recorded.proofs.FrontPackets.{first}
use Rattle.trace_recorded.proofs.WrittenAgain.{all_are, front_count, same_count}

given_alone : (script : List Response) → map response_of (map Given script) ≡ script
given_alone [] = refl
given_alone (r ∷ rs) = ap (λ l. r ∷ l) (given_alone rs)

taken_alone : (size k asked : ℕ) (bytes : List ℕ) → map response_of (written_packets size k asked bytes) ≡ replicate k Ack
taken_alone size zero asked bytes = refl
taken_alone size (suc k) asked bytes = ap (λ l. Ack ∷ l) (taken_alone size k (asked - size) (drop size bytes))

read_alone : (size : ℕ) (x : RecordedTransfer) → is_in x.ep ≡ true → map response_of (recorded_answers size x) ≡ answers_of size x
unfolding recorded_answers answers_of
read_alone size x inward = rw inward (given_alone (answers_in size x))

written_alone : (size : ℕ) (x : RecordedTransfer) → is_in x.ep ≡ false → map response_of (recorded_answers size x) ≡ answers_of size x
unfolding recorded_answers answers_of
written_alone size x outward =
    rw outward (
    map-append response_of (written_packets size (packets_acknowledged size x) x.asked x.bytes) (map Given (option_to_list (last_written x.end)))
    ∙ ap₂ (λ l k. l ++ k) (taken_alone size (packets_acknowledged size x) x.asked x.bytes) (given_alone (option_to_list (last_written x.end))))

pub answers_are_those : AnswersAreThose
answers_are_those size x = by_test (is_in x.ep) refl
  where
    by_test : (b : Bool) → is_in x.ep ≡ b → map response_of (recorded_answers size x) ≡ answers_of size x
    by_test true e = read_alone size x e
    by_test false e = written_alone size x e

-- of bytes that were recorded to their end each packet is
all_taken : (size k n : ℕ) (bytes : List ℕ) → n ≡ length bytes → written_packets size k n bytes ≡ map is_taken (front_packets size k bytes)
all_taken size zero n bytes all = refl
all_taken size (suc k) n bytes all =
    let held : nat_le (min size n) (length bytes) ≡ true = le-leb (min size n) (length bytes) (omega (arith, all)) in
    let front : take (min size n) bytes ≡ take size bytes = ap (λ i. take (min size i) bytes) all ∙ take_min size bytes in
    let rest : n - size ≡ length (drop size bytes) = omega (arith, all, length-drop size bytes) in
    ap₂ (λ w l. Taken w ∷ l) (ap₂ (λ p h. record { bytes = p; is_whole = h }) front held) (all_taken size k (n - size) (drop size bytes) rest)

-- no more than there are
few : (end : RecordedEnd) (before_last whole : ℕ) → acknowledged_by end before_last whole ≤ suc before_last
few Done before_last whole = omega arith
few Stalled before_last whole = omega arith
few Failed before_last whole = omega arith
few TooLong before_last whole = omega arith
few Withdrawn before_last whole = omega arith
few Cut before_last whole = omega arith

first_are : (request : Request) (size k : ℕ) (bytes : List ℕ) → k ≤ suc (front_count request size bytes) → front_packets size k bytes ≡ take k (packets_by request size (Out bytes))
first_are request size k bytes less = sym (ap (take k) (all_are request size bytes) ∙ first size k (suc (front_count request size bytes)) bytes less)

written_as : (size : ℕ) (x : RecordedTransfer) (packets : List (List ℕ)) → is_in x.ep ≡ false → written_packets size (packets_acknowledged size x) x.asked x.bytes ≡ map is_taken packets
    → recorded_answers size x ≡ map is_taken packets ++ map Given (option_to_list (last_written x.end))
unfolding recorded_answers
written_as size x packets outward are = rw outward (ap (λ l. l ++ map Given (option_to_list (last_written x.end))) are)

pub packets_are_written : PacketsAreWritten
packets_are_written request size x outward is long zeros =
    let less : packets_acknowledged size x ≤ suc (front_count request size x.bytes) =
    omega (arith, few x.end (full_packets x.zero_packet x.asked size) (x.moved / size), same_count request size x x.bytes long zeros) in
    written_as size x (take (packets_acknowledged size x) (packets_by request size (Out x.bytes))) outward
    (all_taken size (packets_acknowledged size x) x.asked x.bytes (sym long) ∙ ap (map is_taken) (first_are request size (packets_acknowledged size x) x.bytes less))
