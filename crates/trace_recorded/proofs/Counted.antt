-- How many answers a transfer has.
use Rattle.std.proofs.Common.{◌≡◌, ℕ, suc, ◌+◌, Bool, true, false, List, ◌++◌, length, map, Some, None, refl, ap, sym, ◌∙◌, arith}
use Rattle.std.specs.Prelude.{replicate}
use Rattle.std.specs.Option.{option_to_list}
use Rattle.std.proofs.lemmas.List.{length-append, length-map, length-replicate}
use Rattle.usb_model.specs.declared.response.Response.TheVariants.{Data, Ack}
use Rattle.usb_model.specs.Setup.{is_in}
use Rattle.trace_recorded.specs.declared.transfer.RecordedEnd.{RecordedEnd}
use Rattle.trace_recorded.specs.declared.transfer.RecordedEnd.TheVariants.{Done, Stalled, Failed, TooLong, Withdrawn, Cut}
use Rattle.trace_recorded.specs.declared.transfer.RecordedTransfer.{RecordedTransfer}
use Rattle.trace_recorded.specs.Answers.{answers_of, answers_in, answers_out, front_packets, recorded_bytes, packets_read, packets_acknowledged, last_by, last_read, last_written, last_reads, last_writes, room_behind}
use Rattle.trace_recorded.proofs.FrontPackets.{many}

-- what stands behind is one answer or none, whatever its size
one_last : (end : RecordedEnd) (size room : ℕ) → length (option_to_list (last_by end size room)) ≡ last_reads end
one_last Done size room = refl
one_last Stalled size room = refl
one_last Failed size room = refl
one_last TooLong size room = refl
one_last Withdrawn size room = refl
one_last Cut size room = refl

pub count_read : (size : ℕ) (x : RecordedTransfer) → is_in x.ep ≡ true → packets_read size x + last_reads x.end ≡ length (answers_of size x)
unfolding answers_of
count_read size x inward =
    let packets : length (map Data (front_packets size (packets_read size x) (recorded_bytes x))) ≡ packets_read size x =
    length-map (front_packets size (packets_read size x) (recorded_bytes x)) Data ∙ many size (packets_read size x) (recorded_bytes x) in
    rw inward (omega (arith, packets, one_last x.end size (room_behind size x), length-append (map Data (front_packets size (packets_read size x) (recorded_bytes x))) (option_to_list (last_read size x))))

pub count_written : (size : ℕ) (x : RecordedTransfer) → is_in x.ep ≡ false → packets_acknowledged size x + last_writes x.end ≡ length (answers_of size x)
unfolding answers_of
count_written size x outward =
    rw outward (omega (arith, length-replicate (packets_acknowledged size x) Ack, length-append (replicate (packets_acknowledged size x) Ack) (option_to_list (last_written x.end))))
