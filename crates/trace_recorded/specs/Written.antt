-- The answers of a recorded transfer, each with what was written for it.
use Rattle.std.specs.Prelude.{ℕ, suc, zero, ◌-◌, min, nat_le, List, [], ◌∷◌, ◌++◌, length, take, drop, map, if◌then◌else◌}
use Rattle.std.specs.Option.{option_to_list}
use Rattle.usb_model.specs.declared.response.Response.{Response}
use Rattle.usb_model.specs.declared.response.Response.TheVariants.{Ack}
use Rattle.usb_model.specs.Setup.{is_in}
use Rattle.trace_recorded.specs.declared.answer.RecordedAnswer.{RecordedAnswer}
use Rattle.trace_recorded.specs.declared.answer.RecordedAnswer.TheVariants.{Given, Taken}
use Rattle.trace_recorded.specs.declared.answer.WrittenBytes.{WrittenBytes}
use Rattle.trace_recorded.specs.declared.transfer.RecordedTransfer.{RecordedTransfer}
use Rattle.trace_recorded.specs.Answers.{answers_in, last_written, packets_acknowledged}

-- what is known of the first so many bytes that were written, by those that were recorded
abbrev pub written_bytes : ℕ → List ℕ → WrittenBytes
written_bytes count bytes = record { bytes = take count bytes; is_whole = nat_le count (length bytes) }

-- the first so many packets of this size, of a write of so many bytes; behind these they are empty
abbrev pub written_packets : ℕ → ℕ → ℕ → List ℕ → List RecordedAnswer
written_packets size zero asked bytes = []
written_packets size (suc k) asked bytes = Taken (written_bytes (min size asked) bytes) ∷ written_packets size k (asked - size) (drop size bytes)

-- the answers of a transfer, at an endpoint of this packet size: each packet of a write that was acknowledged is told with its bytes
unfoldable pub recorded_answers : ℕ → RecordedTransfer → List RecordedAnswer
recorded_answers size x =
    if is_in x.ep then map Given (answers_in size x)
    else written_packets size (packets_acknowledged size x) x.asked x.bytes ++ map Given (option_to_list (last_written x.end))

-- an answer alone
abbrev pub response_of : RecordedAnswer → Response
response_of (Given response) = response
response_of (Taken written) = Ack
