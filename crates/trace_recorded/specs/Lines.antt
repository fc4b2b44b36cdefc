-- Lines of the text that is made of a recording: what is left out or unsaid, and scripts.
use Rattle.std.specs.Prelude.{ℕ, zero, suc, ◌+◌, ◌/◌, ◌%◌, ◌==◌, nat_lt, Bool, true, false, List, [], ◌∷◌, ◌++◌, length, codes, Option, Some, None, Result, Ok, Err, if◌then◌else◌}
use Rattle.std.specs.Fmt.{decimal}
use Rattle.std.specs.List.{flat_map}
use Rattle.hex.specs.Hex.{encode_lower}
use Rattle.usb_model.specs.declared.response.Response.{Response}
use Rattle.usb_model.specs.declared.response.Response.TheVariants.{Data, Ack, Nak, Stall, Broken}
use Rattle.usb_model.specs.Limits.{longest_script, most_bytes}
use Rattle.usb_model.specs.Text.{hex_byte}
use Rattle.trace_recorded.specs.declared.answer.RecordedAnswer.{RecordedAnswer}
use Rattle.trace_recorded.specs.declared.answer.RecordedAnswer.TheVariants.{Given, Taken}
use Rattle.trace_recorded.specs.declared.answer.WrittenBytes.{WrittenBytes}
use Rattle.trace_faults.specs.declared.device_ids.DeviceIds.{DeviceIds}
use Rattle.trace_recorded.specs.declared.endpoint.RecordedEndpoint.{RecordedEndpoint}
use Rattle.trace_recorded.specs.declared.left_out.LeftOut.{LeftOut}
use Rattle.trace_recorded.specs.declared.left_out.LeftOut.TheVariants.{NoConfiguration, Refused, Hub, NoAnswers, FifthDevice}
use Rattle.trace_recorded.specs.declared.device.OtherTransfer.{OtherTransfer}
use Rattle.trace_recorded.specs.declared.note.EndpointNote.{EndpointNote}
use Rattle.trace_recorded.specs.declared.note.EndpointNote.TheVariants.{Lost, TooLong, TooLarge, Requests, TooMany, Others}
use Rattle.trace_recorded.specs.declared.note.Noted.{Noted}
use Rattle.trace_faults.specs.CaptureFaults.{ids_text}
use Rattle.trace_recorded.specs.Endpoints.{no_note, with_noted}
use Rattle.trace_recorded.specs.Folds.{after}
use Rattle.trace_recorded.specs.Requests.{most_data}

-- why a device is left out
abbrev pub left_out_text : LeftOut → List ℕ
left_out_text NoConfiguration = codes "no configuration descriptor"
left_out_text Refused = codes "its configuration descriptor is refused"
left_out_text Hub = codes "a hub"
left_out_text NoAnswers = codes "no answers"
left_out_text FifthDevice = codes "the fifth device"

-- the packet that has the first of something
abbrev pub first_in : ℕ → List ℕ
first_in frame = codes " (first in frame " ++ (decimal frame ++ codes ")")

-- the ids that a device says itself, where they were read
abbrev pub said_ids : Option DeviceIds → List ℕ
said_ids None = []
said_ids (Some ids) = codes " (" ++ (ids_text ids ++ codes ")")

-- the line of a device that is left out, of which the first packet has this number
abbrev pub left_out_line : ℕ → Option DeviceIds → ℕ → LeftOut → List ℕ
left_out_line key ids frame why =
    codes "# bus " ++ (decimal (key / 256) ++ (codes " device " ++ (decimal (key % 256) ++ (said_ids ids ++ (codes " is left out: " ++ (left_out_text why ++ (codes " (first in frame " ++ (decimal frame ++ codes ")\n"))))))))

-- what an endpoint's script leaves unsaid
abbrev pub note_text : EndpointNote → List ℕ
note_text (Lost n) = decimal n.count ++ (codes " bytes were not recorded; they are 00 here" ++ first_in n.frame)
note_text (TooLong n) = decimal n.count ++ (codes " packets were too long; their bytes are 00 here" ++ first_in n.frame)
note_text (TooLarge n) = decimal n.count ++ (codes " transfers of more than " ++ (decimal most_bytes ++ (codes " bytes are left out" ++ first_in n.frame)))
note_text (Requests n) = decimal n.count ++ (codes " requests of more than " ++ (decimal most_data ++ (codes " bytes are left out" ++ first_in n.frame)))
note_text (TooMany n) = codes "the first " ++ (decimal longest_script ++ (codes " of " ++ (decimal n.count ++ (codes " answers (the next is in frame " ++ (decimal n.frame ++ codes ")")))))
note_text (Others n) = decimal n.count ++ (codes " transfers are left out: not a bulk or interrupt endpoint of this configuration" ++ first_in n.frame)

-- whether there is something to note
abbrev pub is_due : EndpointNote → Bool
is_due (Lost n) = nat_lt 0 n.count
is_due (TooLong n) = nat_lt 0 n.count
is_due (TooLarge n) = nat_lt 0 n.count
is_due (Requests n) = nat_lt 0 n.count
is_due (TooMany n) = nat_lt longest_script n.count
is_due (Others n) = nat_lt 0 n.count

abbrev pub note_line : ℕ → EndpointNote → List ℕ
note_line ep note = if is_due note then codes "# ep " ++ (hex_byte ep ++ (codes ": " ++ (note_text note ++ codes "\n"))) else []

-- the notes of an endpoint
abbrev pub endpoint_notes : RecordedEndpoint → List ℕ
endpoint_notes x = note_line x.info.address (Lost x.lost) ++ (note_line x.info.address (TooLong x.too_long) ++ (note_line x.info.address (TooLarge x.left_out) ++ note_line x.info.address (TooMany (record { count = x.count; frame = x.next }))))

-- the transfers of an endpoint among those without a script: how many, and the packet of the first
abbrev pub with_other_of : ℕ → OtherTransfer → Noted → Noted
with_other_of ep other noted = if other.ep == ep then with_noted other.frame 1 noted else noted

abbrev pub noted_of : List OtherTransfer → ℕ → Noted
noted_of others ep = after (with_other_of ep) no_note others

-- the note of transfers of an endpoint without a script
abbrev pub other_note : List OtherTransfer → ℕ → List ℕ
other_note others ep = note_line ep (Others (noted_of others ep))

-- those of the endpoints below an address
unfoldable pub other_notes : List OtherTransfer → ℕ → List ℕ
other_notes others zero = []
other_notes others (suc ep) = other_notes others ep ++ other_note others ep

-- an answer as a script has it
abbrev pub response_text : Response → List ℕ
response_text (Data bytes) = codes "d:" ++ encode_lower bytes
response_text Ack = codes "a"
response_text Nak = codes "n"
response_text Stall = codes "s"
response_text Broken = codes "b"

-- bytes that were taken: all, or those with which they begin, or none that are known
abbrev pub expected_text : List ℕ → List ℕ
expected_text bytes = codes "a:" ++ encode_lower bytes

abbrev pub taken_text : WrittenBytes → List ℕ
taken_text written =
    if written.is_whole then expected_text written.bytes
    else if length written.bytes == 0 then codes "a"
    else expected_text written.bytes ++ codes "*"

abbrev pub answer_text : RecordedAnswer → List ℕ
answer_text (Given response) = response_text response
answer_text (Taken written) = taken_text written

abbrev pub answers_text : List RecordedAnswer → List ℕ
answers_text answers = flat_map (λ answer. codes " " ++ answer_text answer) answers

-- the line of a script
abbrev pub script_head : ℕ → ℕ → List ℕ
script_head number ep = codes "script " ++ (decimal number ++ (codes " " ++ hex_byte ep))

unfoldable pub script_text : ℕ → RecordedEndpoint → List ℕ
script_text number x = script_head number x.info.address ++ (answers_text x.answers ++ codes "\n")

-- where it has answers
abbrev pub script_line : ℕ → RecordedEndpoint → List ℕ
script_line number x = if length x.answers == 0 then [] else script_text number x
