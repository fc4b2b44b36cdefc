-- The control requests of a recorded device, and what it answered (USB 2.0, 9.3 and 9.4).
use Rattle.std.specs.Prelude.{ℕ, ◌+◌, ◌-◌, ◌*◌, ◌/◌, ◌==◌, nat_le, nat_lt, Bool, true, false, ◌&&◌, ◌||◌, List, [], ◌∷◌, ◌++◌, length, take, replicate, Option, Some, None, if◌then◌else◌}
use Rattle.std.specs.Option.{unwrap_or}
use Rattle.usb_model.specs.Limits.{longest_script}
use Rattle.usb_model.specs.declared.response.Response.TheVariants.{Data, Ack, Stall, Broken}
use Rattle.trace_capture.specs.declared.control_setup.ControlSetup.{ControlSetup}
use Rattle.trace_recorded.specs.declared.answer.RecordedAnswer.{RecordedAnswer}
use Rattle.trace_recorded.specs.declared.answer.RecordedAnswer.TheVariants.{Given, Taken}
use Rattle.trace_recorded.specs.declared.event.RecordedEvent.{RecordedEvent}
use Rattle.trace_recorded.specs.declared.event.RecordedType.{RecordedType}
use Rattle.trace_recorded.specs.declared.event.RecordedType.TheVariants.{Callback}
use Rattle.trace_recorded.specs.declared.request.RecordedRequest.{RecordedRequest}
use Rattle.trace_recorded.specs.declared.request.AnsweredRequest.{AnsweredRequest}
use Rattle.trace_recorded.specs.declared.request.AnsweredRequests.{AnsweredRequests}
use Rattle.trace_recorded.specs.declared.control_lines.ControlLines.{ControlLines}
use Rattle.trace_recorded.specs.declared.transfer.RecordedEnd.{RecordedEnd}
use Rattle.trace_recorded.specs.declared.transfer.RecordedEnd.TheVariants.{Done, Stalled, Failed}
use Rattle.trace_recorded.specs.Answers.{end_of}
use Rattle.trace_recorded.specs.Endpoints.{no_note, with_noted}
use Rattle.trace_recorded.specs.Folds.{after}
use Rattle.trace_recorded.specs.Keys.{key_of}
use Rattle.trace_recorded.specs.Tables.{value_at, with_value, without}
use Rattle.trace_recorded.specs.Written.{written_bytes}

abbrev pub is_request : ℕ → ℕ → ControlSetup → Bool
is_request kind request setup = (setup.request_type == kind) && (setup.request == request)

-- whether a request reads the descriptor of the device, of a configuration or of a string
abbrev pub reads_own : ControlSetup → Bool
reads_own setup = is_request 0x80 6 setup && (nat_le 1 (setup.value / 256) && nat_le (setup.value / 256) 3)

-- whether a host makes a request by itself: it reads a descriptor; or it is SET_CONFIGURATION, SET_INTERFACE, CLEAR_FEATURE of an endpoint, SET_ADDRESS, SET_FEATURE or CLEAR_FEATURE of the device
abbrev pub is_of_host : ControlSetup → Bool
is_of_host setup =
    reads_own setup
    || (is_request 0 9 setup || (is_request 1 11 setup || (is_request 2 1 setup || (is_request 0 5 setup || (is_request 0 3 setup || is_request 0 1 setup)))))

-- whether its data go to the host
abbrev pub reads : ControlSetup → Bool
reads setup = nat_le 128 setup.request_type

-- what a request read: bytes that weren't recorded are zeros
abbrev pub data_read : RecordedEvent → List ℕ
data_read event = take event.length event.bytes ++ replicate (event.length - length event.bytes) 0

-- the answer to a request that was done; one without data is taken, whatever it is
abbrev pub done_by : RecordedRequest → RecordedEvent → RecordedAnswer
done_by request event =
    if reads request.setup then Given (Data (data_read event))
    else if request.setup.length == 0 then Given Ack
    else Taken (written_bytes request.setup.length request.bytes)

-- the answer by how it ended: there is none where it was withdrawn, or more came than was asked for
abbrev pub answer_by : RecordedEnd → RecordedRequest → RecordedEvent → Option RecordedAnswer
answer_by Done request event = Some (done_by request event)
answer_by Stalled request event = Some (Given Stall)
answer_by Failed request event = Some (Given Broken)
answer_by _ request event = None

-- how many bytes an answer to a request may have
abbrev pub most_data : ℕ
most_data = 4096

-- whether a request moved more
abbrev pub is_too_large : RecordedRequest → RecordedEvent → Bool
is_too_large request event = nat_lt most_data (if reads request.setup then event.length else request.setup.length)

-- how many of the bytes that it read weren't recorded
abbrev pub data_lost : RecordedRequest → RecordedEvent → ℕ
data_lost request event = if reads request.setup then event.length - length event.bytes else 0

-- a request more with its answer, where there is one
abbrev pub with_answer_to : RecordedRequest → Option RecordedAnswer → RecordedEvent → AnsweredRequests → AnsweredRequests
with_answer_to request None event requests = requests
with_answer_to request (Some answer) event requests = record requests {
  answered = requests.answered ++ record { setup = request.setup; answer = answer; frame = event.frame } ∷ [];
  lost = with_noted event.frame (data_lost request event) requests.lost;
}

-- a request of a driver's ended
abbrev pub with_ended : RecordedRequest → RecordedEvent → AnsweredRequests → AnsweredRequests
with_ended request event requests =
    if is_of_host request.setup then requests
    else if is_too_large request event then record requests { left_out = with_noted event.frame 1 requests.left_out }
    else with_answer_to request (answer_by (end_of event.status) request event) event requests

abbrev pub no_requests : AnsweredRequests
no_requests = record { answered = []; lost = no_note; left_out = no_note }

-- the packet of an answer behind so many, where it is the first for which the line has no room; it has room for as many as a script
abbrev pub with_next : ℕ → ℕ → ℕ → ControlLines → ControlLines
with_next key frame count lines = if count == longest_script then record lines { next = with_value key frame lines.next } else lines

-- the first answer to such a request, or one more behind those before it
abbrev pub with_more : AnsweredRequest → Option (List RecordedAnswer) → ControlLines → ControlLines
with_more request None lines = record lines { firsts = lines.firsts ++ request.setup ∷ []; answers = with_value (key_of request.setup) (request.answer ∷ []) (without (key_of request.setup) lines.answers) }
with_more request (Some before) lines = record (with_next (key_of request.setup) request.frame (length before) lines) { answers = with_value (key_of request.setup) (before ++ request.answer ∷ []) (without (key_of request.setup) lines.answers) }

unfoldable pub with_answered : AnsweredRequest → ControlLines → ControlLines
with_answered request lines = with_more request (value_at (key_of request.setup) lines.answers) lines

abbrev pub no_lines : ControlLines
no_lines = record { firsts = []; answers = []; next = [] }

-- the packet that has the first answer for which a line has no room; 0 where there is none
abbrev pub next_of : ControlSetup → ControlLines → ℕ
next_of setup lines = unwrap_or (value_at (key_of setup) lines.next) 0

-- the answers by request, in the order in which each was first answered
abbrev pub control_lines : List AnsweredRequest → ControlLines
control_lines answered = after with_answered no_lines answered
