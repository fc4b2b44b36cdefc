-- Why a device gave no packet, and why a transfer ended.
use Rattle.std.specs.Prelude.{ℕ, ◌==◌, Bool, true, false, List, [], ◌∷◌, ◌++◌, Option, Some, None, if◌then◌else◌}
use Rattle.std.specs.Option.{option_map, option_and_then}
use Rattle.usb_model.specs.declared.endpoint.Endpoint.{Endpoint}
use Rattle.usb_model.specs.declared.item.Item.{Item}
use Rattle.usb_model.specs.declared.response.Response.{Response}
use Rattle.usb_model.specs.declared.response.Response.TheVariants as response
use Rattle.usb_model.specs.Completion.{success, babble_detected, stall_error, short_packet}
use Rattle.usb_model.specs.Requests.{length_of}
use Rattle.usb_model.specs.declared.outcome.Outcome.{Outcome}
use Rattle.usb_model.specs.Endpoint.Packets.{outcome, count_of}
use Rattle.usb_model.specs.Endpoint.Serve.{next_answer}
use Rattle.trace_explain.specs.declared.sentence.TransferEnd.{TransferEnd}
use Rattle.trace_explain.specs.declared.sentence.TransferEnd.TheVariants as ending
use Rattle.trace_explain.specs.declared.sentence.Unready.{Unready}
use Rattle.trace_explain.specs.declared.sentence.Unready.TheVariants as unready
use Rattle.trace_explain.specs.declared.sentence.Reason.{Reason}
use Rattle.trace_explain.specs.declared.sentence.Reason.TheVariants.{Nak, Ended}
use Rattle.trace_explain.specs.declared.ends.End.{End}
use Rattle.trace_explain.specs.declared.ends.End.TheVariants.{Whole, Short, Stall, Broken, Babble}

-- no packet: the device's endpoint is halted, or its script is at its end, or says that it isn't ready
abbrev pub unready_by : ℕ → Bool → List Response → Option Unready
unready_by ep true [] = Some (unready.Halted ep)
unready_by ep false [] = Some (unready.ScriptEnd ep)
unready_by ep halted (response.Nak ∷ xs) = Some (unready.Nak ep)
unready_by ep halted _ = None

-- what a completion code says of an end, when so many bytes moved
abbrev pub end_by : ℕ → ℕ → End
end_by moved code =
    if code == success then Whole
    else if code == short_packet then Short moved
    else if code == stall_error then Stall
    else if code == babble_detected then Babble
    else Broken

-- how a transfer ended, if it did
abbrev pub end_of : Outcome → Option End
end_of o = option_map (end_by (count_of o)) o.code

-- how the first waiting item x ends by the answer that it takes now, if it does
unfoldable pub answer_end : ℕ → Endpoint → Item → Option End
answer_end size e x = option_and_then end_of (outcome x.request size (x.share ++ next_answer e) e.device_halted)

-- in words that name the endpoint
abbrev pub ending_of : ℕ → Endpoint → Item → End → TransferEnd
ending_of ep e x Whole = ending.Whole (length_of x.request.body)
ending_of ep e x (Short moved) = ending.Short moved (length_of x.request.body)
ending_of ep e x Stall = if e.device_halted then ending.Halted ep else ending.Stall ep
ending_of ep e x Broken = ending.Broken ep
ending_of ep e x Babble = ending.Babble ep

-- the answer ends the transfer, or brings no packet, or a packet that needs no reason
abbrev pub answer_reason : ℕ → Endpoint → Item → Option End → Option Reason
answer_reason ep e x None = option_map (λ u. Nak u) (unready_by ep e.device_halted (next_answer e))
answer_reason ep e x (Some end) = Some (Ended (ending_of ep e x end))
