-- A device answers one packet (USB 2.0, 8.4.5 and 8.5; xHCI 1.2, 4.10).
use Rattle.std.specs.Prelude.{ℕ, ◌-◌, Bool, true, false, ◌||◌, List, [], ◌∷◌, ◌++◌, length, take, drop, Option, Some, None, if◌then◌else◌}
use Rattle.std.specs.Option.{unwrap_or}
use Rattle.usb_model.specs.declared.response.Response.{Response}
use Rattle.usb_model.specs.declared.response.Response.TheVariants as response
use Rattle.usb_model.specs.declared.request.Body.{Body}
use Rattle.usb_model.specs.declared.request.Body.TheVariants.{In, Out}
use Rattle.usb_model.specs.declared.reply.Reply.TheVariants.{Idle, Nak, Moved, Ended}
use Rattle.usb_model.specs.declared.item.Item.{Item}
use Rattle.usb_model.specs.declared.item.ItemState.TheVariants.{Served}
use Rattle.usb_model.specs.declared.endpoint.Endpoint.{Endpoint}
use Rattle.usb_model.specs.declared.endpoint.EndpointState.{EndpointState}
use Rattle.usb_model.specs.declared.endpoint.EndpointState.TheVariants.{Running, Halted}
use Rattle.usb_model.specs.declared.news.Event.TheVariants.{Finished}
use Rattle.usb_model.specs.Endpoint.Packets.{Outcome, outcome, open_with, count_of}
use Rattle.usb_model.specs.Completion.{transaction_error}
use Rattle.usb_model.specs.Endpoint.Status.{halts}
use Rattle.usb_model.specs.Endpoint.{EndpointEffect, only_says, first_waiting, with_first, outcome_of}

-- the answer that is taken now: none of a halted device, which stalls, and none at the script's end, where it naks
abbrev pub next_answer : Endpoint → List Response
next_answer e = if e.device_halted then [] else take 1 e.script_left

abbrev pub is_stall : List Response → Bool
is_stall (response.Stall ∷ xs) = true
is_stall _ = false

-- nothing, or a packet that wasn't ready
abbrev pub is_no_packet : List Response → Bool
is_no_packet [] = true
is_no_packet (response.Nak ∷ xs) = true
is_no_packet _ = false

-- the packets for the device that were acknowledged now: those of the outcome after it, and not before it
abbrev pub acknowledged : Body → Outcome → Outcome → List (List ℕ)
acknowledged (In n) before after = []
acknowledged (Out bytes) before after = drop (length before.packets) after.packets

-- the endpoint after the first waiting item x took the answer and became y
abbrev pub answered : Endpoint → Item → Item → Outcome → Outcome → Endpoint
answered e x y before after = record e {
  line = with_first y e.line;
  script_left = drop (length (next_answer e)) e.script_left;
  packets_received = e.packets_received ++ acknowledged x.request.body before after;
}

-- item x takes the answer, with its outcomes before and after
unfoldable pub serve_by : Endpoint → Item → Outcome → Outcome → Option ℕ → EndpointEffect
serve_by e x before after None =
    only_says (answered e x (record x { share = x.share ++ next_answer e }) before after)
    (if is_no_packet (next_answer e) then Nak x.n else Moved x.n (count_of after - count_of before))
serve_by e x before after (Some code) = record {
  reply = Ended x.n code;
  endpoint = record (answered e x (record x { share = x.share ++ next_answer e; state = Served code }) before after) {
    device_halted = e.device_halted || is_stall (next_answer e);
    state = if halts code then Halted else e.state;
  };
  orders = [];
  news = Finished x.n code ∷ [];
  results = [];
}

-- a gone device isn't asked: the first waiting item x ends with what it has
unfoldable pub serve_gone : Endpoint → Item → EndpointEffect
serve_gone e x = record {
  reply = Ended x.n transaction_error;
  endpoint = record e { line = with_first (record x { state = Served transaction_error }) e.line; state = Halted };
  orders = [];
  news = Finished x.n transaction_error ∷ [];
  results = [];
}

unfoldable pub serve_first : ℕ → Bool → Endpoint → EndpointState → Option Item → EndpointEffect
serve_first size true e Running (Some x) = serve_gone e x
serve_first size false e Running (Some x) =
    let after : Outcome = unwrap_or (outcome x.request size (x.share ++ next_answer e) e.device_halted) (open_with []) in
    serve_by e x (outcome_of size x) after after.code
serve_first size gone e _ _ = only_says e Idle

-- the first item that waits takes one answer, while the endpoint is running; gone: whether the device is
unfoldable pub serve : ℕ → Bool → Endpoint → EndpointEffect
serve size gone e = serve_first size gone e e.state (first_waiting e.line)
