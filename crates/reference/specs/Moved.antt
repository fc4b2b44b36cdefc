-- The packets that a device's answer moves.
use Rattle.std.specs.Prelude.{ℕ, Bool, true, false, List, [], ◌∷◌, ◌++◌, drop, length, Option, Some, None}
use Rattle.std.specs.Option.{unwrap_or}
use Rattle.usb_model.specs.declared.endpoint.Endpoint.{Endpoint}
use Rattle.usb_model.specs.declared.endpoint.EndpointState.{EndpointState}
use Rattle.usb_model.specs.declared.endpoint.EndpointState.TheVariants.{Running}
use Rattle.usb_model.specs.declared.item.Item.{Item}
use Rattle.usb_model.specs.Endpoint.{first_waiting, outcome_of}
use Rattle.usb_model.specs.declared.outcome.Outcome.{Outcome}
use Rattle.usb_model.specs.declared.response.Response.{Response}
use Rattle.usb_model.specs.declared.response.Response.TheVariants.{Data}
use Rattle.usb_model.specs.Endpoint.Packets.{open_with, outcome}
use Rattle.usb_model.specs.Endpoint.Serve.{next_answer}

-- the packet for the host that answers begin with, if they do
abbrev pub data_of : List Response → List (List ℕ)
data_of (Data b ∷ xs) = b ∷ []
data_of _ = []

-- how far item x has come when it has taken the answer
abbrev pub outcome_after : ℕ → Endpoint → Item → Outcome
outcome_after size e x = unwrap_or (outcome x.request size (x.share ++ next_answer e) e.device_halted) (open_with [])

-- the packets that have moved then, and hadn't before
abbrev pub packets_of_answer : ℕ → Endpoint → Item → List (List ℕ)
packets_of_answer size e x = drop (length (outcome_of size x).packets) (outcome_after size e x).packets

-- of the first item that waits, while the endpoint is running and the device is there
abbrev pub packets_of_first : ℕ → Bool → Endpoint → EndpointState → Option Item → List (List ℕ)
packets_of_first size false e Running (Some x) = packets_of_answer size e x
packets_of_first size gone e _ _ = []

-- the packets that move, either way, where a device answers at an endpoint; gone: whether the device is
unfoldable pub packets_moved : ℕ → Bool → Endpoint → List (List ℕ)
packets_moved size gone e = packets_of_first size gone e e.state (first_waiting e.line)
