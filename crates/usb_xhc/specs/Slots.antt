-- A device's slot: what it serves at an endpoint, and what an order does there (Device Context; xHCI 1.2, 4.5, 6.2.1).
use Rattle.std.specs.Prelude.{ℕ, Bool, true, false, not, ◌&&◌, List, [], is_some, map, Option, Some, None, option_map, slice_index_or, slice_set, if◌then◌else◌}
use Rattle.std.specs.Option.{option_and_then, option_map_or}
use Rattle.usb_model.specs.declared.response.Response.{Response}
use Rattle.usb_model.specs.Setup.{endpoint_id}
use Rattle.usb_trb.specs.declared.kind.TrbKind.{TrbKind}
use Rattle.usb_rings.specs.Ring.{Ring}
use Rattle.usb_device.specs.Pipe.{Pipe, answer_of, bytes_after, pipe_after, pipe_at, rewound}
use Rattle.usb_xhc.specs.declared.trb_at.TrbAt.{TrbAt}
use Rattle.usb_xhc.specs.Context.{Context, configured}
use Rattle.usb_xhc.specs.Commands.{carried, endpoint_not_enabled_error}
use Rattle.usb_xhc.specs.Posts.{posted_all}
use Rattle.usb_xhc.specs.Transaction.{Served, packet_out, packet_room, served, served_gone, working}

-- the device's endpoints, each by its id; whether the device is gone; and what the controller keeps of each, where it has a ring
pub record DeviceSlot : Type 0 where
  pub pipes : List Pipe
  pub gone : Bool
  pub contexts : List (Option Context)

-- the endpoint of this address
abbrev pub context_of : DeviceSlot → ℕ → Option Context
context_of s ep = slice_index_or s.contexts (endpoint_id ep) None

-- what one packet leaves at an endpoint, where this TRB is served
abbrev pub serving_at : Bool → Context → Response → Option TrbAt → Option Served
serving_at gone c a None = None
serving_at true c a (Some first) = Some (served_gone c)
serving_at false c a (Some first) = Some (served c a)

-- what one packet leaves at an endpoint of the slot; none where there is nothing to serve
abbrev pub serving : DeviceSlot → ℕ → Option Served
serving s ep = option_and_then (λ c. serving_at s.gone c (answer_of (pipe_at s.pipes ep)) (working c)) (context_of s ep)

-- whether the device is asked
abbrev pub asks : DeviceSlot → ℕ → Bool
asks s ep = not s.gone && is_some (option_and_then working (context_of s ep))

-- the packet that is sent, where one is
abbrev pub sends : DeviceSlot → ℕ → List ℕ → Option (List ℕ)
sends s ep bytes = option_and_then (λ c. option_map (λ f. packet_out c f.trb bytes) (working c)) (context_of s ep)

-- the bytes that the next packet may have; None where there is nothing to serve
abbrev pub room_ahead : DeviceSlot → ℕ → Option ℕ
room_ahead s ep = option_and_then (λ c. option_map (λ f. packet_room c) (working c)) (context_of s ep)

-- the slot behind one packet, where this was sent
abbrev pub slot_after : DeviceSlot → ℕ → Option (List ℕ) → DeviceSlot
slot_after s ep out = record s {
  pipes = if asks s ep then slice_set s.pipes (endpoint_id ep) (pipe_after out (pipe_at s.pipes ep)) else s.pipes;
  contexts = option_map_or (λ x. slice_set s.contexts (endpoint_id ep) (Some x.context)) (serving s ep) s.contexts;
}

-- the events behind it
abbrev pub events_after : DeviceSlot → ℕ → Ring → Ring
events_after s ep r = option_map_or (λ x. posted_all 4096 r x.events) (serving s ep) r

-- the bytes for the host behind it
abbrev pub read_after : DeviceSlot → ℕ → List ℕ → List ℕ
read_after s ep bytes = if asks s ep then bytes_after (answer_of (pipe_at s.pipes ep)) (option_map_or (λ c. packet_room c) (context_of s ep) 0) bytes else bytes

-- the endpoint of this id
abbrev pub context_by : DeviceSlot → ℕ → Option Context
context_by s id = slice_index_or s.contexts id None

-- the slot with something else at this endpoint
abbrev pub changed : DeviceSlot → ℕ → (Context → Context) → DeviceSlot
changed s id f = option_map_or (λ c. record s { contexts = slice_set s.contexts id (Some (f c)) }) (context_by s id) s

-- what an order does at the endpoint of this id
abbrev pub order_code : DeviceSlot → ℕ → TrbKind → ℕ
order_code s id order = option_map_or (λ c. (carried order c).code) (context_by s id) endpoint_not_enabled_error

abbrev pub order_events : DeviceSlot → ℕ → TrbKind → List TrbKind
order_events s id order = option_map_or (λ c. (carried order c).events) (context_by s id) []

-- the endpoint of this address is made new (Configure Endpoint; xHCI 1.2, 4.6.6)
abbrev pub renewed : DeviceSlot → ℕ → DeviceSlot
renewed s ep =
    option_map_or (λ c. record s {
      pipes = slice_set s.pipes (endpoint_id ep) (rewound (pipe_at s.pipes ep));
      contexts = slice_set s.contexts (endpoint_id ep) (Some (configured c.slot c.id c.size c.ring.line.base));
    }) (context_of s ep) s

-- an endpoint of these as it is made
abbrev pub as_made : Context → Context
as_made c = configured c.slot c.id c.size c.ring.line.base

-- the device is there, at the beginning of its scripts, and each endpoint is made new
abbrev pub slot_renewed : DeviceSlot → DeviceSlot
slot_renewed s = record { pipes = map rewound s.pipes; gone = false; contexts = map (option_map as_made) s.contexts }
