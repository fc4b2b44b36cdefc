-- A packet of the transfer where the controller stands (USB 2.0, 8.5; xHCI 1.2, 4.10).
use Rattle.std.specs.Prelude.{ℕ, ◌+◌, ◌%◌, min, Bool, true, false, List, [], ◌∷◌, Option, Some, None, option_map, slice_get, take, drop, if◌then◌else◌}
use Rattle.usb_model.specs.declared.response.Response.{Response}
use Rattle.usb_model.specs.declared.endpoint.EndpointState.{EndpointState}
use Rattle.usb_model.specs.declared.endpoint.EndpointState.TheVariants.{Running, Stopped, Halted}
use Rattle.usb_model.specs.Completion.{transaction_error}
use Rattle.usb_model.specs.Endpoint.Serve.{is_no_packet}
use Rattle.usb_model.specs.Endpoint.Status.{halts}
use Rattle.usb_trb.specs.declared.kind.Normal.{Normal as NormalTrb}
use Rattle.usb_trb.specs.declared.kind.TrbKind.{TrbKind}
use Rattle.usb_model.specs.Packets.{Packet, packet_by}
use Rattle.usb_xhc.specs.declared.packet.PacketResult.{PacketResult as Told}
use Rattle.usb_xhc.specs.declared.packet.PacketResult.TheVariants as told
use Rattle.usb_rings.specs.Places.{address_of}
use Rattle.usb_rings.specs.Line.{Line, places}
use Rattle.usb_xhc.specs.declared.trb_at.TrbAt.{TrbAt}
use Rattle.usb_xhc.specs.Ahead.{trbs_ahead, goes_on, room}
use Rattle.usb_xhc.specs.Context.{Context, trbs, stand_by, event_by, gone_on, gone_past}

-- what a packet of the transfer leaves: what is told of it, the endpoint, and the events
pub record Served : Type 0 where
  pub packet : Told
  pub context : Context
  pub events : List TrbKind

-- what an answer did
abbrev pub packet_in : Context → Response → Packet
packet_in c a = packet_by c.size (room (trbs c) c.within) (goes_on (trbs c)) a

-- the endpoint halts where it stands, or goes on to the next transfer (xHCI 1.2, 4.10.2.1)
abbrev pub ended_by : Context → ℕ → ℕ → Context
ended_by c k code = if halts code then record (gone_on c k) { state = Halted } else gone_past c

abbrev pub served_by : Context → Response → Packet → Option ℕ → Served
served_by c a p None = record { packet = if is_no_packet (a ∷ []) then told.Nak else told.Moved p.bytes; context = gone_on c p.bytes; events = [] }
served_by c a p (Some code) = record { packet = told.Ended code; context = ended_by c p.bytes code; events = event_by c (stand_by c p.bytes) code ∷ [] }

-- the device gave this answer
unfoldable pub served : Context → Response → Served
served c a = served_by c a (packet_in c a) (packet_in c a).code

-- a gone device isn't asked
unfoldable pub served_gone : Context → Served
served_gone c = record { packet = told.Ended transaction_error; context = record c { state = Halted }; events = event_by c (stand_by c 0) transaction_error ∷ [] }

abbrev pub is_running : EndpointState → Bool
is_running Running = true
is_running Stopped = false
is_running Halted = false

-- the TRB of this number of the transfer at dequeue, and its address
abbrev pub trb_in : Line → ℕ → Option TrbAt
trb_in l k = option_map (λ t. record { pointer = address_of places l.base (l.dequeue + k); trb = t }) (slice_get (trbs_ahead l) k)

abbrev pub trb_at : Context → ℕ → Option TrbAt
trb_at c k = trb_in c.ring.line k

-- the first of them, where there is a transfer to serve
abbrev pub working : Context → Option TrbAt
working c = if is_running c.state then trb_at c 0 else None

-- the bytes that a packet may have
abbrev pub packet_room : Context → ℕ
packet_room c = min c.size (room (trbs c) c.within)

-- where the packet's bytes stand in the transfer's buffer, which has 262,144 bytes: at its TRB's address, so many bytes on
abbrev pub offset_by : NormalTrb → ℕ → ℕ
offset_by t within = t.buffer % 0x40000 + within

-- the packet for the device
abbrev pub packet_out : Context → NormalTrb → List ℕ → List ℕ
packet_out c t bytes = take (packet_room c) (drop (offset_by t c.within) bytes)
