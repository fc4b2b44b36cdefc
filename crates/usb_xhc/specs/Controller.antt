-- The whole controller: its devices' slots, the command ring and the event ring (xHCI 1.2, 4.9.3, 4.9.4).
use Rattle.std.specs.Prelude.{◌≡◌, ℕ, ◌+◌, ◌-◌, ◌*◌, List, [], ◌∷◌, Option, Some, None, length, map, option_map, slice_get, slice_set}
use Rattle.std.specs.Option.{option_and_then, option_map_or}
use Rattle.usb_trb.specs.declared.kind.TrbKind.{TrbKind}
use Rattle.usb_trb.specs.declared.kind.TrbKind.TheVariants.{Normal, Link, NoOp, ResetEndpoint, StopEndpoint, SetDequeue, TransferEvent, CommandCompletion}
use Rattle.usb_rings.specs.Places.{index_of}
use Rattle.usb_rings.specs.Ring.{Ring, dequeue_of, empty}
use Rattle.usb_device.specs.Pipe.{IsLawful}
use Rattle.usb_xhc.specs.declared.packet.PacketResult.{PacketResult as Told}
use Rattle.usb_xhc.specs.Commands.{carried, endpoint_not_enabled_error, trb_error}
use Rattle.usb_xhc.specs.Posts.{posted_all, posted_one}
use Rattle.usb_xhc.specs.Slots.{DeviceSlot, changed, events_after, order_code, order_events, serving, slot_after, slot_renewed}

-- slots: one a device, by number, slot 1 the first (xHCI 1.2, 4.5.3). commands, events: the two rings
pub record Controller : Type 0 where
  pub slots : List DeviceSlot
  pub commands : Ring
  pub events : Ring

-- the controller with something else at this device
abbrev pub slot_changed : Controller → ℕ → (DeviceSlot → DeviceSlot) → Controller
slot_changed v dev f = option_map_or (λ s. record v { slots = slice_set v.slots dev (f s) }) (slice_get v.slots dev) v

-- behind one packet at a device's endpoint, where this was sent
abbrev pub served_at : Controller → ℕ → ℕ → (DeviceSlot → Option (List ℕ)) → Controller
served_at v dev ep out =
    option_map_or (λ s. record v { slots = slice_set v.slots dev (slot_after s ep (out s)); events = events_after s ep v.events }) (slice_get v.slots dev) v

-- what is told of it
abbrev pub told_at : Controller → ℕ → ℕ → Option Told
told_at v dev ep = option_and_then (λ s. option_map (λ x. x.packet) (serving s ep)) (slice_get v.slots dev)

-- the slot and the endpoint of an order
abbrev pub endpoint_in : TrbKind → Option (ℕ × ℕ)
endpoint_in (StopEndpoint slot id) = Some (slot, id)
endpoint_in (ResetEndpoint slot id) = Some (slot, id)
endpoint_in (SetDequeue pointer state slot id) = Some (slot, id)
endpoint_in (Normal t) = None
endpoint_in (Link segment toggle chain) = None
endpoint_in NoOp = None
endpoint_in (TransferEvent pointer residual code slot id) = None
endpoint_in (CommandCompletion pointer code slot) = None

-- the code of an order's completion
abbrev pub code_for : Controller → TrbKind → ℕ
code_for v order =
    option_map_or (λ at. option_map_or (λ s. order_code s at.1 order) (slice_get v.slots (at.0 - 1)) endpoint_not_enabled_error) (endpoint_in order) trb_error

-- the controller behind an order, before its completion is told
abbrev pub carried_at : Controller → TrbKind → Controller
carried_at v order =
    option_map_or (λ at. option_map_or (λ s. record v {
      slots = slice_set v.slots (at.0 - 1) (changed s at.1 (λ c. (carried order c).context));
      events = posted_all 4096 v.events (order_events s at.1 order);
    }) (slice_get v.slots (at.0 - 1)) v) (endpoint_in order) v

-- the slot that a completion names: the order's, or the first where it has none
abbrev pub slot_in : TrbKind → ℕ
slot_in order = option_map_or (λ at. at.0) (endpoint_in order) 1

-- the address of the oldest order
abbrev pub order_address : Ring → ℕ
order_address r = r.memory.base + 16 * index_of 255 (dequeue_of 255 r)

-- the controller behind its oldest order
abbrev pub run_at : Controller → TrbKind → List TrbKind → Controller
run_at v order rest = record (carried_at v order) {
  commands = record v.commands { waits = rest };
  events = posted_one 4096 (carried_at v order).events (CommandCompletion (order_address v.commands) (code_for v order) (slot_in order));
}

-- an order that was run: the order, its code, and the controller behind it
pub record Run : Type 0 where
  pub order : TrbKind
  pub code : ℕ
  pub controller : Controller

-- the oldest order of these is run; none where none waits
abbrev pub run_of : Controller → List TrbKind → Option Run
run_of v [] = None
run_of v (order ∷ rest) = Some (record { order = order; code = code_for v order; controller = run_at v order rest })

-- a ring in which nothing was posted, in the place of another
abbrev pub emptied : ℕ → Ring → Ring
emptied width r = empty width (length r.memory.cells) r.memory.base

-- the controller with all devices there, and all that it has made new
abbrev pub all_renewed : Controller → Controller
all_renewed v = record { slots = map slot_renewed v.slots; commands = emptied 255 v.commands; events = emptied 4096 v.events }

-- what each device promises of its endpoints
abbrev pub AreLawfulAll : List DeviceSlot → Type 0
AreLawfulAll slots = (d : ℕ) (s : DeviceSlot) → slice_get slots d ≡ Some s → IsLawful s.pipes
