-- Whole packets in a row at an endpoint, each inside the TRB at dequeue: none ends a TRB, and none ends anything.
use Rattle.std.specs.Prelude.{◌≡◌, ℕ, zero, suc, ◌+◌, ◌*◌, ◌<◌, true, List, [], Option, Some, None, slice_get}
use Rattle.std.specs.Option.{option_and_then, option_map_or}
use Rattle.usb_rings.specs.Line.{moved}
use Rattle.usb_xhc.specs.declared.packet.PacketResult.TheVariants.{Moved}
use Rattle.usb_xhc.specs.Context.{Context}
use Rattle.usb_xhc.specs.Transaction.{Served}
use Rattle.usb_xhc.specs.Slots.{DeviceSlot, context_of, read_after, serving, slot_after}
use Rattle.usb_xhc.specs.Controller.{Controller, served_at}

-- the endpoint behind so many whole packets inside the TRB at dequeue, which stays
abbrev pub skipped : Context → ℕ → Context
skipped c zero = c
skipped c (suc k) = record c { within = c.within + suc k * c.size; begun = true; ring = record c.ring { line = moved c.ring.line 0 } }

-- the slot behind so many packets in a row at an endpoint, where these are sent
unfoldable pub slot_skimmed : (DeviceSlot → Option (List ℕ)) → (ep : ℕ) → ℕ → DeviceSlot → DeviceSlot
slot_skimmed out ep zero s = s
slot_skimmed out ep (suc k) s = slot_after (slot_skimmed out ep k s) ep (out (slot_skimmed out ep k s))

-- a whole packet moves at the endpoint, and its transfer goes on: no event is posted
abbrev pub MovesWhole : DeviceSlot → ℕ → Type 0
MovesWhole s ep = (c : Context) × (v : Served) × (context_of s ep ≡ Some c) × (serving s ep ≡ Some v) × (v.packet ≡ Moved c.size) × (v.events ≡ [])

-- each of so many in a row does
abbrev pub AreWhole : (DeviceSlot → Option (List ℕ)) → (ep : ℕ) → ℕ → DeviceSlot → Type 0
AreWhole out ep k s = (i : ℕ) → i < k → MovesWhole (slot_skimmed out ep i s) ep

-- the bytes for the host behind them
unfoldable pub read_skimmed : (ep : ℕ) → ℕ → DeviceSlot → List ℕ → List ℕ
read_skimmed ep zero s bytes = bytes
read_skimmed ep (suc k) s bytes = read_after (slot_skimmed (λ _. None) ep k s) ep (read_skimmed ep k s bytes)

-- the controller behind so many packets in a row at a device's endpoint, where these are sent
unfoldable pub controller_skimmed : (dev ep : ℕ) → (DeviceSlot → Option (List ℕ)) → ℕ → Controller → Controller
controller_skimmed dev ep out zero v = v
controller_skimmed dev ep out (suc k) v = served_at (controller_skimmed dev ep out k v) dev ep out

-- the bytes for the host behind them
unfoldable pub controller_read : (dev ep : ℕ) → ℕ → Controller → List ℕ → List ℕ
controller_read dev ep zero v bytes = bytes
controller_read dev ep (suc k) v bytes =
    option_map_or (λ (s : DeviceSlot). read_after s ep (controller_read dev ep k v bytes)) (slice_get (controller_skimmed dev ep (λ _. None) k v).slots dev) (controller_read dev ep k v bytes)

-- the size of the packets of a device's endpoint; 0 where there is no such endpoint
abbrev pub size_at : Controller → (dev ep : ℕ) → ℕ
size_at v dev ep = option_map_or (λ (c : Context). c.size) (option_and_then (λ (s : DeviceSlot). context_of s ep) (slice_get v.slots dev)) 0
