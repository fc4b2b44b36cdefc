-- The packet that a device is to answer next at an endpoint.
use Rattle.std.specs.Prelude.{◌≡◌, ℕ, ◌-◌, ◌==◌, min, Bool, not, ◌&&◌, List, [], length, slice_get, Option, Some, take, drop}
use Rattle.usb_model.specs.declared.endpoint.EndpointState.TheVariants.{Running}
use Rattle.usb_model.specs.declared.item.Item.{Item}
use Rattle.usb_model.specs.declared.reply.Reply.TheVariants.{Idle}
use Rattle.usb_model.specs.declared.request.Body.{Body}
use Rattle.usb_model.specs.declared.request.Body.TheVariants.{In, Out}
use Rattle.usb_model.specs.declared.step.Step.TheVariants.{Serve}
use Rattle.usb_model.specs.Endpoint.{first_waiting, outcome_of}
use Rattle.usb_model.specs.Endpoint.Packets.{count_of}
use Rattle.usb_model.specs.Requests.{length_of}
use Rattle.usb_model.specs.Setup.{Setup, packet_size_of}
use Rattle.usb_model.specs.World.{World, holder, turn}
use Rattle.usb_device.specs.Pipe.{pipe_at}
use Rattle.usb_tables.specs.declared.transfer.Transfer.{Transfer as InFlight}
use Rattle.usb_tables.specs.TransfersInFlight.{item_at}
use Rattle.usb_xhc.specs.Slots.{DeviceSlot, room_ahead, sends}
use Rattle.refine_world.specs.Living.{is_wanting}
use Rattle.refine_world.specs.Shows.{Core, Shows}
use Rattle.refine_core.specs.State.{Keeps, State}
use Rattle.refine_core.specs.Works.{IsFront, IsHolder}

-- the bytes of the next packet that the host sends, where so many moved: those behind them, at most a packet's
abbrev pub bytes_next : (size moved : ℕ) → Body → List ℕ
bytes_next size moved (In n) = []
bytes_next size moved (Out bytes) = take size (drop moved bytes)

-- how many bytes the next packet has, or may have where the host reads
abbrev pub room_next : (size moved : ℕ) → Body → ℕ
room_next size moved body = min size (length_of body - moved)

-- the packet that is next at endpoint ep of device dev: that of the first transfer that waits where the endpoint runs, whose interface
-- somebody holds; wants: whether the device, which isn't gone nor halted there, has no answer left
pub record IsNext (setup : Setup) (w : World) (dev ep owner n : ℕ) (out : List ℕ) (room : ℕ) (wants : Bool) : Type 0 where
  pub item : Item
  pub held : holder setup w.claims dev ep ≡ Some owner
  pub runs : (w.endpoints dev ep).state ≡ Running
  pub first : first_waiting (w.endpoints dev ep).line ≡ Some item
  pub number : n ≡ item.n
  pub bytes : out ≡ bytes_next (packet_size_of setup dev ep) (count_of (outcome_of (packet_size_of setup dev ep) item)) item.request.body
  pub most : room ≡ room_next (packet_size_of setup dev ep) (count_of (outcome_of (packet_size_of setup dev ep) item)) item.request.body
  pub asked : wants ≡ (not (w.gone dev) && is_wanting (w.endpoints dev ep))

-- there is none: a Serve there is idle
abbrev pub HasNone : Setup → World → (dev ep : ℕ) → Type 0
HasNone setup w dev ep = (turn setup w (Serve dev ep)).entry.reply ≡ Idle

-- what the controller makes next of a transfer's body
abbrev pub bytes_ahead : DeviceSlot → ℕ → Body → Option (List ℕ)
bytes_ahead s ep (In n) = Some []
bytes_ahead s ep (Out bytes) = sends s ep bytes

-- whether a device has no answer left at an endpoint, isn't halted there, and isn't gone
abbrev pub asks_device : DeviceSlot → ℕ → Bool
asks_device s ep = not s.gone && (not (pipe_at s.pipes ep).halted && (length (pipe_at s.pipes ep).left == 0))

-- the next packet of the transfer at a place of an endpoint's line, as the parts have it
pub record IsOffered {P : Type 0} (s : State P) (dev ep item n : ℕ) (out : List ℕ) (room : ℕ) (wants : Bool) : Type 0 where
  pub slot : DeviceSlot
  pub there : slice_get s.controller.slots dev ≡ Some slot
  pub transfer : InFlight P
  pub found : item_at s.flights dev ep item ≡ Some transfer
  pub number : n ≡ transfer.n
  pub bytes : bytes_ahead slot ep transfer.request.body ≡ Some out
  pub most : room_ahead slot ep ≡ Some room
  pub asked : wants ≡ asks_device slot ep

-- what the controller makes next of the transfer where it works is the packet that is next in the world
abbrev pub OffersNext : Type 0 → Type 0
OffersNext P = (s : State P) (setup : Setup) (w : World) (c : Core) (h dev ep item n : ℕ) (out : List ℕ) (room : ℕ) (wants : Bool) → Keeps setup s c → Shows setup w c
    → IsHolder s dev ep (Some h) → IsFront s dev ep (Some item) → IsOffered s dev ep item n out room wants → IsNext setup w dev ep h n out room wants
