-- A controller, and the setup of the devices that it was made of.
use Rattle.std.specs.Prelude.{◌≡◌, ℕ, suc, ◌≤◌, true, false, List, length, map, slice_get, Option, Some, None}
use Rattle.std.specs.List.{list_all}
use Rattle.usb_model.specs.declared.response.Response.{Response}
use Rattle.usb_model.specs.declared.setup.Configuration.{Configuration}
use Rattle.usb_model.specs.declared.setup.DeviceSetup.{DeviceSetup}
use Rattle.usb_model.specs.declared.setup.EndpointInfo.{EndpointInfo}
use Rattle.usb_model.specs.Direction.{is_of_direction}
use Rattle.usb_model.specs.Requests.{is_unsupported}
use Rattle.usb_model.specs.Setup.{Setup, endpoint_id, is_in}
use Rattle.usb_descriptors.specs.Table.{IsTable, info_at}
use Rattle.usb_device.specs.Pipe.{Pipe, pipe_at}
use Rattle.usb_device.specs.Scripts.{script_by}
use Rattle.usb_xhc.specs.Context.{Context}
use Rattle.usb_xhc.specs.Controller.{Controller}
use Rattle.usb_xhc.specs.Made.{ring_base}
use Rattle.usb_xhc.specs.Slots.{DeviceSlot, context_of}

-- the ring of an endpoint of which the configuration of device d says this: one where transfers can go
pub record IsRingOf (d e : ℕ) (z : EndpointInfo) (c : Context) : Type 0 where
  pub supported : is_unsupported z.kind ≡ false
  pub slot : c.slot ≡ suc d
  pub id : c.id ≡ endpoint_id e
  pub size : c.size ≡ z.packet_size
  pub base : c.ring.line.base ≡ ring_base (suc d) (endpoint_id e)

-- or that it has none
abbrev pub RingOf : ℕ → ℕ → EndpointInfo → Option Context → Type 0
RingOf d e z None = is_unsupported z.kind ≡ true
RingOf d e z (Some c) = IsRingOf d e z c

-- endpoints that take packets of the packet sizes of a configuration
abbrev pub TakesSizes : Configuration → List Pipe → Type 0
TakesSizes config pipes = (e : ℕ) (z : EndpointInfo) → info_at config e ≡ Some z → is_unsupported z.kind ≡ false → z.packet_size ≤ (pipe_at pipes e).size

-- the slot of device d, where the setup says this of the device, whatever was done there
pub record IsSlotOf (d : ℕ) (x : DeviceSetup) (s : DeviceSlot) : Type 0 where
  pub contexts : length s.contexts ≡ 32
  pub scripts : x.scripts ≡ map (λ p. p.script) s.pipes
  pub sizes : TakesSizes x.config s.pipes
  pub rings : (e : ℕ) (z : EndpointInfo) → info_at x.config e ≡ Some z → RingOf d e z (context_of s e)

-- a controller with a slot for each device of a setup
pub record IsOf (setup : Setup) (k : Controller) : Type 0 where
  pub slots : length k.slots ≡ length setup
  pub each : (d : ℕ) (x : DeviceSetup) (s : DeviceSlot) → slice_get setup d ≡ Some x → slice_get k.slots d ≡ Some s → IsSlotOf d x s

-- a script for each endpoint id, and no answer that its direction doesn't have
pub record AreLawful (scripts : List (List Response)) : Type 0 where
  pub all : length scripts ≡ 32
  pub fit : (ep : ℕ) → list_all (is_of_direction (is_in ep)) (script_by scripts (endpoint_id ep)) ≡ true

-- a device as its configuration is read, and as it promises to answer
pub record IsRead (x : DeviceSetup) : Type 0 where
  pub table : IsTable x.config.endpoints
  pub short : length x.config.endpoints ≤ 30
  pub lawful : AreLawful x.scripts
