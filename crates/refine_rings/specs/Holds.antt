-- When the controller's slots and rings hold the core's endpoints, orders and events.
use Rattle.std.specs.Prelude.{◌≡◌, ℕ, suc, ◌%◌, ◌==◌, ◌≤◌, Bool, true, false, ◌&&◌, List, [], ◌∷◌, length, map, slice_get, Option, Some, None, if◌then◌else◌}
use Rattle.usb_model.specs.declared.errand.Errand.{Errand}
use Rattle.usb_model.specs.declared.errand.Errand.TheVariants as errand
use Rattle.usb_model.specs.declared.setup.DeviceSetup.{DeviceSetup}
use Rattle.usb_model.specs.Requests.{is_unsupported}
use Rattle.usb_model.specs.Setup.{Setup, endpoint_id, interface_of, kind_of, packet_size_of, script_of}
use Rattle.usb_trb.specs.declared.kind.TrbKind.{TrbKind}
use Rattle.usb_trb.specs.declared.kind.TrbKind.TheVariants.{CommandCompletion, ResetEndpoint, SetDequeue, StopEndpoint}
use Rattle.usb_rings.specs.Places.{address_of, cycle_of}
use Rattle.usb_model.specs.Kept.{KeptEndpoint, Transfer}
use Rattle.usb_device.specs.Pipe.{Pipe, pipe_at, rewound}
use Rattle.usb_rings.specs.Line.{places}
use Rattle.usb_xhc.specs.Context.{Context}
use Rattle.usb_xhc.specs.Controller.{Controller}
use Rattle.usb_xhc.specs.Made.{ring_base}
use Rattle.usb_xhc.specs.Slots.{DeviceSlot, context_of}
use Rattle.refine_rings.specs.Endpoint.{IsContext, IsPipe}
use Rattle.refine_rings.specs.EndpointLaws.{start_of}
use Rattle.refine_rings.specs.Reports.{event_in}
use Rattle.refine_world.specs.Shows.{Completes, Core, RingEvent, RingOrder, Transfers}

-- where an endpoint's ring begins, by device and address
abbrev pub ring_at : ℕ → ℕ → ℕ
ring_at d e = ring_base (suc d) (endpoint_id e)

-- an endpoint with a ring, one where transfers can go
pub record HasRing (setup : Setup) (d e : ℕ) (p : Pipe) (b : KeptEndpoint) (c : Context) : Type 0 where
  pub supported : is_unsupported (kind_of setup d e) ≡ false
  pub context : IsContext c b
  pub slot : c.slot ≡ suc d
  pub id : c.id ≡ endpoint_id e
  pub size : c.size ≡ packet_size_of setup d e
  pub fits : c.size ≤ p.size
  pub base : c.ring.line.base ≡ ring_at d e

-- one without, a control or isochronous one, which no transfer ever joins: its device is still at the beginning of its script
pub record HasNone (setup : Setup) (d e : ℕ) (p : Pipe) (b : KeptEndpoint) : Type 0 where
  pub unsupported : is_unsupported (kind_of setup d e) ≡ true
  pub line : b.line ≡ []
  pub errand : b.errand ≡ None
  pub begins : IsPipe (rewound p) b

abbrev pub RingIs : Setup → ℕ → ℕ → Pipe → KeptEndpoint → Option Context → Type 0
RingIs setup d e p b None = HasNone setup d e p b
RingIs setup d e p b (Some c) = HasRing setup d e p b c

-- an endpoint of a slot
pub record IsEnd (setup : Setup) (s : DeviceSlot) (d e : ℕ) (b : KeptEndpoint) : Type 0 where
  pub pipe : IsPipe (pipe_at s.pipes e) b
  pub script : (pipe_at s.pipes e).script ≡ script_of setup d e
  pub ring : RingIs setup d e (pipe_at s.pipes e) b (context_of s e)

-- the slot of device d: its scripts, and each endpoint that its configuration has
pub record IsSlot (setup : Setup) (d : ℕ) (s : DeviceSlot) (gone : ℕ → Bool) (endpoints : ℕ → ℕ → KeptEndpoint) : Type 0 where
  pub contexts : length s.contexts ≡ 32
  pub pipes : length s.pipes ≡ 32
  pub is_gone : s.gone ≡ gone d
  pub scripts : (x : DeviceSetup) → slice_get setup d ≡ Some x → x.scripts ≡ map (λ p. p.script) s.pipes
  pub ends : (e i : ℕ) → interface_of setup d e ≡ Some i → IsEnd setup s d e (endpoints d e)

-- the order of an errand in the command ring (xHCI 1.2, 6.4.3); b: its endpoint
abbrev pub IsPosted : KeptEndpoint → ℕ → ℕ → Errand → TrbKind → Type 0
IsPosted b d e errand.Stop k = k ≡ StopEndpoint (suc d) (endpoint_id e)
IsPosted b d e errand.Reset k = k ≡ ResetEndpoint (suc d) (endpoint_id e)
IsPosted b d e errand.Move k = k ≡ SetDequeue (address_of places (ring_at d e) (start_of b)) (cycle_of places (start_of b)) (suc d) (endpoint_id e)

abbrev pub AllPosted : (ℕ → ℕ → KeptEndpoint) → List RingOrder → List TrbKind → Type 0
AllPosted endpoints [] [] = Unit {0}
AllPosted endpoints (o ∷ os) (k ∷ ks) = IsPosted (endpoints o.dev o.ep) o.dev o.ep o.errand k × AllPosted endpoints os ks
AllPosted endpoints _ _ = ⊥

-- an event in the event ring; commands: where the command ring begins
abbrev pub event_trb : ℕ → RingEvent → TrbKind
event_trb commands (Transfers d e place residual code) = event_in (suc d) (endpoint_id e) (ring_at d e) commands (Transfer place residual code)
event_trb commands (Completes d index code) = CommandCompletion (address_of 255 commands index) code (suc d)

-- the controller holds what the core keeps of endpoints, orders and events; orders and events are the rings', from the oldest on
pub record Holds (setup : Setup) (k : Controller) (gone : ℕ → Bool) (endpoints : ℕ → ℕ → KeptEndpoint) (orders : List RingOrder) (events : List RingEvent) (posted : ℕ) : Type 0 where
  pub slots : length k.slots ≡ length setup
  pub each : (d : ℕ) (s : DeviceSlot) → slice_get k.slots d ≡ Some s → IsSlot setup d s gone endpoints
  pub ordered : AllPosted endpoints orders k.commands.waits
  pub told : k.events.waits ≡ map (event_trb k.commands.memory.base) events
  pub count : k.commands.posted ≡ posted % 510

abbrev pub HoldsCore : Setup → Controller → Core → Type 0
HoldsCore setup k c = Holds setup k c.gone c.endpoints c.orders c.events c.posted

-- with another endpoint in the place of one
abbrev pub with_end : (ℕ → ℕ → KeptEndpoint) → ℕ → ℕ → KeptEndpoint → ℕ → ℕ → KeptEndpoint
with_end endpoints d e b = λ dev ep. if (d == dev) && (e == ep) then b else endpoints dev ep
