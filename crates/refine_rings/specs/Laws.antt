-- The theorems, as the contracts of src/laws.rt name them.
use Rattle.std.specs.Prelude.{◌≡◌, ℕ, suc, ◌+◌, ◌-◌, ◌%◌, ◌<◌, ◌≤◌, Bool, true, false, List, [], ◌∷◌, ◌++◌, length, map, drop, slice_get, slice_set, Option, Some, None}
use Rattle.usb_model.specs.declared.endpoint.EndpointState.TheVariants.{Running, Halted}
use Rattle.usb_model.specs.declared.errand.Errand.{Errand}
use Rattle.usb_model.specs.declared.reply.Reply.TheVariants.{Idle}
use Rattle.usb_model.specs.declared.request.Body.{Body}
use Rattle.usb_model.specs.declared.request.Body.TheVariants.{In, Out}
use Rattle.usb_model.specs.declared.request.Request.{Request}
use Rattle.usb_model.specs.declared.setup.DeviceSetup.{DeviceSetup}
use Rattle.usb_model.specs.Limits.{most_bytes}
use Rattle.usb_model.specs.Requests.{length_of}
use Rattle.usb_model.specs.Setup.{Setup, endpoint_id, interface_of, packet_size_of, script_of}
use Rattle.usb_tables.specs.Tables.{is_plain}
use Rattle.usb_descriptors.specs.Table.{IsTable}
use Rattle.usb_trb.specs.declared.kind.TrbKind.{TrbKind}
use Rattle.usb_rings.specs.Places.{index_of}
use Rattle.usb_model.specs.Kept.{KeptEndpoint, KeptTransfer, code_of, new_kept_endpoint, trbs_of}
use Rattle.usb_model.specs.Events.{errand_of, find_at}
use Rattle.usb_model.specs.Packets.{Answered, answer_now, got, packet_now, serve_kept}
use Rattle.usb_model.specs.Commands as kept
use Rattle.usb_model.specs.Joins.{joined}
use Rattle.usb_device.specs.Pipe.{IsLawful, Pipe, cleared, pipe_at}
use Rattle.usb_tables.specs.Tds.{tds_of}
use Rattle.usb_tables.specs.Trbs.{normals_of}
use Rattle.usb_rings.specs.Line.{capacity, normals, used}
use Rattle.usb_xhc.specs.declared.packet.PacketResult.{PacketResult as Told}
use Rattle.usb_xhc.specs.Context.{Context}
use Rattle.usb_xhc.specs.Host.{rung, with_ring, with_pushed, with_blank, without_first}
use Rattle.usb_xhc.specs.Posts.{posted_one}
use Rattle.usb_xhc.specs.Controller.{AreLawfulAll, Controller, Run, all_renewed, run_of, served_at, slot_changed, told_at}
use Rattle.usb_xhc.specs.Made.{slot_for}
use Rattle.usb_xhc.specs.Slots.{DeviceSlot, changed, context_of, read_after, renewed, sends}
use Rattle.refine_rings.specs.Endpoint.{IsFresh}
use Rattle.refine_rings.specs.EndpointLaws.{HaveTrbsOf}
use Rattle.refine_rings.specs.Reports.{reply_of}
use Rattle.refine_world.specs.Lively.{IsFine}
use Rattle.refine_world.specs.Known.{NoMove}
use Rattle.refine_world.specs.Shows.{RingEvent, RingOrder, event_at, order_at}
use Rattle.refine_rings.specs.Holds.{Holds, IsPosted, with_end}
use Rattle.refine_rings.specs.Made.{AreLawful, IsOf, IsRead, IsSlotOf, TakesSizes}

-- addresses as endpoint descriptors have them (USB 2.0, 9.6.6): no two endpoints of a device have one id
abbrev pub HasPlain : Setup → Type 0
HasPlain setup = (d e i : ℕ) → interface_of setup d e ≡ Some i → is_plain e ≡ true

-- their numbers are other than 0, which is the device's own (USB 2.0, 5.3.1.1)
abbrev pub HasNumbers : Setup → Type 0
HasNumbers setup = (d e i : ℕ) → interface_of setup d e ≡ Some i → 0 < e % 16

-- the slot of a device as it is added is one of its configuration
abbrev pub AddsSlot : Type 0
AddsSlot = (d : ℕ) (x : DeviceSetup) (pipes : List Pipe) → IsTable x.config.endpoints → x.scripts ≡ map (λ p. p.script) pipes → TakesSizes x.config pipes → IsSlotOf d x (slot_for (suc d) x.config pipes)

-- a controller of a setup that is made new holds a new core
abbrev pub MakesCore : Type 0
MakesCore = (setup : Setup) (k : Controller) → HasPlain setup → IsOf setup k → AreLawfulAll (all_renewed k).slots → Holds setup (all_renewed k) (λ d. false) (λ d e. new_kept_endpoint (script_of setup d e)) [] [] 0

-- one that holds a core is of its setup
abbrev pub IsOfHeld : Type 0
IsOfHeld = (setup : Setup) (k : Controller) (gone : ℕ → Bool) (endpoints : ℕ → ℕ → KeptEndpoint) (orders : List RingOrder) (events : List RingEvent) (posted : ℕ) → Holds setup k gone endpoints orders events posted → IsOf setup k

-- what is asked of a setup follows from what was read, and from what devices promise
abbrev pub IsFineRead : Type 0
IsFineRead = (setup : Setup) → ((d : ℕ) (x : DeviceSetup) → slice_get setup d ≡ Some x → IsRead x) → HasPlain setup × HasNumbers setup × IsFine setup

-- a device keeps the law by its endpoints' scripts
abbrev pub IsLawfulByScripts : Type 0
IsLawfulByScripts = (pipes : List Pipe) → IsLawful pipes → AreLawful (map (λ p. p.script) pipes)

-- what is sent of a transfer
abbrev pub out_of : ℕ → Body → DeviceSlot → Option (List ℕ)
out_of e (In n) s = None
out_of e (Out bytes) s = sends s e bytes

-- a packet of a transfer in progress at an endpoint, where this is told of it
pub record ServesEnd (setup : Setup) (k : Controller) (gone : ℕ → Bool) (endpoints : ℕ → ℕ → KeptEndpoint) (orders : List RingOrder) (events : List RingEvent) (posted d e : ℕ) (told : Told) (a : Answered) : Type 0 where
  pub y : KeptTransfer
  pub found : find_at (endpoints d e).dequeue (endpoints d e).line ≡ Some y
  pub live : y.blank ≡ false
  pub reply : a.reply ≡ reply_of y.n told
  pub holds : Holds setup (served_at k d e (out_of e y.request.body)) gone (with_end endpoints d e a.endpoint) orders (events ++ map (event_at d e) a.told) posted
  -- the bytes that come, where the device isn't gone
  pub bytes : (n : ℕ) (s : DeviceSlot) → slice_get k.slots d ≡ Some s → y.request.body ≡ In n → gone d ≡ false → read_after s e y.bytes ≡ y.bytes ++ got y.request.body (answer_now (endpoints d e)) (packet_now (packet_size_of setup d e) (endpoints d e) y).bytes

abbrev pub Serves : (setup : Setup) (k : Controller) (gone : ℕ → Bool) (endpoints : ℕ → ℕ → KeptEndpoint) (orders : List RingOrder) (events : List RingEvent) (posted d e : ℕ) → Option Told → Answered → Type 0
Serves setup k gone endpoints orders events posted d e None a = (a ≡ record { reply = Idle; endpoint = endpoints d e; told = [] }) × Holds setup (served_at k d e (λ s. None)) gone endpoints orders events posted
Serves setup k gone endpoints orders events posted d e (Some told) a = ServesEnd setup k gone endpoints orders events posted d e told a

-- the controller's packet at an endpoint that is held is the core's
abbrev pub ServesCore : Type 0
ServesCore = (setup : Setup) (k : Controller) (gone : ℕ → Bool) (endpoints : ℕ → ℕ → KeptEndpoint) (orders : List RingOrder) (events : List RingEvent) (posted d e i : ℕ) → HasPlain setup → Holds setup k gone endpoints orders events posted
    → interface_of setup d e ≡ Some i → ((endpoints d e).state ≡ Running → IsFresh (endpoints d e))
    → Serves setup k gone endpoints orders events posted d e (told_at k d e) (serve_kept (packet_size_of setup d e) (gone d) (endpoints d e))

-- the oldest order is the core's, and so is what it does
abbrev pub RunsCore : Type 0
RunsCore = (setup : Setup) (k : Controller) (gone : ℕ → Bool) (endpoints : ℕ → ℕ → KeptEndpoint) (o : RingOrder) (os : List RingOrder) (events : List RingEvent) (posted i : ℕ) → HasPlain setup → Holds setup k gone endpoints (o ∷ os) events posted
    → interface_of setup o.dev o.ep ≡ Some i → ((endpoints o.dev o.ep).state ≡ Running → IsFresh (endpoints o.dev o.ep)) → errand_of (endpoints o.dev o.ep).errand ≡ Some o.errand
    → o.place + length (o ∷ os) ≡ posted → length (o ∷ os) < 255
    → (r : Run) × (run_of k k.commands.waits ≡ Some r) × IsPosted (endpoints o.dev o.ep) o.dev o.ep o.errand r.order
    × (r.code ≡ code_of (kept.carry o.place (endpoints o.dev o.ep) o.errand (endpoints o.dev o.ep).state).ok)
    × Holds setup r.controller gone (with_end endpoints o.dev o.ep (kept.carry o.place (endpoints o.dev o.ep) o.errand (endpoints o.dev o.ep).state).endpoint) os
    (events ++ map (event_at o.dev o.ep) (kept.carry o.place (endpoints o.dev o.ep) o.errand (endpoints o.dev o.ep).state).told) posted

-- an order joins the others
abbrev pub PostsCore : Type 0
PostsCore = (setup : Setup) (k : Controller) (gone : ℕ → Bool) (endpoints : ℕ → ℕ → KeptEndpoint) (orders : List RingOrder) (events : List RingEvent) (posted d e : ℕ) (o : Errand) (t : TrbKind) → Holds setup k gone endpoints orders events posted
    → IsPosted (endpoints d e) d e o t
    → (index_of 255 k.commands.posted ≡ posted % 255)
    × Holds setup (record k { commands = posted_one 255 k.commands t }) gone endpoints (orders ++ order_at d e (record { errand = o; index = posted }) ∷ []) events (suc posted)

-- the oldest event is taken
abbrev pub TakesCore : Type 0
TakesCore = (setup : Setup) (k : Controller) (gone : ℕ → Bool) (endpoints : ℕ → ℕ → KeptEndpoint) (orders : List RingOrder) (events : List RingEvent) (posted : ℕ) → Holds setup k gone endpoints orders events posted
    → Holds setup (record k { events = record k.events { waits = drop 1 k.events.waits } }) gone endpoints orders (drop 1 events) posted

-- work of the host at one endpoint: a change of its ring, or of its device, leaves the controller with the core's endpoint
pub record HostsCore (setup : Setup) (k : Controller) (gone : ℕ → Bool) (endpoints : ℕ → ℕ → KeptEndpoint) (orders : List RingOrder) (events : List RingEvent) (posted d e : ℕ) : Type 0 where
  pub pushes : (s : DeviceSlot) (c : Context) (key n : ℕ) (request : Request) (round : ℕ) → slice_get k.slots d ≡ Some s → context_of s e ≡ Some c → length_of request.body ≤ most_bytes
      → used c.ring.line + length (trbs_of (packet_size_of setup d e) request) ≤ capacity
      → Holds setup (slot_changed k d (λ t. changed t (endpoint_id e) (λ x. with_ring x (with_pushed x.ring (normals (normals_of key (tds_of (packet_size_of setup d e) request))))))) gone
      (with_end endpoints d e (joined (packet_size_of setup d e) (endpoints d e) n request round)) orders events posted
  pub blanks : (i : ℕ) (y : KeptTransfer) → slice_get (endpoints d e).line i ≡ Some y → NoMove d e orders
      → Holds setup (slot_changed k d (λ t. changed t (endpoint_id e) (λ x. with_ring x (with_blank x.ring i)))) gone
      (with_end endpoints d e (record (endpoints d e) { line = slice_set (endpoints d e).line i (record y { blank = true }) })) orders events posted
  pub drops : (n : ℕ) → n ≤ length (endpoints d e).line → NoMove d e orders
      → Holds setup (slot_changed k d (λ t. changed t (endpoint_id e) (λ x. with_ring x (without_first x.ring n)))) gone
      (with_end endpoints d e (record (endpoints d e) { line = drop n (endpoints d e).line })) orders events posted
  pub rings : ((endpoints d e).state ≡ Halted → ⊥)
      → Holds setup (slot_changed k (suc d - 1) (λ t. changed t (endpoint_id e) rung)) gone (with_end endpoints d e (record (endpoints d e) { state = Running })) orders events posted
  -- asks, bytes, what is told, and the errand are the core's alone; an endpoint without a ring gets no errand
  pub keeps : (b : KeptEndpoint) → HaveTrbsOf (endpoints d e).line b.line → b.end ≡ (endpoints d e).end → b.dequeue ≡ (endpoints d e).dequeue → b.within ≡ (endpoints d e).within → b.state ≡ (endpoints d e).state
      → b.script_left ≡ (endpoints d e).script_left → b.device_halted ≡ (endpoints d e).device_halted → b.packets_received ≡ (endpoints d e).packets_received
      → ((s : DeviceSlot) → slice_get k.slots d ≡ Some s → context_of s e ≡ None → b.errand ≡ None)
      → Holds setup k gone (with_end endpoints d e b) orders events posted
  pub renews : NoMove d e orders → Holds setup (slot_changed k d (λ s. renewed s e)) gone (with_end endpoints d e (new_kept_endpoint (script_of setup d e))) orders events posted
  pub clears : Holds setup (slot_changed k d (λ s. record s { pipes = slice_set s.pipes (endpoint_id e) (cleared (pipe_at s.pipes e)) })) gone (with_end endpoints d e (record (endpoints d e) { device_halted = false })) orders events posted

abbrev pub HostsAll : Type 0
HostsAll = (setup : Setup) (k : Controller) (gone : ℕ → Bool) (endpoints : ℕ → ℕ → KeptEndpoint) (orders : List RingOrder) (events : List RingEvent) (posted d e i : ℕ) → HasPlain setup → Holds setup k gone endpoints orders events posted
    → interface_of setup d e ≡ Some i → HostsCore setup k gone endpoints orders events posted d e

-- a device is gone
abbrev pub UnplugsCore : Type 0
UnplugsCore = (setup : Setup) (k : Controller) (gone now : ℕ → Bool) (endpoints : ℕ → ℕ → KeptEndpoint) (orders : List RingOrder) (events : List RingEvent) (posted d : ℕ) → Holds setup k gone endpoints orders events posted
    → now d ≡ true → ((other : ℕ) → (other ≡ d → ⊥) → now other ≡ gone other)
    → Holds setup (slot_changed k d (λ s. record s { gone = true })) now endpoints orders events posted
