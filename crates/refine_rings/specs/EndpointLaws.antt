-- The theorems, as the contracts of src/laws.rt name them.
use Rattle.std.specs.Prelude.{◌≡◌, ℕ, ◌+◌, ◌-◌, ◌≤◌, min, Bool, true, false, List, [], ◌∷◌, ◌++◌, length, map, drop, slice_get, slice_set, Option, Some, None}
use Rattle.usb_model.specs.declared.endpoint.EndpointState.TheVariants.{Running, Halted}
use Rattle.usb_model.specs.declared.errand.Errand.{Errand}
use Rattle.usb_model.specs.declared.errand.Errand.TheVariants as errand
use Rattle.usb_model.specs.declared.reply.Reply.TheVariants.{Idle}
use Rattle.usb_model.specs.declared.request.Body.{Body}
use Rattle.usb_model.specs.declared.request.Body.TheVariants.{In, Out}
use Rattle.usb_model.specs.declared.request.Request.{Request}
use Rattle.usb_model.specs.declared.response.Response.{Response}
use Rattle.usb_model.specs.Limits.{most_bytes}
use Rattle.usb_model.specs.Requests.{length_of}
use Rattle.usb_trb.specs.declared.kind.Normal.{Normal as NormalTrb}
use Rattle.usb_trb.specs.declared.kind.TrbKind.{TrbKind}
use Rattle.usb_trb.specs.declared.kind.TrbKind.TheVariants.{StopEndpoint, ResetEndpoint, SetDequeue, CommandCompletion}
use Rattle.usb_rings.specs.Places.{address_of, cycle_of}
use Rattle.usb_model.specs.Kept.{KeptEndpoint, KeptTransfer, code_of, first_place, new_kept_endpoint, trbs_of}
use Rattle.usb_model.specs.Events.{find_at, past_kept_blanks}
use Rattle.usb_model.specs.Packets.{Answered, answer_now, got, packet_now, sent_before, serve_kept}
use Rattle.usb_model.specs.Commands as kept
use Rattle.usb_model.specs.Joins.{joined}
use Rattle.usb_device.specs.Pipe.{Pipe, answer_of, bytes_after, pipe_after, rewound}
use Rattle.usb_tables.specs.Tds.{tds_of}
use Rattle.usb_tables.specs.Trbs.{normals_of}
use Rattle.usb_rings.specs.Line.{IsAt, capacity, normals, place_of, places, used}
use Rattle.usb_xhc.specs.declared.trb_at.TrbAt.{TrbAt}
use Rattle.usb_xhc.specs.Context.{Context, configured}
use Rattle.usb_xhc.specs.Commands.{Carried, carried}
use Rattle.usb_xhc.specs.Host.{rung, with_ring, with_pushed, with_blank, without_first}
use Rattle.usb_xhc.specs.Transaction.{Served, offset_by, packet_out, packet_room, served, served_gone, working}
use Rattle.refine_rings.specs.Endpoint.{IsContext, IsFresh, IsPipe}
use Rattle.refine_rings.specs.Reports.{event_of, reply_of}

-- what is sent to the device
abbrev pub packet_for : Context → NormalTrb → Body → Option (List ℕ)
packet_for c t (In n) = None
packet_for c t (Out bytes) = Some (packet_out c t bytes)

-- what one packet leaves
abbrev pub served_here : Bool → Context → Response → Served
served_here true c a = served_gone c
served_here false c a = served c a

-- what the device keeps behind it
abbrev pub pipe_behind : Bool → Option (List ℕ) → Pipe → Pipe
pipe_behind true out p = p
pipe_behind false out p = pipe_after out p

-- a packet of the transfer with this TRB is the kept endpoint's
pub record ServesAs (c : Context) (p : Pipe) (b : KeptEndpoint) (gone : Bool) (first : TrbAt) (s : Served) (a : Answered) : Type 0 where
  pub y : KeptTransfer
  pub found : find_at b.dequeue b.line ≡ Some y
  pub live : y.blank ≡ false
  pub pointer : first.pointer ≡ address_of places c.ring.line.base b.dequeue
  pub reply : a.reply ≡ reply_of y.n s.packet
  pub told : (commands : ℕ) → s.events ≡ map (event_of commands c) a.told
  pub context : IsContext s.context a.endpoint
  pub pipe : IsPipe (pipe_behind gone (packet_for c first.trb y.request.body) p) a.endpoint
  -- the bytes that came, and that there is room for them; the bytes that are sent are there
  pub bytes : (n : ℕ) → y.request.body ≡ In n → bytes_after (answer_of p) (packet_room c) y.bytes ≡ y.bytes ++ got y.request.body (answer_now b) (packet_now c.size b y).bytes
  pub room : sent_before b y + packet_room c ≤ length_of y.request.body
  pub reaches : offset_by first.trb c.within + packet_room c ≤ length_of y.request.body

abbrev pub ServedAs : Context → Pipe → KeptEndpoint → Bool → Option TrbAt → Answered → Type 0
ServedAs c p b gone None a = a ≡ record { reply = Idle; endpoint = b; told = [] }
ServedAs c p b gone (Some first) a = ServesAs c p b gone first (served_here gone c (answer_of p)) a

-- the controller serves what the kept endpoint serves
abbrev pub ServesKept : Type 0
ServesKept = (c : Context) (p : Pipe) (b : KeptEndpoint) (gone : Bool) → IsContext c b → IsPipe p b → (b.state ≡ Running → IsFresh b) → ServedAs c p b gone (working c) (serve_kept c.size gone b)

-- where an endpoint goes on behind the blanks that lead its line: at the first transfer in progress, or at the line's end
abbrev pub start_of : KeptEndpoint → ℕ
start_of b = first_place (past_kept_blanks b.line) b.end

-- the order of an errand, as it stands in the command ring: the new dequeue pointer with the cycle of its place (xHCI 1.2, 6.4.3, 6.4.3.9)
abbrev pub IsOrder : Context → KeptEndpoint → Errand → TrbKind → Type 0
IsOrder c b errand.Stop k = k ≡ StopEndpoint c.slot c.id
IsOrder c b errand.Reset k = k ≡ ResetEndpoint c.slot c.id
IsOrder c b errand.Move k = k ≡ SetDequeue (address_of places c.ring.line.base (start_of b)) (cycle_of places (start_of b)) c.slot c.id

-- an order that the controller carries out at an endpoint is the kept endpoint's
pub record CarriesAs (c : Context) (b : KeptEndpoint) (index : ℕ) (r : Carried) (a : kept.Carried) : Type 0 where
  pub code : r.code ≡ code_of a.ok
  pub told : (commands : ℕ) → r.events ++ CommandCompletion (address_of 255 commands index) r.code c.slot ∷ [] ≡ map (event_of commands c) a.told
  pub context : IsContext r.context a.endpoint
  pub pipe : (p : Pipe) → IsPipe p b → IsPipe p a.endpoint

abbrev pub CarriesKept : Type 0
CarriesKept = (c : Context) (b : KeptEndpoint) (index : ℕ) (o : Errand) (k : TrbKind) → IsContext c b → (b.state ≡ Running → IsFresh b) → IsOrder c b o k
    → CarriesAs c b index (carried k c) (kept.carry index b o b.state)

-- a transfer's TRBs join the line, where there is room for them
abbrev pub PushesKept : Type 0
PushesKept = (c : Context) (b : KeptEndpoint) (key n : ℕ) (request : Request) (round : ℕ) → IsContext c b → length_of request.body ≤ most_bytes → used c.ring.line + length (trbs_of c.size request) ≤ capacity
    → IsContext (with_ring c (with_pushed c.ring (normals (normals_of key (tds_of c.size request))))) (joined c.size b n request round)

-- a transfer is withdrawn
abbrev pub BlanksKept : Type 0
BlanksKept = (c : Context) (b : KeptEndpoint) (i : ℕ) (y : KeptTransfer) → IsContext c b → slice_get b.line i ≡ Some y
    → IsContext (with_ring c (with_blank c.ring i)) (record b { line = slice_set b.line i (record y { blank = true }) })

-- the first items leave
abbrev pub DropsKept : Type 0
DropsKept = (c : Context) (b : KeptEndpoint) (k : ℕ) → IsContext c b → k ≤ length b.line → IsContext (with_ring c (without_first c.ring k)) (record b { line = drop k b.line })

-- the doorbell is rung
abbrev pub RingsKept : Type 0
RingsKept = (c : Context) (b : KeptEndpoint) → IsContext c b → (b.state ≡ Halted → ⊥) → IsContext (rung c) (record b { state = Running })

-- an endpoint is made new
pub record MadeKept : Type 0 where
  pub context : (slot id size base : ℕ) (script : List Response) → IsContext (configured slot id size base) (new_kept_endpoint script)
  pub pipe : (p : Pipe) → IsPipe (rewound p) (new_kept_endpoint p.script)

-- lines whose transfers have the same TRBs
pub record HasTrbsOf (y z : KeptTransfer) : Type 0 where
  pub place : z.place ≡ y.place
  pub lengths : z.lengths ≡ y.lengths
  pub blank : z.blank ≡ y.blank
  pub request : z.request ≡ y.request

abbrev pub HaveTrbsOf : List KeptTransfer → List KeptTransfer → Type 0
HaveTrbsOf [] [] = Unit {0}
HaveTrbsOf (y ∷ ys) (z ∷ zs) = HasTrbsOf y z × HaveTrbsOf ys zs
HaveTrbsOf _ _ = ⊥

-- asks, bytes and what is told of transfers are nothing to the controller
abbrev pub KeepsKept : Type 0
KeepsKept = (c : Context) (b : KeptEndpoint) (line : List KeptTransfer) → IsContext c b → HaveTrbsOf b.line line → IsContext c (record b { line = line })

-- where things stand in the ring
pub record FindsKept : Type 0 where
  -- the item at a place, by the place's address
  pub item : (c : Context) (b : KeptEndpoint) (p : ℕ) (y : KeptTransfer) → IsContext c b → find_at p b.line ≡ Some y
      → (i : ℕ) × (slice_get b.line i ≡ Some y) × IsAt c.ring.line (address_of places c.ring.line.base p) i (p - y.place)
  -- the address of an item, or of enqueue
  pub address : (c : Context) (b : KeptEndpoint) (i : ℕ) → IsContext c b → i ≤ length b.line
      → address_of places c.ring.line.base (place_of c.ring.line i) ≡ address_of places c.ring.line.base (first_place (drop i b.line) b.end)
  -- its cycle
  pub cycle : (c : Context) (b : KeptEndpoint) (i : ℕ) → IsContext c b → i ≤ length b.line → cycle_of places (place_of c.ring.line i) ≡ cycle_of places (first_place (drop i b.line) b.end)
  -- the places in use
  pub used : (c : Context) (b : KeptEndpoint) → IsContext c b → used c.ring.line + min b.dequeue (first_place b.line b.end) ≡ b.end
  -- as many items as transfers
  pub items : (c : Context) (b : KeptEndpoint) → IsContext c b → length c.ring.line.items ≡ length b.line
