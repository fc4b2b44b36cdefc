-- Pieces of work of which the core's steps are made, each by what it makes of every core that the parts keep.
use Rattle.std.specs.Prelude.{◌≡◌, ℕ, suc, ◌+◌, ◌<◌, ◌≤◌, ◌==◌, true, false, [], ◌∷◌, ◌++◌, length, drop, map, slice_get, slice_set, is_none, IfSome, IsSome, Option, Some, None, if◌then◌else◌}
use Rattle.std.specs.Option.{option_and_then}
use Rattle.std.specs.List.{prefix_len}
use Rattle.usb_model.specs.declared.endpoint.EndpointState.TheVariants.{Running, Halted}
use Rattle.usb_model.specs.declared.errand.Errand.{Errand}
use Rattle.usb_model.specs.declared.errand.Errand.TheVariants as errand
use Rattle.usb_model.specs.declared.item.Ask.{Ask}
use Rattle.usb_model.specs.declared.request.Request.{Request}
use Rattle.usb_model.specs.declared.result.TransferResult.{TransferResult}
use Rattle.usb_model.specs.Limits.{most_bytes}
use Rattle.usb_model.specs.Requests.{length_of}
use Rattle.usb_model.specs.Setup.{Setup, interface_of, packet_size_of}
use Rattle.usb_model.specs.World.{World, holder}
use Rattle.usb_model.specs.World.Shared.{tagged}
use Rattle.usb_trb.specs.declared.kind.TrbKind.{TrbKind}
use Rattle.usb_trb.specs.declared.kind.TrbKind.TheVariants.{ResetEndpoint, SetDequeue, StopEndpoint}
use Rattle.usb_rings.specs.Places.{address_of, cycle_of}
use Rattle.usb_rings.specs.Line.{IsAt as IsInRing, place_of, places}
use Rattle.usb_xhc.specs.declared.packet.PacketResult.{PacketResult as ServedPacket}
use Rattle.usb_xhc.specs.declared.trb_at.TrbAt.{TrbAt}
use Rattle.usb_xhc.specs.Transaction.{working}
use Rattle.usb_model.specs.Kept.{KeptEndpoint, KeptTransfer}
use Rattle.usb_model.specs.Joins.{joined}
use Rattle.usb_model.specs.Packets.{Answered, serve_kept}
use Rattle.usb_tables.specs.declared.transfer.Transfer.{Transfer as InFlight}
use Rattle.usb_tables.specs.Tds.{room_of}
use Rattle.usb_xhc.specs.Context.{Context}
use Rattle.usb_xhc.specs.Controller.{Controller}
use Rattle.usb_xhc.specs.Slots.{context_of}
use Rattle.usb_tables.specs.TransfersInFlight.{item_at, line_at}
use Rattle.refine_core.specs.Packets.{CanServe, CanSkim}
use Rattle.usb_tables.specs.declared.ending.Ending.{Ending}
use Rattle.refine_rings.specs.Reports.{reply_of}
use Rattle.refine_world.specs.Shows.{Core, Shows, event_at, order_at}
use Rattle.refine_rings.specs.Holds.{with_end}
use Rattle.refine_world.specs.Known.{NoMove}
use Rattle.usb_tables.specs.Holders.{IsSetup, owner_of}
use Rattle.refine_core.specs.State.{Keeps, State}

-- what the controller keeps of an endpoint
abbrev pub context_in : Controller → ℕ → ℕ → Option Context
context_in k d e = option_and_then (λ s. context_of s e) (slice_get k.slots d)

-- the core with another endpoint in the place of one
abbrev pub with_kept : ℕ → ℕ → KeptEndpoint → Core → Core
with_kept d e b c = record c { endpoints = with_end c.endpoints d e b }

-- what came of a transfer, as a result
abbrev pub result_by : KeptTransfer → Ending → TransferResult
result_by y x = record { n = y.n; request = y.request; round = y.round; status = x.status; actual = x.actual; bytes = y.bytes }

-- a core that the parts keep; endpoint e of device d, of an interface that name h holds
pub record IsAt {P : Type 0} (setup : Setup) (s : State P) (c : Core) (h d e : ℕ) : Type 0 where
  pub keeps : Keeps setup s c
  pub interface : ℕ
  pub there : interface_of setup d e ≡ Some interface
  pub holds : holder setup c.claims d e ≡ Some h

-- a transfer in flight of name h as it is accepted: nothing moved, no ask, and room for what it is to read
pub record IsUnstarted {P : Type 0} (h : ℕ) (t : InFlight P) (n : ℕ) (request : Request) (round : ℕ) : Type 0 where
  pub number : t.n ≡ n
  pub asks_for : t.request ≡ request
  pub again : t.round ≡ round
  pub asked : t.ask ≡ None
  pub told : t.moved ≡ 0
  pub read : t.bytes.items ≡ []
  pub room : t.bytes.capacity ≡ room_of request.body
  pub whose : t.name ≡ h

module _ {P : Type 0} (old new : State P) (h d e : ℕ) where
  -- the first items leave the line; all of them are blanks
  abbrev pub Leaves : ℕ → Type 0
  Leaves count = (setup : Setup) (c : Core) → IsAt setup old c h d e → NoMove d e c.orders
      → Keeps setup new (with_kept d e (record (c.endpoints d e) { line = drop count (c.endpoints d e).line }) c)

  -- a transfer in progress ended: its result is made, and it leaves with what stands before it and with blanks behind
  abbrev pub Finishes : ℕ → Ending → ℕ → Type 0
  Finishes item ending count = (setup : Setup) (c : Core) (y : KeptTransfer) → IsAt setup old c h d e → NoMove d e c.orders → slice_get (c.endpoints d e).line item ≡ Some y → y.blank ≡ false
      → Keeps setup new (record (with_kept d e (record (c.endpoints d e) { line = drop count (c.endpoints d e).line }) c) { results = c.results ++ tagged h (result_by y ending ∷ []) })

  -- a transfer in progress is withdrawn: its result is made, and it is a blank
  abbrev pub Withdraws : ℕ → Ending → Type 0
  Withdraws item ending = (setup : Setup) (c : Core) (y : KeptTransfer) → IsAt setup old c h d e → NoMove d e c.orders → slice_get (c.endpoints d e).line item ≡ Some y → y.blank ≡ false
      → Keeps setup new (record (with_kept d e (record (c.endpoints d e) { line = slice_set (c.endpoints d e).line item (record y { blank = true }) }) c) { results = c.results ++ tagged h (result_by y ending ∷ []) })

  -- an errand is ordered
  abbrev pub Posts : Errand → Type 0
  Posts errand = (setup : Setup) (c : Core) → IsAt setup old c h d e
      → Keeps setup new (record (with_kept d e (record (c.endpoints d e) { errand = Some (record { errand = errand; index = c.posted }) }) c) {
        orders = c.orders ++ order_at d e (record { errand = errand; index = c.posted }) ∷ [];
        posted = suc c.posted;
      })

  -- no errand is outstanding, and the doorbell is rung
  abbrev pub Resumes : Type 0
  Resumes = (setup : Setup) (c : Core) → IsAt setup old c h d e → ((c.endpoints d e).state ≡ Halted → ⊥)
      → Keeps setup new (with_kept d e (record (c.endpoints d e) { errand = None; state = Running }) c)

  -- so much of a transfer moved, as it is told
  abbrev pub Pauses : ℕ → ℕ → Type 0
  Pauses item actual = (setup : Setup) (c : Core) (y : KeptTransfer) → IsAt setup old c h d e → slice_get (c.endpoints d e).line item ≡ Some y → y.blank ≡ false
      → Keeps setup new (with_kept d e (record (c.endpoints d e) { line = slice_set (c.endpoints d e).line item (record y { moved = actual }) }) c)

  -- a transfer is asked to end
  abbrev pub Asks : ℕ → Ask → Type 0
  Asks item why = (setup : Setup) (c : Core) (y : KeptTransfer) → IsAt setup old c h d e → slice_get (c.endpoints d e).line item ≡ Some y → y.blank ≡ false
      → Keeps setup new (with_kept d e (record (c.endpoints d e) { line = slice_set (c.endpoints d e).line item (record y { ask = Some why }) }) c)

  -- a transfer joins the line under the name's next number
  abbrev pub Starts : Request → ℕ → Type 0
  Starts request round = (setup : Setup) (c : Core) → IsAt setup old c h d e → length_of request.body ≤ most_bytes
      → Keeps setup new (record (with_kept d e (joined (packet_size_of setup d e) (c.endpoints d e) (c.names h).next_number request round) c) {
        names = λ g. if h == g then record (c.names h) { next_number = (c.names h).next_number + 1 } else c.names g;
      })

-- the order of an errand (xHCI 1.2, 6.4.3), where so many blanks lead the line: Move goes to the first transfer in progress, or to the line's end
abbrev pub order_by : Context → ℕ → Errand → TrbKind
order_by c blanks errand.Stop = StopEndpoint c.slot c.id
order_by c blanks errand.Reset = ResetEndpoint c.slot c.id
order_by c blanks errand.Move = SetDequeue (address_of places c.ring.line.base (place_of c.ring.line blanks)) (cycle_of places (place_of c.ring.line blanks)) c.slot c.id

-- how many blanks lead the line of an endpoint
abbrev pub leading : {P : Type 0} → State P → ℕ → ℕ → ℕ
leading s d e = prefix_len is_none (line_at s.flights d e)

-- who holds an endpoint, if anybody does, as the tables say it
abbrev pub IsHolder : {P : Type 0} → State P → ℕ → ℕ → Option ℕ → Type 0
IsHolder s d e o = (setup : Setup) → IsSetup s.claims setup → o ≡ holder setup (λ dev i. owner_of s.claims dev i) d e

-- the item where the controller works, if it works at an endpoint: what this answers
pub record IsFront {P : Type 0} (s : State P) (d e : ℕ) (o : Option ℕ) : Type 0 where
  pub found : (x : Context) (first : TrbAt) (i j : ℕ) → context_in s.controller d e ≡ Some x → working x ≡ Some first → IsInRing x.ring.line first.pointer i j → o ≡ Some i
  pub known : (i : ℕ) → o ≡ Some i → (x : Context) × (first : TrbAt) × (context_in s.controller d e ≡ Some x) × (working x ≡ Some first)

-- one packet of an item can be served
pub record CanServeItem {P : Type 0} (s : State P) (d e item : ℕ) : Type 0 where
  pub live : IsSome (item_at s.flights d e item)
  pub bytes : IfSome (item_at s.flights d e item) (λ t. CanServe s.controller d e t.request.body t)
  pub room : length s.controller.events.waits < 4095

-- whole packets of an item in a row can be served
pub record CanSkimItem {P : Type 0} (s : State P) (d e item : ℕ) : Type 0 where
  pub live : IsSome (item_at s.flights d e item)
  pub bytes : IfSome (item_at s.flights d e item) (λ t. CanSkim s.controller d e t.request.body t)

-- what the core's endpoint leaves of one packet
abbrev pub packet_of : Setup → Core → ℕ → ℕ → Answered
packet_of setup c d e = serve_kept (packet_size_of setup d e) (c.gone d) (c.endpoints d e)

-- the core behind it
abbrev pub behind_packet : Setup → Core → ℕ → ℕ → Core
behind_packet setup c d e = record (with_kept d e (packet_of setup c d e).endpoint c) { events = c.events ++ map (event_at d e) (packet_of setup c d e).told }

-- a packet of an item is served: the transfer's number, and what is told of it
abbrev pub MovesPacket : {P : Type 0} (old new : State P) (h d e item n : ℕ) → ServedPacket → Type 0
MovesPacket old new h d e item n told = (setup : Setup) (w : World) (c : Core) → IsAt setup old c h d e → Shows setup w c → IsFront old d e (Some item)
    → ((packet_of setup c d e).reply ≡ reply_of n told) × Keeps setup new (behind_packet setup c d e)
