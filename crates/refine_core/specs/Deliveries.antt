-- The oldest event is handled, by what it makes of every core that the parts keep.
use Rattle.std.specs.Prelude.{◌≡◌, Bool, false, ℕ, ◌+◌, ◌<◌, ◌≤◌, List, ◌∷◌, ◌++◌, length, map, not, is_some, count_by, take, Option, drop, is_none, slice_get, Some, None, IfSome, IsSome, if◌then◌else◌, ◌&&◌, ◌*◌, ◌==◌, nat_lt, true}
use Rattle.std.specs.List.{prefix_len}
use Rattle.std.specs.Option.{option_map_or}
use Rattle.usb_model.specs.declared.entry.Entry.{Entry}
use Rattle.usb_model.specs.Completion.{stopped}
use Rattle.usb_model.specs.declared.errand.Errand.{Errand}
use Rattle.usb_model.specs.declared.reply.Reply.{Reply}
use Rattle.usb_model.specs.Endpoint.Status.{halts, told_status}
use Rattle.usb_model.specs.Machine.{is_result_at}
use Rattle.usb_model.specs.Requests.{is_short_not_ok, is_unsupported, length_of}
use Rattle.usb_model.specs.World.Shared.{pieces_of, tagged}
use Rattle.usb_tables.specs.declared.transfer.Transfer.{Transfer as InFlight}
use Rattle.usb_model.specs.Settlements.{kept_blanked, withdrawn_results}
use Rattle.refine_world.specs.Known.{NoMove}
use Rattle.refine_core.specs.Works.{IsAt, with_kept}
use Rattle.usb_model.specs.Setup.{Setup, endpoint_id, kind_of}
use Rattle.usb_model.specs.World.{World, holder}
use Rattle.usb_trb.specs.declared.kind.TrbKind.{TrbKind}
use Rattle.usb_model.specs.Kept.{KeptTransfer}
use Rattle.usb_model.specs.Events.{errand_of, kept_result, reading}
use Rattle.usb_tables.specs.declared.ending.Ending.{Ending}
use Rattle.usb_tables.specs.HandleStates.{results_at}
use Rattle.usb_xhc.specs.Controller.{Controller}
use Rattle.usb_xhc.specs.Slots.{context_of}
use Rattle.usb_tables.specs.ByEndpoint.{lane_at}
use Rattle.usb_tables.specs.TransfersInFlight.{item_at, line_at}
use Rattle.refine_world.specs.Shows.{Completes, Core, RingEvent, Shows, Transfers}
use Rattle.refine_world.specs.Steps.{deliver_core, is_sent, sender}
use Rattle.refine_rings.specs.Holds.{event_trb}
use Rattle.refine_core.specs.State.{Keeps, State}
use Rattle.refine_core.specs.Steps.{Is}

-- a line of which the first items were withdrawn, where they were asked to end
abbrev pub withdrawn_to : ℕ → List KeptTransfer → List KeptTransfer
withdrawn_to k line = map kept_blanked (take k line) ++ drop k line

module _ {P : Type 0} where
  -- the oldest event of a core that shows a world was taken from the parts, which keep the rest; the event is told by this TRB
  pub record IsTaken (setup : Setup) (s : State P) (c : Core) (k : TrbKind) : Type 0 where
    pub world : World
    pub shows : Shows setup world c
    pub event : RingEvent
    pub rest : List RingEvent
    pub first : c.events ≡ event ∷ rest
    pub told : k ≡ event_trb s.controller.commands.memory.base event
    pub keeps : Keeps setup s (record c { events = rest })

  -- of some core
  abbrev pub IsEvent : State P → TrbKind → Type 0
  IsEvent s k = (setup : Setup) × (c : Core) × IsTaken setup s c k

  -- an event that was taken is handled as the core handles it
  abbrev pub Delivers : State P → TrbKind → Entry → State P → Type 0
  Delivers old k entry new = (setup : Setup) (c : Core) → IsTaken setup old c k → Is setup (deliver_core setup c) entry new

  -- the event that was taken has this code and tells of a transfer in progress, of name h at endpoint e of device d: where this stands in its line, its number, and how much of it moved
  pub record Tells (setup : Setup) (s : State P) (c : Core) (h d e item n actual code : ℕ) : Type 0 where
    pub world : World
    pub shows : Shows setup world c
    pub place : ℕ
    pub residual : ℕ
    pub rest : List RingEvent
    pub first : c.events ≡ Transfers d e place residual code ∷ rest
    pub keeps : Keeps setup s (record c { events = rest })
    pub holds : holder setup c.claims d e ≡ Some h
    pub kept : KeptTransfer
    pub reads : reading (c.endpoints d e).line place residual ≡ Some (record { kept = kept; actual = actual })
    pub there : slice_get (c.endpoints d e).line item ≡ Some kept
    pub number : kept.n ≡ n

  -- the transfer of an item can end, and leave with so many items: all others of these are blanks, and there is room for its result
  pub record CanFinish (s : State P) (h d e item count : ℕ) : Type 0 where
    pub live : IsSome (item_at s.flights d e item)
    pub lane : lane_at d e < length s.flights.lines
    pub before : item < count
    pub within : count ≤ length (line_at s.flights d e)
    pub few : count ≤ 16
    pub blank : (i : ℕ) → i < count → (i ≡ item → ⊥) → item_at s.flights d e i ≡ None
    pub room : results_at s.callers h (endpoint_id e) < 16
    pub items : IfSome (slice_get s.controller.slots d) (λ v. IfSome (context_of v e) (λ x. count ≤ length x.ring.line.items))

  -- the event that was taken has this code and is the completion of this errand, at endpoint e of device d, which name h holds
  pub record Settles (setup : Setup) (s : State P) (c : Core) (h d e : ℕ) (errand : Errand) (code : ℕ) : Type 0 where
    pub world : World
    pub shows : Shows setup world c
    pub index : ℕ
    pub rest : List RingEvent
    pub first : c.events ≡ Completes d index code ∷ rest
    pub keeps : Keeps setup s (record c { events = rest })
    pub sends : sender setup c d index ≡ Some e
    pub holds : holder setup c.claims d e ≡ Some h
    pub order : errand_of (c.endpoints d e).errand ≡ Some errand

  -- of some core
  abbrev pub IsCompletion : State P → (h d e : ℕ) → Errand → (code : ℕ) → Type 0
  IsCompletion s h d e errand code = (setup : Setup) × (c : Core) × Settles setup s c h d e errand code

  -- the completion is handled as the core handles it
  abbrev pub Settled : (old : State P) (h d e : ℕ) → Errand → (code : ℕ) → Reply → (new : State P) → Type 0
  Settled old h d e errand code reply new = (setup : Setup) (c : Core) → Settles setup old c h d e errand code → Is setup (deliver_core setup c) (record { owner = Some h; reply = reply }) new

  -- how many items leave a line where the transfer of an item ended with this code: it, those before it, and, where the endpoint goes on, the blanks behind it
  abbrev pub leaving : State P → (d e item code : ℕ) → ℕ
  leaving s d e item code = item + 1 + (if halts code then 0 else prefix_len is_none (drop (item + 1) (line_at s.flights d e)))

  -- an endpoint of name h can be settled: a core is kept whose transfers in progress there and results are few, no order to go on elsewhere waits, and an order can be posted
  pub record CanSettle (s : State P) (h d e : ℕ) : Type 0 where
    pub setup : Setup
    pub core : Core
    pub at : IsAt setup s core h d e
    pub still : NoMove d e core.orders
    pub few : count_by (λ y. not y.blank) (core.endpoints d e).line + count_by (is_result_at e) (pieces_of h core.results) ≤ 16
    pub supported : is_unsupported (kind_of setup d e) ≡ false
    pub room : length core.orders < 254

  -- the first items of an endpoint's line can leave: they are blanks
  pub record CanLeave (s : State P) (d e count : ℕ) : Type 0 where
    pub within : count ≤ length (line_at s.flights d e)
    pub blank : (i : ℕ) → i < count → item_at s.flights d e i ≡ None
    pub items : IfSome (slice_get s.controller.slots d) (λ v. IfSome (context_of v e) (λ x. count ≤ length x.ring.line.items))

  -- the first items of a line that were asked to end are withdrawn, and their results are made
  abbrev pub WithdrawsTo : (old new : State P) (h d e k : ℕ) → Type 0
  WithdrawsTo old new h d e k = (setup : Setup) (c : Core) → IsAt setup old c h d e → NoMove d e c.orders
      → Keeps setup new (record (with_kept d e (record (c.endpoints d e) { line = withdrawn_to k (c.endpoints d e).line }) c) { results = c.results ++ tagged h (withdrawn_results (take k (c.endpoints d e).line)) })

  -- so all of them
  abbrev pub WithdrawsAll : (old new : State P) (h d e : ℕ) → Type 0
  WithdrawsAll old new h d e = (setup : Setup) (c : Core) → IsAt setup old c h d e → NoMove d e c.orders
      → Keeps setup new (record (with_kept d e (record (c.endpoints d e) { line = map kept_blanked (c.endpoints d e).line }) c) { results = c.results ++ tagged h (withdrawn_results (c.endpoints d e).line) })

  -- what comes of a transfer in flight that is withdrawn; None where it wasn't asked to end
  abbrev pub asked_ending : Option (InFlight P) → Option Ending
  asked_ending None = None
  asked_ending (Some t) = if is_some t.ask then Some (record { status = told_status false stopped t.ask (is_short_not_ok t.request) (length_of t.request.body) t.moved; actual = t.moved }) else None

-- whether an endpoint is held, and its errand has this order
abbrev pub sends : Setup → Core → (d index e : ℕ) → Bool
sends setup c d index e = is_some (holder setup c.claims d e) && is_sent index (c.endpoints d e).errand

-- what this answers: who holds it, and its errand
abbrev pub SentIs : Setup → Core → (d index e : ℕ) → Option (ℕ × Errand) → Type 0
SentIs setup c d index e None = sends setup c d index e ≡ false
SentIs setup c d index e (Some x) = (sends setup c d index e ≡ true) × (holder setup c.claims d e ≡ Some x.0) × (errand_of (c.endpoints d e).errand ≡ Some x.1)

-- whether the order of an index stands at this address
abbrev pub stands_at : Controller → ℕ → ℕ → Bool
stands_at k index pointer = nat_lt index 255 && (k.commands.memory.base + 16 * index == pointer)

-- what comes of a transfer that ended with this code, of a device that may be gone
abbrev pub ending_of : Core → ℕ → KeptTransfer → (actual code : ℕ) → Ending
ending_of c d y actual code = record { status = (kept_result (c.gone d) code y actual).status; actual = actual }

-- whether a device is gone
abbrev pub is_gone : Controller → ℕ → Bool
is_gone k d = option_map_or (λ s. s.gone) (slice_get k.slots d) false
