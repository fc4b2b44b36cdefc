-- The theorems, as the contracts of src/laws.rt name them. P: what callers keep with their transfers.
use Rattle.std.specs.Prelude.{◌≡◌, ℕ, ◌+◌, ◌-◌, ◌<◌, ◌≤◌, ◌==◌, List, [], ◌∷◌, ◌++◌, length, replicate, Option, Some, None, slice_set, if◌then◌else◌}
use Rattle.usb_tables.specs.HandleState.{Kept as HandleState}
use Rattle.usb_tables.specs.HandleStates.{SameCallbacks, SameCounts, SameNumbers, SameResults, is_there, number_of, results_at}
use Rattle.usb_tables.specs.declared.outstanding.Sent.{Sent}
use Rattle.usb_xhc.specs.Context.{Context}
use Rattle.usb_xhc.specs.Host.{rung, with_blank, with_pushed, with_ring, without_first}
use Rattle.usb_xhc.specs.Posts.{posted_one}
use Rattle.usb_xhc.specs.Transaction.{working}
use Rattle.usb_xhc.specs.declared.packet.PacketResult.{PacketResult as ServedPacket}
use Rattle.usb_xhc.specs.declared.packet.PacketResult.TheVariants as served
use Rattle.usb_xhc.specs.declared.trb_at.TrbAt.{TrbAt}
use Rattle.usb_tables.specs.ByEndpoint.{lane_at}
use Rattle.usb_tables.specs.TransfersInFlight.{TransfersInFlight, blanked_at, item_at, left_at, line_at, with_item, with_last}
use Rattle.refine_core.specs.Packets.{Serves, Skims}
use Rattle.usb_tables.specs.declared.ending.Ending.{Ending}
use Rattle.usb_model.specs.Kept.{trbs_of}
use Rattle.usb_model.specs.Setup.{Setup, endpoint_id}
use Rattle.usb_model.specs.World.{World}
use Rattle.usb_model.specs.declared.entry.Entry.{Entry}
use Rattle.usb_model.specs.declared.errand.Errand.{Errand}
use Rattle.usb_model.specs.declared.item.Ask.{Ask}
use Rattle.usb_model.specs.declared.request.Request.{Request}
use Rattle.usb_model.specs.declared.reply.Reply.TheVariants.{Moved}
use Rattle.usb_model.specs.declared.step.Step.{Step}
use Rattle.usb_model.specs.declared.step.Step.TheVariants.{Serve}
use Rattle.usb_rings.specs.Places.{index_of}
use Rattle.refine_world.specs.Shows.{Core, Shows}
use Rattle.refine_core.specs.State.{IsState, State}
use Rattle.refine_core.specs.Steps.{DoesCoreStep, DoesCoreSteps, TurnsInRow, TurnsWorld}
use Rattle.refine_core.specs.Works.{Asks, CanServeItem, CanSkimItem, Finishes, IsAt, IsFront, IsHolder, IsUnstarted, Leaves, MovesPacket, Pauses, Posts, Resumes, Starts, Withdraws, context_in, leading, order_by}
use Rattle.usb_tables.specs.Tds.{tds_of}
use Rattle.usb_tables.specs.Trbs.{normals_of}
use Rattle.usb_tables.specs.declared.transfer.Transfer.{Transfer as InFlight}
use Rattle.usb_rings.specs.Line.{capacity, normals, used}
use Rattle.usb_xhc.specs.Controller.{Controller, served_at, slot_changed, told_at}
use Rattle.usb_xhc.specs.Skims.{controller_skimmed}
use Rattle.usb_xhc.specs.Slots.{changed}
use Rattle.refine_core.specs.Packets as flight

module _ (P : Type 0) where
  -- an errand that is ordered is ordered in the core
  abbrev pub OrdersErrands : Type 0
  OrdersErrands = (old : State P) (k : Controller) (o : List (Option Sent)) (h d e : ℕ) (x : Context) (errand : Errand) (index : ℕ) → context_in old.controller d e ≡ Some x → k ≡ record old.controller { commands = posted_one 255 old.controller.commands (order_by x (leading old d e) errand) } → index ≡ index_of 255 old.controller.commands.posted → o ≡ slice_set old.outstanding (lane_at d e) (Some (record { errand = errand; index = index })) → Posts old (record old { controller = k; outstanding = o }) h d e errand

  -- an endpoint that goes on goes on in the core
  abbrev pub ResumesEndpoints : Type 0
  ResumesEndpoints = (old : State P) (k : Controller) (o : List (Option Sent)) (h d e : ℕ) (x : Context) → context_in old.controller d e ≡ Some x → k ≡ slot_changed old.controller (x.slot - 1) (λ s. changed s x.id rung) → o ≡ slice_set old.outstanding (lane_at d e) None → Resumes old (record old { controller = k; outstanding = o }) h d e

  -- blanks that leave a line leave the core's
  abbrev pub LeavesBlanks : Type 0
  LeavesBlanks = (old : State P) (k : Controller) (f : TransfersInFlight (InFlight P)) (h d e count : ℕ) → count ≤ length (line_at old.flights d e) → f ≡ left_at old.flights d e count → k ≡ slot_changed old.controller d (λ s. changed s (endpoint_id e) (λ x. with_ring x (without_first x.ring count))) → Leaves old (record old { controller = k; flights = f }) h d e count

  -- a transfer that is withdrawn is withdrawn in the core, and its result is made
  abbrev pub WithdrawsTransfers : Type 0
  WithdrawsTransfers = (old : State P) (k : Controller) (f : TransfersInFlight (InFlight P)) (callers : List HandleState) (h d e item : ℕ) (x : Ending) → ((t : InFlight P) → item_at old.flights d e item ≡ Some t → f ≡ record (blanked_at old.flights d e item) { ended = old.flights.ended ++ record { transfer = t; ending = x } ∷ [] }) → ((g id : ℕ) → results_at callers g id ≡ (if is_there h (endpoint_id e) g id then results_at old.callers g id + 1 else results_at old.callers g id)) → SameNumbers old.callers callers → SameCallbacks old.callers callers → SameCounts old.callers callers → k ≡ slot_changed old.controller d (λ s. changed s (endpoint_id e) (λ v. with_ring v (with_blank v.ring item))) → Withdraws old (record old { controller = k; flights = f; callers = callers }) h d e item x

  -- a transfer that ended leaves the core's line, and its result is made
  abbrev pub FinishesTransfers : Type 0
  FinishesTransfers = (old : State P) (k : Controller) (f g : TransfersInFlight (InFlight P)) (callers : List HandleState) (h d e item count : ℕ) (x : Ending) → ((t : InFlight P) → item_at old.flights d e item ≡ Some t → f ≡ record (blanked_at old.flights d e item) { ended = old.flights.ended ++ record { transfer = t; ending = x } ∷ [] }) → item < count → count ≤ length (line_at old.flights d e) → g ≡ left_at f d e count → ((g id : ℕ) → results_at callers g id ≡ (if is_there h (endpoint_id e) g id then results_at old.callers g id + 1 else results_at old.callers g id)) → SameNumbers old.callers callers → SameCallbacks old.callers callers → SameCounts old.callers callers → k ≡ slot_changed old.controller d (λ s. changed s (endpoint_id e) (λ v. with_ring v (without_first v.ring count))) → Finishes old (record old { controller = k; flights = g; callers = callers }) h d e item x count

  -- what is told of a pause is told in the core
  abbrev pub PausesTransfers : Type 0
  PausesTransfers = (old : State P) (f : TransfersInFlight (InFlight P)) (h d e item actual : ℕ) → ((t : InFlight P) → item_at old.flights d e item ≡ Some t → f ≡ with_item old.flights d e item (Some (record t { moved = actual }))) → Pauses old (record old { flights = f }) h d e item actual

  -- an ask that a transfer end is kept in the core
  abbrev pub AsksTransfers : Type 0
  AsksTransfers = (old : State P) (f : TransfersInFlight (InFlight P)) (h d e item : ℕ) (why : Ask) → ((t : InFlight P) → item_at old.flights d e item ≡ Some t → f ≡ with_item old.flights d e item (Some (record t { ask = Some why }))) → Asks old (record old { flights = f }) h d e item why

  -- a transfer that is accepted joins the core's line
  abbrev pub StartsTransfers : Type 0
  StartsTransfers = (old : State P) (k : Controller) (f : TransfersInFlight (InFlight P)) (callers : List HandleState) (h d e : ℕ) (x : Context) (t : InFlight P) (key : ℕ) (request : Request) (round : ℕ) → context_in old.controller d e ≡ Some x → used x.ring.line + length (trbs_of x.size request) ≤ capacity → request.ep ≡ e → IsUnstarted h t (number_of old.callers h) request round → f.lines ≡ (with_last old.flights d e key t).lines → f.keys ≡ (with_last old.flights d e key t).keys → f.ended ≡ old.flights.ended → k ≡ slot_changed old.controller d (λ s. changed s (endpoint_id e) (λ c. with_ring c (with_pushed c.ring (normals (normals_of key (tds_of x.size request)))))) → ((g : ℕ) → number_of callers g ≡ (if h == g then number_of old.callers g + 1 else number_of old.callers g)) → SameCallbacks old.callers callers → SameResults old.callers callers → SameCounts old.callers callers → Starts old (record old { controller = k; flights = f; callers = callers }) h d e request round

  -- of the item where the controller works one packet can be served: there is room for it, or there are bytes
  abbrev pub ServesSafely : Type 0
  ServesSafely = (setup : Setup) (w : World) (s : State P) (c : Core) (h d e item : ℕ) (x : Context) (first : TrbAt) → IsAt setup s c h d e → Shows setup w c → context_in s.controller d e ≡ Some x → working x ≡ Some first
      → IsFront s d e (Some item) → length s.controller.events.waits < 4095 → CanServeItem s d e item

  -- a packet is the core's: what is told of it, and what it leaves
  abbrev pub MovesPackets : Type 0
  MovesPackets = (old : State P) (k : Controller) (f : TransfersInFlight (InFlight P)) (h d e item n : ℕ) (told : ServedPacket) → (x : Context) → (first : TrbAt) → context_in old.controller d e ≡ Some x → working x ≡ Some first → Some told ≡ told_at old.controller d e → ((t : InFlight P) → item_at old.flights d e item ≡ Some t → t.n ≡ n) → ((t : InFlight P) → item_at old.flights d e item ≡ Some t → k ≡ served_at old.controller d e (flight.out_of e t.request.body)) → ((t : InFlight P) → item_at old.flights d e item ≡ Some t → Serves old.flights f old.controller d e item t) → f.ended ≡ old.flights.ended → MovesPacket old (record old { controller = k; flights = f }) h d e item n told

  -- a step that is the core's is the world's, and leaves parts that show a world
  abbrev pub TurnsWorlds : Type 0
  TurnsWorlds = (old new : State P) (step : Step) (entry : Entry) → DoesCoreStep old step entry new → TurnsWorld old step entry new × (IsState old → IsState new)

  -- two rows of steps of the core are one
  abbrev pub JoinsSteps : Type 0
  JoinsSteps = (old mid new : State P) (first behind : List Step) (es fs : List Entry) → DoesCoreSteps old first es mid → DoesCoreSteps mid behind fs new → DoesCoreSteps old (first ++ behind) (es ++ fs) new

  -- whole packets in a row are the core's
  abbrev pub SkimsPackets : Type 0
  SkimsPackets = (old : State P) (k : Controller) (f : TransfersInFlight (InFlight P)) (h d e item count n size : ℕ) → IsHolder old d e (Some h) → IsFront old d e (Some item) → ((t : InFlight P) → item_at old.flights d e item ≡ Some t → t.n ≡ n) → ((t : InFlight P) → item_at old.flights d e item ≡ Some t → (i : ℕ) → i < count → told_at (controller_skimmed d e (flight.out_of e t.request.body) i old.controller) d e ≡ Some (served.Moved size)) → ((t : InFlight P) → item_at old.flights d e item ≡ Some t → k ≡ controller_skimmed d e (flight.out_of e t.request.body) count old.controller) → ((t : InFlight P) → item_at old.flights d e item ≡ Some t → Skims old.flights f old.controller d e item count t) → DoesCoreSteps old (replicate count (Serve d e)) (replicate count (record { owner = Some h; reply = Moved n size })) (record old { controller = k; flights = f })

  -- of the item where the controller works whole packets in a row can be served: there is room for the rest of it, or there are the TRB's bytes
  abbrev pub SkimsSafely : Type 0
  SkimsSafely = (s : State P) (h d e item : ℕ) → IsState s → IsHolder s d e (Some h) → IsFront s d e (Some item) → CanSkimItem s d e item

  -- steps that are the core's are turns of the world, and leave parts that show a world
  abbrev pub RunsWorlds : Type 0
  RunsWorlds = (old new : State P) (steps : List Step) (entries : List Entry) → DoesCoreSteps old steps entries new → TurnsInRow old steps entries new
