-- The theorems, as the contracts of src/laws.rt name them.
use Rattle.std.specs.Prelude.{◌≡◌, ℕ, ◌+◌, ◌*◌, ◌<◌, ◌≤◌, None, Bool, true, false, List, [], ◌∷◌, ◌++◌, length, Some, ◌⊎◌}
use Rattle.std.specs.List.{list_all}
use Rattle.usb_model.specs.declared.errand.Errand.{Errand}
use Rattle.usb_model.specs.declared.endpoint.Endpoint.{Endpoint}
use Rattle.usb_model.specs.declared.endpoint.EndpointState.TheVariants.{Running}
use Rattle.usb_model.specs.declared.item.Ask.{Ask}
use Rattle.usb_model.specs.declared.item.Item.{Item}
use Rattle.usb_model.specs.declared.news.Event.{Event}
use Rattle.usb_model.specs.declared.news.Event.TheVariants.{Finished, Paused, Settled}
use Rattle.usb_model.specs.declared.request.Request.{Request}
use Rattle.usb_model.specs.Machine.Calls.{asks}
use Rattle.usb_model.specs.Endpoint.Command.{command}
use Rattle.usb_model.specs.Direction.{is_of_direction, IsBody}
use Rattle.usb_model.specs.Endpoint.Deliver.{deliver}
use Rattle.usb_model.specs.Endpoint.{first_waiting, fresh, new_item}
use Rattle.usb_model.specs.Endpoint.Serve.{serve}
use Rattle.usb_model.specs.Setup.{Setup}
use Rattle.usb_model.specs.declared.step.Step.{Step}
use Rattle.usb_model.specs.declared.step.Step.TheVariants.{Command, Deliver, Serve, Take, Unplug}
use Rattle.usb_model.specs.Machine.Turns.{gone_after, unplug_reply}
use Rattle.usb_model.specs.World.{World, holder, machine_of, new_world, world_from}
use Rattle.refine_world.specs.Lively.{IsLively, ends_of}
use Rattle.refine_world.specs.Shows.{Core, Shows, under_way}
use Rattle.refine_world.specs.Steps.{StepsTo, command_core, deliver_core, new_core, serve_core, take_core}
use Rattle.usb_model.specs.Coherence.{IsCoherent}
use Rattle.usb_model.specs.Stands.{read_off, residual, stand, total}
use Rattle.usb_model.specs.Kept.{KeptEndpoint, KeptTransfer, Completion, SentErrand, Telling, Transfer, code_of, first_place, index_of}
use Rattle.refine_world.specs.ShownEndpoint.{IsOrderly, ShowsEnd}
use Rattle.refine_world.specs.Kept.{Handles, Serves, Carries}
use Rattle.usb_model.specs.Events.{Reading, find_at, finish, reading}
use Rattle.usb_model.specs.Packets.{sent_before, serve_kept}
use Rattle.usb_model.specs.Commands.{carry}
use Rattle.usb_model.specs.Settlements.{pauses, settle}
use Rattle.usb_model.specs.Joins.{asked, joined}

-- the bytes moved are read off the residual of an event where the transfer stands
abbrev pub ReadsBack : Type 0
ReadsBack = (l : ℕ) (ls : List ℕ) (c : ℕ) → c ≤ total (l ∷ ls) → read_off (l ∷ ls) (stand (l ∷ ls) c).index (residual (l ∷ ls) c) ≡ c

abbrev pub DeliversFinished : Type 0
DeliversFinished = (size ep : ℕ) (gone : Bool) (next : ℕ) (e : Endpoint) (os : List Errand) (ns : List Event) (b : KeptEndpoint) (sent : List SentErrand) (t : Telling) (told : List Telling) (n code : ℕ)
    → IsCoherent e os (Finished n code ∷ ns) → ShowsEnd size e os (Finished n code ∷ ns) b sent (t ∷ told)
    → (p : ℕ) × (r : ℕ) × (found : Reading) × (t ≡ Transfer p r code) × (reading b.line p r ≡ Some found) × Handles size (deliver size ep gone e (Finished n code)) (finish gone next b p code found) os ns sent told

abbrev pub DeliversPaused : Type 0
DeliversPaused = (size ep : ℕ) (gone : Bool) (e : Endpoint) (os : List Errand) (ns : List Event) (b : KeptEndpoint) (sent : List SentErrand) (t : Telling) (told : List Telling) (n : ℕ)
    → IsCoherent e os (Paused n ∷ ns) → ShowsEnd size e os (Paused n ∷ ns) b sent (t ∷ told)
    → (p : ℕ) × (r : ℕ) × (found : Reading) × (t ≡ Transfer p r 26) × (reading b.line p r ≡ Some found) × Handles size (deliver size ep gone e (Paused n)) (pauses b p found) os ns sent told

abbrev pub DeliversSettled : Type 0
DeliversSettled = (size ep : ℕ) (gone : Bool) (next : ℕ) (e : Endpoint) (os : List Errand) (ns : List Event) (b : KeptEndpoint) (sent : List SentErrand) (t : Telling) (told : List Telling) (o : Errand) (ok : Bool)
    → IsCoherent e os (Settled o ok ∷ ns) → IsOrderly size e → ShowsEnd size e os (Settled o ok ∷ ns) b sent (t ∷ told)
    → (t ≡ Completion (index_of b.errand) (code_of ok)) × (e.errand ≡ Some o) × Handles size (deliver size ep gone e (Settled o ok)) (settle ep next b o ok) os ns sent told

-- inward: whether the endpoint is one of IN
abbrev pub ServesPackets : Type 0
ServesPackets = (size : ℕ) (inward gone : Bool) (e : Endpoint) (os : List Errand) (ns : List Event) (b : KeptEndpoint) (sent : List SentErrand) (told : List Telling) → 0 < size
    → IsCoherent e os ns → IsOrderly size e → ((x : Item) → first_waiting e.line ≡ Some x → IsBody inward x.request.body) → list_all (is_of_direction inward) e.script_left ≡ true
    → ShowsEnd size e os ns b sent told → Serves size (serve size gone e) (serve_kept size gone b) os ns sent told

abbrev pub CarriesOrders : Type 0
CarriesOrders = (size ep : ℕ) (e : Endpoint) (o : Errand) (os : List Errand) (ns : List Event) (b : KeptEndpoint) (w : SentErrand) (sent : List SentErrand) (told : List Telling) → 0 < size
    → IsCoherent e (o ∷ os) ns → IsOrderly size e → ShowsEnd size e (o ∷ os) ns b (w ∷ sent) told
    → (w.errand ≡ o) × Carries size ep o (command size ep e o e.state) (carry w.index b o b.state) os ns sent told

abbrev pub AcceptsSubmissions : Type 0
AcceptsSubmissions = (size : ℕ) (e : Endpoint) (os : List Errand) (ns : List Event) (b : KeptEndpoint) (sent : List SentErrand) (told : List Telling) (n : ℕ) (request : Request) (round : ℕ) → ShowsEnd size e os ns b sent told
    → ShowsEnd size (record e { line = e.line ++ new_item n request round ∷ [] }) os ns (joined size b n request round) sent told

abbrev pub AcceptsAsks : Type 0
AcceptsAsks = (size next : ℕ) (e : Endpoint) (os : List Errand) (ns : List Event) (b : KeptEndpoint) (sent : List SentErrand) (told : List Telling) (n : ℕ) (ask : Ask) → IsCoherent e os ns → ShowsEnd size e os ns b sent told
    → Handles size (asks e n ask) (asked next b n ask) os ns sent told

abbrev pub FewAtEndpoint : Type 0
FewAtEndpoint = (e : Endpoint) (os : List Errand) (ns : List Event) → IsCoherent e os ns → length e.line ≤ 16 → (length os ≤ 1) × (length ns ≤ 18)

-- what more is known of a reachable world's endpoints holds of new ones, and is kept by each kind of work
pub record KeepsOrder (size : ℕ) : Type 0 where
  pub anew : (setup : Setup) (d e : ℕ) → IsOrderly size (fresh setup d e)
  pub served : (inward gone : Bool) (e : Endpoint) (os : List Errand) (ns : List Event) → 0 < size → IsCoherent e os ns → IsOrderly size e → ((x : Item) → first_waiting e.line ≡ Some x → IsBody inward x.request.body) → list_all (is_of_direction inward) e.script_left ≡ true
      → IsOrderly size (serve size gone e).endpoint
  pub commanded : (ep : ℕ) (e : Endpoint) (o : Errand) (os : List Errand) (ns : List Event) → IsCoherent e (o ∷ os) ns → IsOrderly size e → IsOrderly size (command size ep e o e.state).endpoint
  pub delivered : (ep : ℕ) (gone : Bool) (e : Endpoint) (os : List Errand) (event : Event) (ns : List Event) → IsCoherent e os (event ∷ ns) → IsOrderly size e → IsOrderly size (deliver size ep gone e event).endpoint
  pub asked : (e : Endpoint) (n : ℕ) (ask : Ask) → IsOrderly size e → IsOrderly size (asks e n ask).endpoint
  pub submitted : (e : Endpoint) (n : ℕ) (request : Request) (round : ℕ) → IsOrderly size e → IsOrderly size (record e { line = e.line ++ new_item n request round ∷ [] })
  pub cleared : (e : Endpoint) → IsOrderly size e → IsOrderly size (record e { device_halted = false })

-- the whole core: from a core that shows a world each of these steps gives the entry of the world's turn, and a core that shows the world after it
pub record StepsOfCore (setup : Setup) : Type 0 where
  pub news : Shows setup (new_world setup) (new_core setup)
  pub serves : (w : World) (c : Core) → Shows setup w c → (dev ep : ℕ) → StepsTo setup w (Serve dev ep) (serve_core setup c dev ep)
  pub commands : (w : World) (c : Core) → Shows setup w c → StepsTo setup w Command (command_core setup c)
  pub delivers : (w : World) (c : Core) → Shows setup w c → StepsTo setup w Deliver (deliver_core setup c)
  pub takes : (w : World) (c : Core) → Shows setup w c → StepsTo setup w Take (take_core setup c)
  pub unplugs : (w : World) (c : Core) → Shows setup w c → (dev : ℕ) → StepsTo setup w (Unplug dev) (record { entry = record { owner = None; reply = unplug_reply setup c.gone dev }; core = record c { gone = λ d. gone_after setup c.gone (Unplug dev) d } })

-- in a core that shows a world at most 18 events and one order wait for each endpoint that there is
abbrev pub FewEverywhere : Setup → Type 0
FewEverywhere setup = (w : World) (c : Core) → Shows setup w c → (length c.events ≤ length (ends_of setup) * 18) × (length c.orders ≤ length (ends_of setup) * 1)

-- each endpoint that a handle has in a world that can be reached is orderly, and its transfers and answers go in its direction
abbrev pub LivelyAll : Setup → Type 0
LivelyAll setup = (steps : List Step) (h d ep : ℕ) (e : Endpoint) → (machine_of setup h (world_from setup (new_world setup) steps)).endpoints d ep ≡ Some e → IsLively setup d ep e

-- a running endpoint's controller stands at the line's end, or in a transfer in progress
abbrev pub FreshWhileRunning : Setup → Type 0
FreshWhileRunning setup = (w : World) (c : Core) → Shows setup w c → (h d e : ℕ) → holder setup w.claims d e ≡ Some h → (c.endpoints d e).state ≡ Running
    → ((c.endpoints d e).dequeue ≡ (c.endpoints d e).end) ⊎ ((y : KeptTransfer) × (find_at (c.endpoints d e).dequeue (c.endpoints d e).line ≡ Some y) × (y.blank ≡ false))

-- of the transfer there no more was read than moved
abbrev pub ReadsSoFar : Setup → Type 0
ReadsSoFar setup = (w : World) (c : Core) → Shows setup w c → (h d e : ℕ) → holder setup w.claims d e ≡ Some h → (c.endpoints d e).state ≡ Running → (y : KeptTransfer) → find_at (c.endpoints d e).dequeue (c.endpoints d e).line ≡ Some y
    → length y.bytes ≤ sent_before (c.endpoints d e) y

-- each endpoint that there is has at most one order or completion under way
abbrev pub FewUnderWay : Setup → Type 0
FewUnderWay setup = (w : World) (c : Core) → Shows setup w c → length (under_way c.events c.orders) ≤ length (ends_of setup)

-- in a core that shows a world a held endpoint's line takes at most 80 places, begins at most 5 places behind where the controller stands, and the controller stands at its end or before
abbrev pub NearEverywhere : Setup → Type 0
NearEverywhere setup = (w : World) (c : Core) → Shows setup w c → (h d e : ℕ) → holder setup w.claims d e ≡ Some h
    → ((c.endpoints d e).end ≤ first_place (c.endpoints d e).line (c.endpoints d e).end + 80) × (first_place (c.endpoints d e).line (c.endpoints d e).end ≤ (c.endpoints d e).dequeue + 5) × ((c.endpoints d e).dequeue ≤ (c.endpoints d e).end)
