-- A step of the parts, by what it makes of every core that they keep.
use Rattle.std.specs.Prelude.{◌≡◌, ℕ, suc, ◌==◌, ◌<◌, Bool, true, false, List, [], ◌∷◌, ◌++◌, length, slice_get, Option, Some, None}
use Rattle.std.specs.Option.{option_and_then}
use Rattle.usb_model.specs.declared.entry.Entry.{Entry}
use Rattle.usb_model.specs.declared.errand.Errand.{Errand}
use Rattle.usb_model.specs.declared.errand.Errand.TheVariants as errand
use Rattle.usb_model.specs.declared.item.Ask.{Ask}
use Rattle.usb_model.specs.declared.reply.Reply.{Reply}
use Rattle.usb_model.specs.declared.reply.Reply.TheVariants.{Ran}
use Rattle.usb_model.specs.declared.result.TransferResult.{TransferResult}
use Rattle.usb_model.specs.declared.step.Step.{Step}
use Rattle.usb_model.specs.Machine.Turns.{takes_news, takes_order}
use Rattle.usb_model.specs.Requests.{is_unsupported}
use Rattle.usb_model.specs.Setup.{Setup, endpoint_id, endpoints_of, kind_of}
use Rattle.usb_model.specs.World.{World, holder, turn, world_from}
use Rattle.usb_model.specs.World.Journal.{run_from}
use Rattle.usb_model.specs.World.Shared.{past_first, tagged}
use Rattle.usb_model.specs.Kept.{KeptEndpoint, KeptTransfer}
use Rattle.usb_trb.specs.declared.kind.TrbKind.{TrbKind}
use Rattle.usb_trb.specs.declared.kind.TrbKind.TheVariants.{CommandCompletion, Link, NoOp, Normal, ResetEndpoint, SetDequeue, StopEndpoint, TransferEvent}
use Rattle.usb_xhc.specs.Controller.{Run, run_of}
use Rattle.refine_world.specs.Shows.{Core, RingOrder, Shows}
use Rattle.usb_model.specs.Joins.{asked}
use Rattle.refine_world.specs.Steps.{Stepped, command_core, handle_work, worked}
use Rattle.refine_world.specs.Calls.{ask_core, device_of, is_kept_it, kept_home, kept_in_progress, own_kept, step_core}
use Rattle.refine_rings.specs.Holds.{with_end}
use Rattle.refine_core.specs.State.{Keeps, ShowsWorld, State}
use Rattle.refine_core.specs.Works.{IsAt}

-- the entries of steps of the core, one behind another
unfoldable pub core_entries : Setup → Core → List Step → List Entry
core_entries setup c [] = []
core_entries setup c (step ∷ steps) = (step_core setup c step).entry ∷ core_entries setup (step_core setup c step).core steps

-- the core behind them
unfoldable pub core_behind : Setup → Core → List Step → Core
core_behind setup c [] = c
core_behind setup c (step ∷ steps) = core_behind setup (step_core setup c step).core steps

module _ {P : Type 0} where
  -- a step is the core's: its entry, and the core that is then kept
  abbrev pub DoesCoreStep : State P → Step → Entry → State P → Type 0
  DoesCoreStep old step entry new = (setup : Setup) (w : World) (c : Core) → Keeps setup old c → Shows setup w c → (entry ≡ (step_core setup c step).entry) × Keeps setup new (step_core setup c step).core

  -- steps are the core's, one behind another: their entries, and the core that is kept behind the last
  abbrev pub DoesCoreSteps : State P → List Step → List Entry → State P → Type 0
  DoesCoreSteps old steps entries new = (setup : Setup) (w : World) (c : Core) → Keeps setup old c → Shows setup w c → (entries ≡ core_entries setup c steps) × Keeps setup new (core_behind setup c steps)

  -- a step is the world's: its entry is that of the world's turn, and the parts then show the next world
  abbrev pub TurnsWorld : State P → Step → Entry → State P → Type 0
  TurnsWorld old step entry new = (setup : Setup) (w : World) → ShowsWorld setup old w → (entry ≡ (turn setup w step).entry) × ShowsWorld setup new (turn setup w step).world

  -- steps are the world's, one behind another: their entries are those of the world's turns, and the parts then show the world behind the last
  abbrev pub TurnsInRow : State P → List Step → List Entry → State P → Type 0
  TurnsInRow old steps entries new = (setup : Setup) (w : World) → ShowsWorld setup old w → (entries ≡ run_from setup w steps) × ShowsWorld setup new (world_from setup w steps)

  -- a step whose entry and core these are
  abbrev pub Is : Setup → Stepped → Entry → State P → Type 0
  Is setup t entry new = (entry ≡ t.entry) × Keeps setup new t.core

  -- a transfer of a name is asked to end; timed: since its time is over. step: any that takes nothing from the rings
  abbrev pub AsksToEnd : (old new : State P) (h n : ℕ) → Ask → Bool → Reply → Type 0
  AsksToEnd old new h n why timed reply = (setup : Setup) (w : World) (c : Core) (step : Step) → Keeps setup old c → Shows setup w c → takes_order step ≡ false → takes_news step ≡ false
      → Is setup (ask_core c h step n why timed (kept_home setup c h n (endpoints_of setup (device_of c h)))) (record { owner = Some h; reply = reply }) new

  -- an order can be posted at an endpoint: a core is kept, of which a name holds the endpoint, transfers can go there, and few orders wait
  pub record CanPost (s : State P) (d e : ℕ) : Type 0 where
    pub setup : Setup
    pub core : Core
    pub name : ℕ
    pub at : IsAt setup s core name d e
    pub supported : is_unsupported (kind_of setup d e) ≡ false
    pub room : length core.orders < 254

-- the transfer of a name and a number, in progress in a line: where its place is
pub record IsInLine (setup : Setup) (c : Core) (h n d e item : ℕ) : Type 0 where
  pub kept : KeptTransfer
  pub holds : holder setup c.claims d e ≡ Some h
  pub there : slice_get (c.endpoints d e).line item ≡ Some kept
  pub first : kept_in_progress n (c.endpoints d e).line ≡ Some kept
  pub its : is_kept_it n kept ≡ true

-- whether it is in this line: what this answers
abbrev pub InLine : Setup → Core → (h n d e : ℕ) → Option ℕ → Type 0
InLine setup c h n d e None = option_and_then (λ b. kept_in_progress n b.line) (own_kept setup c h d e) ≡ None
InLine setup c h n d e (Some item) = IsInLine setup c h n d e item

-- where it is in progress, at an endpoint of the name's device
pub record IsHome (setup : Setup) (c : Core) (h n d e item : ℕ) : Type 0 where
  pub device : (c.names h).device ≡ Some d
  pub line : IsInLine setup c h n d e item
  pub home : kept_home setup c h n (endpoints_of setup d) ≡ Some (record { ep = e; endpoint = c.endpoints d e; kept = line.kept })

-- a core amid work of name h at an endpoint: without what the step takes, with this endpoint, and with these results behind the others
abbrev pub amid : (h d e : ℕ) → Step → KeptEndpoint → List TransferResult → Core → Core
amid h d e step b results c = record c {
  endpoints = with_end c.endpoints d e b;
  orders = past_first (takes_order step) c.orders;
  events = past_first (takes_news step) c.events;
  results = c.results ++ tagged h results;
}

-- the slot, the endpoint and the errand of an order
abbrev pub order_in : TrbKind → Option (ℕ × ℕ × Errand)
order_in (StopEndpoint slot id) = Some (slot, id, errand.Stop)
order_in (ResetEndpoint slot id) = Some (slot, id, errand.Reset)
order_in (SetDequeue pointer state slot id) = Some (slot, id, errand.Move)
order_in (Normal t) = None
order_in (Link segment toggle chain) = None
order_in NoOp = None
order_in (TransferEvent pointer residual code slot id) = None
order_in (CommandCompletion pointer code slot) = None

-- the oldest order that waits was run: of which endpoint and errand it is, whose, and that it is the core's
pub record IsRun {P : Type 0} (setup : Setup) (s : State P) (c : Core) (o : RingOrder) : Type 0 where
  pub r : Run
  pub is : run_of s.controller s.controller.commands.waits ≡ Some r
  pub order : order_in r.order ≡ Some (suc o.dev, endpoint_id o.ep, o.errand)
  pub at : ℕ
  pub holds : holder setup c.claims o.dev o.ep ≡ Some at
  pub entry : (command_core setup c).entry ≡ record { owner = Some at; reply = Ran o.ep o.errand (r.code == 1) }
  pub keeps : Keeps setup (record s { controller = r.controller }) (command_core setup c).core

module _ {P : Type 0} where
  -- a transfer in progress can be asked to end: a core is kept, with room for an order
  pub record CanAsk (s : State P) (d e item : ℕ) : Type 0 where
    pub can : CanPost s d e
    pub kept : KeptTransfer
    pub there : slice_get (can.core.endpoints d e).line item ≡ Some kept
    pub live : kept.blank ≡ false

  -- a transfer of a name and a number is asked to end, in a step that takes nothing from the rings; Stop is ordered where no errand is outstanding
  abbrev pub AskedAt : (old new : State P) (d e item : ℕ) → Ask → Type 0
  AskedAt old new d e item why = (setup : Setup) (c : Core) (h n : ℕ) (step : Step) (y : KeptTransfer) → takes_order step ≡ false → takes_news step ≡ false → IsAt setup old c h d e
      → slice_get (c.endpoints d e).line item ≡ Some y → is_kept_it n y ≡ true → y.blank ≡ false → ((j : ℕ) (z : KeptTransfer) → slice_get (c.endpoints d e).line j ≡ Some z → is_kept_it n z ≡ true → item ≡ j)
      → Keeps setup new (worked h (c.names h) d e step (handle_work (asked c.posted (c.endpoints d e) n why)) c)
