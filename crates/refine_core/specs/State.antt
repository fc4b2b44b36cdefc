-- The parts in which the core keeps its state, and when they keep a core that shows a world.
use Rattle.std.specs.Prelude.{◌≡◌, ℕ, ◌%◌, ◌≤◌, true, false, List, [], ◌∷◌, length, map, count_by, slice_get, Option, Some, None}
use Rattle.std.specs.Option.{option_map}
use Rattle.std.specs.List.{AllByRecursion}
use Rattle.usb_model.specs.declared.handle.Handle.{Handle}
use Rattle.usb_model.specs.declared.result.TransferResult.{TransferResult}
use Rattle.usb_model.specs.declared.setup.DeviceSetup.{DeviceSetup}
use Rattle.usb_model.specs.declared.shared.Tagged.{Tagged}
use Rattle.usb_model.specs.Machine.{is_callback_at, is_result_at}
use Rattle.usb_model.specs.Machine.Calls.{callback_of}
use Rattle.usb_model.specs.Setup.{Setup, endpoint_id, interface_of}
use Rattle.usb_model.specs.World.{World, holder}
use Rattle.usb_model.specs.World.Shared.{pieces_of}
use Rattle.usb_tables.specs.Holders.{Holding, IsSetup, device_of, owner_of}
use Rattle.usb_tables.specs.Tables.{is_plain}
use Rattle.usb_model.specs.Kept.{KeptEndpoint, KeptTransfer, SentErrand}
use Rattle.usb_tables.specs.declared.transfer.Transfer.{Transfer as InFlight}
use Rattle.usb_tables.specs.Tds.{room_of, tds_of}
use Rattle.usb_tables.specs.Trbs.{normals_of}
use Rattle.usb_trb.specs.declared.kind.TrbKind.{TrbKind}
use Rattle.usb_rings.specs.Line.{normals}
use Rattle.usb_xhc.specs.Context.{Context}
use Rattle.usb_tables.specs.declared.outstanding.Sent.{Sent}
use Rattle.usb_tables.specs.Outstanding.{sent_at}
use Rattle.usb_xhc.specs.Controller.{Controller}
use Rattle.usb_xhc.specs.Slots.{DeviceSlot, context_of}
use Rattle.usb_tables.specs.TransfersInFlight.{EndedOf, TransfersInFlight, keys_at, line_at}
use Rattle.usb_tables.specs.HandleState.{Kept as HandleState}
use Rattle.usb_tables.specs.HandleStates.{callback_at, callbacks_at, number_of, results_at}
use Rattle.refine_world.specs.Lively.{IsFine, ends_of}
use Rattle.refine_world.specs.Shows.{Core, Shows}
use Rattle.refine_rings.specs.Holds.{HoldsCore}
use Rattle.refine_rings.specs.Laws.{HasPlain}
use Rattle.refine_rings.specs.Made.{IsRead}

-- P: what callers keep with their transfers
module _ {P : Type 0} where
  -- an item of the line at endpoint e is a transfer in progress, of the name that holds the endpoint; the room for what it is to read is there
  pub record IsFlight (name : Option ℕ) (e : ℕ) (t : InFlight P) (y : KeptTransfer) : Type 0 where
    pub live : y.blank ≡ false
    pub number : t.n ≡ y.n
    pub asks_for : t.request ≡ y.request
    pub again : t.round ≡ y.round
    pub asked : t.ask ≡ y.ask
    pub told : t.moved ≡ y.moved
    pub read : t.bytes.items ≡ y.bytes
    pub room : room_of y.request.body ≤ t.bytes.capacity
    pub at : y.request.ep ≡ e
    pub whose : name ≡ Some t.name

  -- or it is a blank
  abbrev pub IsItem : Option ℕ → ℕ → Option (InFlight P) → KeptTransfer → Type 0
  IsItem name e None y = y.blank ≡ true
  IsItem name e (Some t) y = IsFlight name e t y

  -- a line, item by item
  abbrev pub AllItems : Option ℕ → ℕ → List (Option (InFlight P)) → List KeptTransfer → Type 0
  AllItems name e [] [] = Unit {0}
  AllItems name e (x ∷ xs) (y ∷ ys) = IsItem name e x y × AllItems name e xs ys
  AllItems name e _ _ = ⊥

  -- the TRBs of an item are those of its transfer, whose buffer is that of its own key (xHCI 1.2, 6.4.1.1); size: of the endpoint's packets
  abbrev pub NamesBuffer : ℕ → Option ℕ → Option (InFlight P) → List TrbKind → Type 0
  NamesBuffer size (Some key) (Some t) ks = ks ≡ normals (normals_of key (tds_of size t.request))
  NamesBuffer size None None ks = Unit {0}
  NamesBuffer size _ _ ks = ⊥

  -- a line, item by item: keys, transfers, TRBs
  abbrev pub AllNameBuffers : ℕ → List (Option ℕ) → List (Option (InFlight P)) → List (List TrbKind) → Type 0
  AllNameBuffers size [] [] [] = Unit {0}
  AllNameBuffers size (key ∷ keys) (x ∷ xs) (ks ∷ kss) = NamesBuffer size key x ks × AllNameBuffers size keys xs kss
  AllNameBuffers size _ _ _ = ⊥

  -- a transfer that ended, as a result that waits for its callback
  abbrev pub result_of : EndedOf (InFlight P) → Tagged TransferResult
  result_of x = record {
    name = x.transfer.name;
    piece = record { n = x.transfer.n; request = x.transfer.request; round = x.transfer.round; status = x.ending.status; actual = x.ending.actual; bytes = x.transfer.bytes.items };
  }

-- an errand as it is found by its completion: its order's index in the command ring (xHCI 1.2, 4.9.3)
abbrev pub in_ring : SentErrand → Sent
in_ring x = record { errand = x.errand; index = x.index % 255 }

-- the parts: who holds what; the controller with its rings; the transfers in flight; what is kept of each handle; the errands
pub record State (P : Type 0) : Type 0 where
  pub claims : Holding
  pub controller : Controller
  pub flights : TransfersInFlight (InFlight P)
  pub callers : List HandleState
  pub outstanding : List (Option Sent)

-- of each endpoint that has a ring
abbrev pub NameBuffers : {P : Type 0} → State P → Type 0
NameBuffers {P} s = (d e : ℕ) (v : DeviceSlot) (x : Context) → slice_get s.controller.slots d ≡ Some v → context_of v e ≡ Some x
    → AllNameBuffers x.size (keys_at s.flights.keys d e) (line_at s.flights d e) x.ring.line.items

-- the line and the errand of an endpoint; name: who holds it
pub record KeepsEnd {P : Type 0} (s : State P) (name : Option ℕ) (d e : ℕ) (b : KeptEndpoint) : Type 0 where
  pub line : AllItems name e (line_at s.flights d e) b.line
  pub errand : sent_at s.outstanding d e ≡ option_map in_ring b.errand

-- what is kept of a name: its device, its next number, its transfers in callbacks, and how many of them and of its results are of each endpoint
pub record KeepsName {P : Type 0} (s : State P) (h : ℕ) (x : Handle) (results : List TransferResult) : Type 0 where
  pub device : x.device ≡ device_of s.claims h
  pub number : x.next_number ≡ number_of s.callers h
  pub callback : (n : ℕ) → callback_of n x.in_callbacks ≡ callback_at s.callers h n
  pub called : (e : ℕ) → is_plain e ≡ true → count_by (is_callback_at e) x.in_callbacks ≡ callbacks_at s.callers h (endpoint_id e)
  pub waiting : (e : ℕ) → is_plain e ≡ true → count_by (is_result_at e) results ≡ results_at s.callers h (endpoint_id e)
  pub plain : AllByRecursion (λ y. is_plain y.request.ep ≡ true) x.in_callbacks

-- the parts keep this core
pub record Keeps {P : Type 0} (setup : Setup) (s : State P) (c : Core) : Type 0 where
  pub set : IsSetup s.claims setup
  pub plain : HasPlain setup
  pub fine : IsFine setup
  pub read : (d : ℕ) (x : DeviceSetup) → slice_get setup d ≡ Some x → IsRead x
  pub few : length setup ≤ 4
  pub bounded : length (ends_of setup) ≤ 120
  pub lanes : length s.flights.lines ≡ 128
  pub keyed : length s.flights.keys ≡ 128
  pub cells : length s.outstanding ≡ 128
  pub buffers : NameBuffers s
  pub held : HoldsCore setup s.controller c
  pub claimed : (d i : ℕ) → c.claims d i ≡ owner_of s.claims d i
  pub named : (h : ℕ) → KeepsName s h (c.names h) (pieces_of h c.results)
  pub ended : c.results ≡ map result_of s.flights.ended
  pub ended_plain : AllByRecursion (λ x. is_plain x.piece.request.ep ≡ true) c.results
  pub ends : (d e i : ℕ) → interface_of setup d e ≡ Some i → KeepsEnd s (holder setup c.claims d e) d e (c.endpoints d e)
  -- where nobody holds an endpoint nothing is left there
  pub free : (d e i : ℕ) → interface_of setup d e ≡ Some i → holder setup c.claims d e ≡ None → ((c.endpoints d e).line ≡ []) × ((c.endpoints d e).errand ≡ None)

-- they show this world (a core between them is what they keep)
abbrev pub ShowsWorld : {P : Type 0} → Setup → State P → World → Type 0
ShowsWorld {P} setup s w = (c : Core) × Keeps setup s c × Shows setup w c

-- they show some world of some devices: what is known of every core
abbrev pub IsState : {P : Type 0} → State P → Type 0
IsState {P} s = (setup : Setup) × (w : World) × ShowsWorld setup s w
