-- What is known of a core that shows a world, beside that its steps are the world's: no event is stray, what is first in a ring fits what is kept, and what waits is bounded.
use Rattle.std.specs.Prelude.{◌≡◌, ℕ, ◌+◌, ◌%◌, ◌≤◌, ◌==◌, true, false, List, [], ◌∷◌, length, not, count_by, slice_get, Some, None}
use Rattle.usb_model.specs.declared.endpoint.EndpointState.TheVariants.{Stopped}
use Rattle.usb_model.specs.declared.errand.Errand.TheVariants.{Move, Stop}
use Rattle.usb_model.specs.declared.result.TransferResult.{TransferResult}
use Rattle.usb_model.specs.declared.shared.Tagged.{Tagged}
use Rattle.usb_model.specs.Machine.{is_result_at}
use Rattle.usb_model.specs.Machine.Calls.{callback_of}
use Rattle.usb_model.specs.Setup.{Setup}
use Rattle.usb_model.specs.World.{World, holder}
use Rattle.usb_model.specs.World.Shared.{pieces_of}
use Rattle.usb_model.specs.Kept.{KeptTransfer, SentErrand}
use Rattle.usb_model.specs.Events.{Reading, errand_of, reading}
use Rattle.refine_world.specs.Shows.{Completes, Core, RingEvent, RingOrder, Shows, Transfers}
use Rattle.refine_world.specs.Steps.{sender}

-- no order to go on elsewhere in its ring waits for this endpoint
abbrev pub moves_here : ℕ → ℕ → RingOrder → Type 0
moves_here d e o = (o.dev ≡ d) × (o.ep ≡ e) × (o.errand ≡ Move)

abbrev pub NoMove : ℕ → ℕ → List RingOrder → Type 0
NoMove d e [] = Unit {0}
NoMove d e (o ∷ os) = (moves_here d e o → ⊥) × NoMove d e os

-- of the first event, a transfer's: it names a transfer in progress at an endpoint that is held, and no more of its TRB is left than this has
pub record KnowsTransfer (setup : Setup) (c : Core) (d e place residual : ℕ) : Type 0 where
  pub name : ℕ
  pub holds : holder setup c.claims d e ≡ Some name
  pub found : Reading
  pub reads : reading (c.endpoints d e).line place residual ≡ Some found
  pub live : found.kept.blank ≡ false
  pub still : NoMove d e c.orders

-- of the first event, a completion: it is of the errand of an endpoint that is held, alone of its device's by its index; the endpoint stands if it went well, and only a Stop fails
pub record KnowsCompletion (setup : Setup) (c : Core) (d index code : ℕ) : Type 0 where
  pub ep : ℕ
  pub name : ℕ
  pub sent : SentErrand
  pub sends : sender setup c d index ≡ Some ep
  pub holds : holder setup c.claims d ep ≡ Some name
  pub order : (c.endpoints d ep).errand ≡ Some sent
  pub same : sent.index ≡ index
  pub still : NoMove d ep c.orders
  pub went : (code == 1) ≡ true → (c.endpoints d ep).state ≡ Stopped
  pub failed : (code == 1) ≡ false → sent.errand ≡ Stop
  -- an index of the command ring's 255 names it as well
  pub apart : (e h : ℕ) (s : SentErrand) → holder setup c.claims d e ≡ Some h → (c.endpoints d e).errand ≡ Some s → s.index % 255 ≡ index % 255 → s.index ≡ index

abbrev pub KnowsEvent : Setup → Core → RingEvent → Type 0
KnowsEvent setup c (Transfers d e place residual code) = KnowsTransfer setup c d e place residual
KnowsEvent setup c (Completes d index code) = KnowsCompletion setup c d index code

-- no event is stray
abbrev pub NeverStray : Setup → Type 0
NeverStray setup = (w : World) (c : Core) → Shows setup w c → (x : RingEvent) (xs : List RingEvent) → c.events ≡ x ∷ xs → KnowsEvent setup c x

-- of the first order: it is that of the errand of an endpoint that is held, and stands so many places before the next
pub record KnowsOrder (setup : Setup) (c : Core) (o : RingOrder) : Type 0 where
  pub name : ℕ
  pub holds : holder setup c.claims o.dev o.ep ≡ Some name
  pub is_its : errand_of (c.endpoints o.dev o.ep).errand ≡ Some o.errand
  pub place : o.place + length c.orders ≡ c.posted

abbrev pub OrdersFit : Setup → Type 0
OrdersFit setup = (w : World) (c : Core) → Shows setup w c → (o : RingOrder) (os : List RingOrder) → c.orders ≡ o ∷ os → KnowsOrder setup c o

-- of two transfers in progress at one endpoint that is held none has the other's number
abbrev pub NumbersOnce : Setup → Type 0
NumbersOnce setup = (w : World) (c : Core) → Shows setup w c → (h d e i j : ℕ) (x y : KeptTransfer) → holder setup c.claims d e ≡ Some h → slice_get (c.endpoints d e).line i ≡ Some x → slice_get (c.endpoints d e).line j ≡ Some y
    → x.blank ≡ false → y.blank ≡ false → x.n ≡ y.n → i ≡ j

-- the transfer of a result that waits isn't in its callback
abbrev pub NotYetCalled : Setup → Type 0
NotYetCalled setup = (w : World) (c : Core) → Shows setup w c → (x : Tagged TransferResult) (xs : List (Tagged TransferResult)) → c.results ≡ x ∷ xs → callback_of x.piece.n (c.names x.name).in_callbacks ≡ None

-- the line of an endpoint that is held has at most 16 transfers, the blank ones among them; those in progress and its results that wait are at most 16 together
abbrev pub FewPlaces : Setup → Type 0
FewPlaces setup = (w : World) (c : Core) → Shows setup w c → (h d e : ℕ) → holder setup c.claims d e ≡ Some h
    → (length (c.endpoints d e).line ≤ 16) × (count_by (λ y. not y.blank) (c.endpoints d e).line + count_by (is_result_at e) (pieces_of h c.results) ≤ 16)
