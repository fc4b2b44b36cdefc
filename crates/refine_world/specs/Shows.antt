-- A whole core, and when it shows a world.
use Rattle.std.specs.Prelude.{◌≡◌, ℕ, suc, ◌==◌, Bool, ◌&&◌, List, [], ◌∷◌, ◌++◌, map, Some}
use Rattle.std.specs.List.{filter, flat_map}
use Rattle.usb_model.specs.declared.errand.Errand.{Errand}
use Rattle.usb_model.specs.declared.step.Step.{Step}
use Rattle.usb_model.specs.declared.entry.Entry.{Entry}
use Rattle.usb_model.specs.declared.handle.Handle.{Handle}
use Rattle.usb_model.specs.declared.news.Event.{Event}
use Rattle.usb_model.specs.declared.news.News.{News}
use Rattle.usb_model.specs.declared.order.Order.{Order}
use Rattle.usb_model.specs.declared.result.TransferResult.{TransferResult}
use Rattle.usb_model.specs.declared.shared.Tagged.{Tagged}
use Rattle.usb_model.specs.Setup.{Setup, packet_size_of}
use Rattle.usb_model.specs.World.{World, Claims, holder, turn, new_world, world_from}
use Rattle.refine_world.specs.ShownEndpoint.{AllFew, ShowsDevice, ShowsEnd, StandsNear}
use Rattle.usb_model.specs.Kept.{Telling, Transfer, Completion, SentErrand, KeptEndpoint}

-- an order as the command ring has it: its endpoint, and the place where it stands, counted without end
pub record RingOrder : Type 0 where
  pub dev : ℕ
  pub ep : ℕ
  pub errand : Errand
  pub place : ℕ

-- an event as the event ring has it: a completion names the order's place, and no endpoint
pub data RingEvent : Type 0 where
  Transfers : (dev ep place residual code : ℕ) → RingEvent
  Completes : (dev index code : ℕ) → RingEvent

pub record Core : Type 0 where
  pub names : ℕ → Handle
  pub claims : Claims
  pub gone : ℕ → Bool
  pub endpoints : ℕ → ℕ → KeptEndpoint
  pub orders : List RingOrder
  pub events : List RingEvent
  pub posted : ℕ  -- the orders posted since the core was made
  pub results : List (Tagged TransferResult)

-- something at an endpoint, with the name that holds this
pub record At (A : Type 0) : Type 0 where
  pub name : ℕ
  pub dev : ℕ
  pub ep : ℕ
  pub what : A

-- a piece of news, and what the event ring tells of it
pub record Report : Type 0 where
  pub event : Event
  pub telling : Telling

abbrev pub here : {A : Type 0} → ℕ → ℕ → At A → Bool
here d e x = (x.dev == d) && (x.ep == e)

-- what is at an endpoint, in order
abbrev pub at : {A : Type 0} → ℕ → ℕ → List (At A) → List A
at d e xs = map (λ x. x.what) (filter (here d e) xs)

abbrev pub errands : List SentErrand → List Errand
errands xs = map (λ x. x.errand) xs

abbrev pub events : List Report → List Event
events xs = map (λ x. x.event) xs

abbrev pub tellings : List Report → List Telling
tellings xs = map (λ x. x.telling) xs

-- as the world has it
abbrev pub order_of : At SentErrand → Tagged Order
order_of x = record { name = x.name; piece = record { ep = x.ep; errand = x.what.errand } }

abbrev pub news_of : At Report → Tagged News
news_of x = record { name = x.name; piece = record { ep = x.ep; event = x.what.event } }

-- as the rings have it
abbrev pub order_at : ℕ → ℕ → SentErrand → RingOrder
order_at dev ep s = record { dev = dev; ep = ep; errand = s.errand; place = s.index }

abbrev pub event_at : ℕ → ℕ → Telling → RingEvent
event_at dev ep (Transfer place residual code) = Transfers dev ep place residual code
event_at dev ep (Completion index code) = Completes dev index code

abbrev pub ring_order : At SentErrand → RingOrder
ring_order x = order_at x.dev x.ep x.what

abbrev pub ring_event : At Report → RingEvent
ring_event x = event_at x.dev x.ep x.what.telling

-- the names are those of the endpoints' holders
abbrev pub AllHeld : {A : Type 0} → Setup → Claims → List (At A) → Type 0
AllHeld setup claims [] = Unit {0}
AllHeld setup claims (x ∷ xs) = (holder setup claims x.dev x.ep ≡ Some x.name) × AllHeld setup claims xs

-- the places of the orders that are under way: those whose completions wait, and those that wait
abbrev pub completed : RingEvent → List ℕ
completed (Transfers dev ep place residual code) = []
completed (Completes dev index code) = index ∷ []

abbrev pub under_way : List RingEvent → List RingOrder → List ℕ
under_way events orders = flat_map completed events ++ map (λ o. o.place) orders

-- they are the last places posted, in order
abbrev pub InRun : ℕ → List ℕ → ℕ → Type 0
InRun first [] next = first ≡ next
InRun first (i ∷ is) next = (i ≡ first) × InRun (suc first) is next

-- a core that shows a world; what is known of every world that can be reached is known by the steps that lead there.
-- orders and news: what waits, with endpoints and names, of which the world and the rings each tell a part
pub record Shows (setup : Setup) (w : World) (c : Core) : Type 0 where
  pub steps : List Step
  pub reached : w ≡ world_from setup (new_world setup) steps
  pub names : c.names ≡ w.names
  pub claims : c.claims ≡ w.claims
  pub gone : c.gone ≡ w.gone
  pub results : c.results ≡ w.results
  pub orders : List (At SentErrand)
  pub news : List (At Report)
  pub orders_shown : w.orders ≡ map order_of orders
  pub orders_kept : c.orders ≡ map ring_order orders
  pub news_shown : w.news ≡ map news_of news
  pub news_kept : c.events ≡ map ring_event news
  pub orders_held : AllHeld setup w.claims orders
  pub news_held : AllHeld setup w.claims news
  pub first : ℕ
  pub in_run : InRun first (under_way c.events c.orders) c.posted
  pub few : (d e : ℕ) → AllFew (c.endpoints d e).line
  pub near : (h d e : ℕ) → holder setup w.claims d e ≡ Some h → StandsNear (c.endpoints d e) (tellings (at d e news))
  pub endpoints : (h d e : ℕ) → holder setup w.claims d e ≡ Some h
      → ShowsEnd (packet_size_of setup d e) (w.endpoints d e) (errands (at d e orders)) (events (at d e news)) (c.endpoints d e) (at d e orders) (tellings (at d e news))
  -- what devices keep of their endpoints, held or not
  pub devices : (d e : ℕ) → ShowsDevice (w.endpoints d e) (c.endpoints d e)

-- a step of a core: for each world that the core shows, its entry is that of the world's turn, and the core then shows the next world
abbrev pub Steps : Setup → Core → Step → Entry → Core → Type 0
Steps setup old step entry new = (w : World) → Shows setup w old → (entry ≡ (turn setup w step).entry) × Shows setup (turn setup w step).world new

-- it shows some world: the invariant of a core
abbrev pub ShowsSome : Setup → Core → Type 0
ShowsSome setup c = (w : World) × Shows setup w c
