-- When what core and controller keep of an endpoint shows the endpoint of a world.
use Rattle.std.specs.Prelude.{◌≡◌, ℕ, ◌+◌, ◌<◌, ◌≤◌, ◌==◌, Bool, true, false, List, [], ◌∷◌, ◌++◌, length, Option, Some, if◌then◌else◌}
use Rattle.std.specs.Option.{option_map}
use Rattle.std.specs.List.{AllByRecursion, list_any}
use Rattle.usb_model.specs.declared.errand.Errand.{Errand}
use Rattle.usb_model.specs.declared.errand.Errand.TheVariants.{Reset, Move}
use Rattle.usb_model.specs.declared.item.Item.{Item}
use Rattle.usb_model.specs.declared.item.ItemState.{ItemState}
use Rattle.usb_model.specs.declared.item.ItemState.TheVariants.{Waiting, Served, Blank}
use Rattle.usb_model.specs.declared.endpoint.Endpoint.{Endpoint}
use Rattle.usb_model.specs.declared.endpoint.EndpointState.{EndpointState}
use Rattle.usb_model.specs.declared.endpoint.EndpointState.TheVariants.{Stopped, Halted}
use Rattle.usb_model.specs.declared.news.Event.{Event}
use Rattle.usb_model.specs.declared.news.Event.TheVariants.{Finished, Paused, Settled}
use Rattle.usb_model.specs.Endpoint.{first_waiting, is_waiting, is_blank, outcome_of, bytes_read}
use Rattle.usb_model.specs.Endpoint.Packets.{count_of, outcome, IsOpenAt}
use Rattle.usb_model.specs.Endpoint.Deliver.{leads_blank}
use Rattle.usb_model.specs.Coherence.{served_events}
use Rattle.usb_model.specs.Stands.{stand, residual, total}
use Rattle.usb_model.specs.Kept.{InRow, KeptTransfer, Telling, Transfer, Completion, SentErrand, KeptEndpoint, trbs_of, first_place, code_of, index_of}

-- the bytes that a transfer moved
abbrev pub count : ℕ → Item → ℕ
count size x = count_of (outcome_of size x)

-- a transfer in progress, as it is kept
pub record IsLive (size : ℕ) (x : Item) (y : KeptTransfer) : Type 0 where
  pub n : y.n ≡ x.n
  pub request : y.request ≡ x.request
  pub round : y.round ≡ x.round
  pub ask : y.ask ≡ x.ask
  pub bytes : y.bytes ≡ bytes_read x.request.body (outcome_of size x)
  pub lengths : y.lengths ≡ trbs_of size x.request
  pub fits : count size x ≤ total y.lengths
  pub unmoved : count size x ≡ 0 → y.moved ≡ 0

pub record IsKept (size : ℕ) (x : Item) (y : KeptTransfer) : Type 0 where
  pub blank : y.blank ≡ is_blank x
  pub some : 0 < length y.lengths
  pub live : is_blank x ≡ false → IsLive size x y

-- a line, item by item
abbrev pub AllKept : ℕ → List Item → List KeptTransfer → Type 0
AllKept size [] [] = Unit {0}
AllKept size [] (y ∷ ys) = ⊥
AllKept size (x ∷ xs) [] = ⊥
AllKept size (x ∷ xs) (y ∷ ys) = IsKept size x y × AllKept size xs ys

-- the event of a transfer that ended with this code: it points at the TRB of the next byte or empty packet
abbrev pub telling_of : ℕ → Item → KeptTransfer → ℕ → Telling
telling_of size x y code = Transfer (y.place + (stand y.lengths (count size x)).index) (residual y.lengths (count size x)) code

-- what is told of the served items: as the definitions' served_events
abbrev pub told_by : ℕ → Item → KeptTransfer → ItemState → List Telling → List Telling
told_by size x y Waiting ts = ts
told_by size x y (Served code) ts = telling_of size x y code ∷ ts
told_by size x y Blank ts = ts

unfoldable pub told_of : ℕ → List Item → List KeptTransfer → List Telling
told_of size (x ∷ xs) (y ∷ ys) = told_by size x y x.state (told_of size xs ys)
told_of size _ _ = []

-- where the first waiting transfer stands; the line's end where none waits
pub record Front : Type 0 where
  pub place : ℕ
  pub within : ℕ

abbrev pub front_of : ℕ → Item → KeptTransfer → Front
front_of size x y = record { place = y.place + (stand y.lengths (count size x)).index; within = (stand y.lengths (count size x)).within }

unfoldable pub front : ℕ → List Item → List KeptTransfer → ℕ → Front
front size (x ∷ xs) (y ∷ ys) end = if is_waiting x then front_of size x y else front size xs ys end
front size _ _ end = record { place = end; within = 0 }

-- the pause of the first waiting transfer
unfoldable pub pause_told : ℕ → List Item → List KeptTransfer → List Telling
pause_told size (x ∷ xs) (y ∷ ys) = if is_waiting x then telling_of size x y 26 ∷ [] else pause_told size xs ys
pause_told size _ _ = []

-- what is told behind the served items' ends
abbrev pub tail_told : ℕ → List Item → List KeptTransfer → Option SentErrand → List Event → List Telling
tail_told size xs ys sent [] = []
tail_told size xs ys sent (Finished n code ∷ es) = tail_told size xs ys sent es
tail_told size xs ys sent (Paused n ∷ es) = pause_told size xs ys ++ tail_told size xs ys sent es
tail_told size xs ys sent (Settled errand ok ∷ es) = Completion (index_of sent) (code_of ok) ∷ tail_told size xs ys sent es

-- the endpoint's orders in the command ring
abbrev pub orders_sent : Option SentErrand → List Errand → List SentErrand
orders_sent sent [] = []
orders_sent sent (o ∷ os) = record { errand = o; index = index_of sent } ∷ orders_sent sent os

-- of the first waiting transfer the core knows what moved
abbrev pub known_by : ItemState → Type 0 → Type 0 → Type 0
known_by Waiting here later = here
known_by (Served code) here later = later
known_by Blank here later = later

abbrev pub FrontKnown : ℕ → List Item → List KeptTransfer → Type 0
FrontKnown size (x ∷ xs) (y ∷ ys) = known_by x.state (y.moved ≡ count size x) (FrontKnown size xs ys)
FrontKnown size _ _ = Unit {0}

abbrev pub is_pause : Event → Bool
is_pause (Paused n) = true
is_pause (Finished n code) = false
is_pause (Settled errand ok) = false

abbrev pub has_pause : List Event → Bool
has_pause es = list_any is_pause es

-- whether the controller stands elsewhere than at the first waiting transfer, until it is moved
abbrev pub is_stale : EndpointState → Option Errand → List Errand → Bool
is_stale Halted er os = true
is_stale Stopped (Some Reset) os = true
is_stale Stopped (Some Move) (o ∷ os) = true
is_stale _ _ _ = false

-- a pause that is told is that of the first waiting transfer
abbrev pub FirstPaused : List Item → List Event → Type 0
FirstPaused line [] = Unit {0}
FirstPaused line (Finished n code ∷ es) = FirstPaused line es
FirstPaused line (Paused n ∷ es) = ((x : Item) × (first_waiting line ≡ Some x) × (x.n ≡ n)) × FirstPaused line es
FirstPaused line (Settled errand ok ∷ es) = FirstPaused line es

-- the endpoint of a world that is shown: os and ns are its pieces of the orders and news, sent and told what stands for them in the two rings
pub record ShowsEnd (size : ℕ) (e : Endpoint) (os : List Errand) (ns : List Event) (b : KeptEndpoint) (sent : List SentErrand) (told : List Telling) : Type 0 where
  pub tail : List Event
  pub news : ns ≡ served_events e.line ++ tail
  pub kept : AllKept size e.line b.line
  pub row : InRow b.line b.end
  pub state : b.state ≡ e.state
  pub errand : option_map (λ s. s.errand) b.errand ≡ e.errand
  pub script_left : b.script_left ≡ e.script_left
  pub device_halted : b.device_halted ≡ e.device_halted
  pub packets_received : b.packets_received ≡ e.packets_received
  pub told_is : told ≡ told_of size e.line b.line ++ tail_told size e.line b.line b.errand tail
  pub sent_is : sent ≡ orders_sent b.errand os
  pub stands : is_stale e.state e.errand os ≡ false → record { place = b.dequeue; within = b.within } ≡ front size e.line b.line b.end
  pub paused : FirstPaused e.line tail
  pub known : e.state ≡ Stopped → has_pause tail ≡ false → FrontKnown size e.line b.line

-- what the device itself keeps of it: how far it is in its script, its halt, and the packets that it took
pub record ShowsDevice (e : Endpoint) (b : KeptEndpoint) : Type 0 where
  pub script_left : b.script_left ≡ e.script_left
  pub device_halted : b.device_halted ≡ e.device_halted
  pub packets_received : b.packets_received ≡ e.packets_received

-- each waiting transfer took nothing yet
abbrev pub new_by : ItemState → Item → Type 0 → Type 0
new_by Waiting x rest = (x.share ≡ []) × rest
new_by (Served code) x rest = rest
new_by Blank x rest = rest

abbrev pub AllNew : List Item → Type 0
AllNew [] = Unit {0}
AllNew (x ∷ xs) = new_by x.state x (AllNew xs)

abbrev pub NewBehind : List Item → Type 0
NewBehind [] = Unit {0}
NewBehind (x ∷ xs) = known_by x.state (AllNew xs) (NewBehind xs)

-- each waiting transfer is open
abbrev pub AllOpen : ℕ → List Item → Type 0
AllOpen size [] = Unit {0}
AllOpen size (x ∷ xs) = known_by x.state (IsOpenAt (outcome x.request size x.share false)) (Unit {0}) × AllOpen size xs

-- no transfer ended by a stop of its endpoint
abbrev pub uncut_by : ItemState → Type 0
uncut_by Waiting = Unit {0}
uncut_by (Served code) = (code == 26) ≡ false
uncut_by Blank = Unit {0}

abbrev pub AllUncut : List Item → Type 0
AllUncut [] = Unit {0}
AllUncut (x ∷ xs) = uncut_by x.state × AllUncut xs

-- whether the way out of a halt, or of a blank that leads, is under way
abbrev pub is_past : EndpointState → Option Errand → Bool
is_past Halted er = true
is_past s (Some Reset) = true
is_past s (Some Move) = true
is_past _ _ = false

-- what more holds of each endpoint of a world that can be reached
pub record IsOrderly (size : ℕ) (e : Endpoint) : Type 0 where
  pub behind : NewBehind e.line
  pub past : is_past e.state e.errand ≡ true → AllNew e.line
  pub leads : is_past e.state e.errand ≡ false → leads_blank e.line ≡ false
  pub stalls : e.device_halted ≡ true → AllNew e.line
  pub opens : AllOpen size e.line
  pub uncut : AllUncut e.line

-- each transfer of a line has at most 5 TRBs
abbrev pub IsFew : KeptTransfer → Type 0
IsFew y = length y.lengths ≤ 5

abbrev pub AllFew : List KeptTransfer → Type 0
AllFew ys = AllByRecursion IsFew ys

-- an event of a transfer points at this place or before it
abbrev pub IsBefore : ℕ → Telling → Type 0
IsBefore p (Transfer place residual code) = place ≤ p
IsBefore p (Completion index code) = Unit {0}

-- and so does all that is told
abbrev pub AllBefore : ℕ → List Telling → Type 0
AllBefore p ts = AllByRecursion (IsBefore p) ts

-- the line begins at most 5 places behind where the controller stands; this stands among the places that were written, and no further back than what is told of it
pub record IsNear (line : List KeptTransfer) (end dequeue : ℕ) (told : List Telling) : Type 0 where
  pub near : first_place line end ≤ dequeue + 5
  pub inside : dequeue ≤ end
  pub before : AllBefore dequeue told

-- so where the controller of this endpoint stands
abbrev pub StandsNear : KeptEndpoint → List Telling → Type 0
StandsNear b told = IsNear b.line b.end b.dequeue told
