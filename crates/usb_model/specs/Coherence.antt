-- Coherence: an endpoint's line, state and errand fit what waits for it among the orders and the news, in each phase.
use Rattle.std.specs.Prelude.{◌≡◌, ℕ, Bool, true, false, ◌⊎◌, List, [], ◌∷◌, ◌++◌, Option, Some, None}
use Rattle.std.specs.List.{list_any}
use Rattle.usb_model.specs.declared.errand.Errand.{Errand}
use Rattle.usb_model.specs.declared.errand.Errand.TheVariants as errand
use Rattle.usb_model.specs.declared.endpoint.Endpoint.{Endpoint}
use Rattle.usb_model.specs.declared.endpoint.EndpointState.{EndpointState}
use Rattle.usb_model.specs.declared.endpoint.EndpointState.TheVariants.{Halted, Running, Stopped}
use Rattle.usb_model.specs.declared.item.Item.{Item}
use Rattle.usb_model.specs.declared.item.ItemState.{ItemState}
use Rattle.usb_model.specs.declared.item.ItemState.TheVariants.{Blank, Served, Waiting}
use Rattle.usb_model.specs.declared.news.Event.{Event}
use Rattle.usb_model.specs.declared.news.Event.TheVariants.{Finished, Paused, Settled}
use Rattle.usb_model.specs.Endpoint.Deliver.{is_withdrawn}
use Rattle.usb_model.specs.Endpoint.Status.{halts}

-- what is told, or will be, of the served items
abbrev pub event_by : ℕ → ItemState → List Event → List Event
event_by n Waiting es = es
event_by n (Served code) es = Finished n code ∷ es
event_by n Blank es = es

-- and so of a line
unfoldable pub served_events : List Item → List Event
served_events [] = []
served_events (x ∷ xs) = event_by x.n x.state (served_events xs)

-- nothing is served behind what waits
abbrev pub first_by : ItemState → List Item → Type 0 → Type 0
first_by Waiting xs rest = served_events xs ≡ []
first_by (Served code) xs rest = rest
first_by Blank xs rest = rest

-- the served stand before those that wait
abbrev pub ServedFirst : List Item → Type 0
ServedFirst [] = Unit {0}
ServedFirst (x ∷ xs) = first_by x.state xs (ServedFirst xs)

-- an item waits that was asked to end
abbrev pub has_asked : List Item → Bool
has_asked xs = list_any is_withdrawn xs

-- none of these ends stops the endpoint
abbrev pub AllGo : List Event → Type 0
AllGo [] = Unit {0}
AllGo (Finished n code ∷ es) = (halts code ≡ false) × AllGo es
AllGo (Paused n ∷ es) = ⊥
AllGo (Settled errand ok ∷ es) = ⊥

-- the last of these stops it, and no other
abbrev pub EndsStop : List Event → Type 0
EndsStop [] = ⊥
EndsStop (Finished n code ∷ es) = ((halts code ≡ true) × (es ≡ [])) ⊎ ((halts code ≡ false) × EndsStop es)
EndsStop (Paused n ∷ es) = ⊥
EndsStop (Settled errand ok ∷ es) = ⊥

-- nothing is told, or what is told stops the endpoint
abbrev pub MayStop : List Event → Type 0
MayStop es = (es ≡ []) ⊎ EndsStop es

-- the phases of an endpoint: its state, its errand, its orders, what is told of served items, and what is told behind that
pub data IsPhase : EndpointState → Option Errand → List Errand → List Event → List Event → Type 0 where
  -- without an errand it runs, or halted
  runs : {es : List Event} → AllGo es → IsPhase Running None [] es []
  ended : {es : List Event} → EndsStop es → IsPhase Halted None [] es []
  -- Stop waits: the endpoint runs, or may halt before it is carried out
  stop_waits : {es : List Event} → AllGo es → IsPhase Running (Some errand.Stop) (errand.Stop ∷ []) es []
  stop_waits_halted : {es : List Event} → MayStop es → IsPhase Halted (Some errand.Stop) (errand.Stop ∷ []) es []
  -- Stop was carried out, with a pause of the transfer that was amid its packets or without, or it failed
  stop_ran : {es : List Event} → AllGo es → IsPhase Stopped (Some errand.Stop) [] es (Settled errand.Stop true ∷ [])
  stop_ran_paused : {es : List Event} {n : ℕ} → AllGo es → IsPhase Stopped (Some errand.Stop) [] es (Paused n ∷ Settled errand.Stop true ∷ [])
  stop_failed : {es : List Event} → MayStop es → IsPhase Halted (Some errand.Stop) [] es (Settled errand.Stop false ∷ [])
  -- Reset, and then Move where the line begins with blanks
  reset_waits : IsPhase Halted (Some errand.Reset) (errand.Reset ∷ []) [] []
  reset_ran : IsPhase Stopped (Some errand.Reset) [] [] (Settled errand.Reset true ∷ [])
  move_waits : IsPhase Stopped (Some errand.Move) (errand.Move ∷ []) [] []
  move_ran : IsPhase Stopped (Some errand.Move) [] [] (Settled errand.Move true ∷ [])

-- a line, a state and an errand fit the endpoint's pieces of the two lists
pub record Coheres (line : List Item) (state : EndpointState) (errand : Option Errand) (os : List Errand) (ns : List Event) : Type 0 where
  pub tail : List Event
  pub news : ns ≡ served_events line ++ tail
  pub in_order : ServedFirst line
  pub phase : IsPhase state errand os (served_events line) tail
  pub answered : errand ≡ None → has_asked line ≡ false

-- an endpoint fits its pieces of the two lists
abbrev pub IsCoherent : Endpoint → List Errand → List Event → Type 0
IsCoherent e os ns = Coheres e.line e.state e.errand os ns
