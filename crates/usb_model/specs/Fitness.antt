-- Fitness: what holds of every machine. Its endpoints are its device's, and each fits what waits for it.
use Rattle.std.specs.Prelude.{◌≡◌, ℕ, ◌≤◌, ◌==◌, true, List, [], length, map, Option, Some, None}
use Rattle.std.specs.List.{filter}
use Rattle.usb_model.specs.declared.errand.Errand.{Errand}
use Rattle.usb_model.specs.declared.endpoint.Endpoint.{Endpoint}
use Rattle.usb_model.specs.declared.news.Event.{Event}
use Rattle.usb_model.specs.declared.news.News.{News}
use Rattle.usb_model.specs.declared.order.Order.{Order}
use Rattle.usb_model.specs.Coherence.{IsCoherent}
use Rattle.usb_model.specs.Machine.{Machine, endpoint_at}
use Rattle.usb_model.specs.Setup.{Setup, interface_of}

-- what is posted at an endpoint: place says where a post is, and what says what it is
abbrev pub posts_of : {A B : Type 0} → (A → ℕ) → (A → B) → ℕ → List A → List B
posts_of place what ep xs = map what (filter (λ x. place x == ep) xs)

-- the orders of an endpoint
abbrev pub errands_of : ℕ → List Order → List Errand
errands_of ep xs = posts_of (λ x. x.ep) (λ x. x.errand) ep xs

-- the news of an endpoint
abbrev pub events_of : ℕ → List News → List Event
events_of ep xs = posts_of (λ x. x.ep) (λ x. x.event) ep xs

-- an endpoint of the machine with its pieces; without the endpoint there are none
pub record IsFit (e : Endpoint) (os : List Errand) (ns : List Event) : Type 0 where
  pub coherent : IsCoherent e os ns
  pub short : length e.line ≤ 16

-- the same of an endpoint that may not be there
abbrev pub Fits : Option Endpoint → List Errand → List Event → Type 0
Fits None os ns = (os ≡ []) × (ns ≡ [])
Fits (Some e) os ns = IsFit e os ns

-- what holds of every machine: its endpoints are its device's, of interfaces that it holds, and each fits its pieces of the lists
pub record IsWell (setup : Setup) (m : Machine) : Type 0 where
  pub at_device : (d ep : ℕ) (e : Endpoint) → m.endpoints d ep ≡ Some e → m.handle.device ≡ Some d
  pub of_held : (d ep : ℕ) (e : Endpoint) → m.endpoints d ep ≡ Some e → (i : ℕ) × (interface_of setup d ep ≡ Some i) × (m.held d i ≡ true)
  pub fits : (ep : ℕ) → Fits (endpoint_at m ep) (errands_of ep m.orders) (events_of ep m.news)
