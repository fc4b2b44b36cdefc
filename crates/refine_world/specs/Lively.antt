-- What holds of each endpoint of a world that can be reached, beside that it is coherent.
use Rattle.std.specs.Prelude.{◌≡◌, ℕ, suc, ◌<◌, ◌⊎◌, Bool, true, false, None, Some, List, [], ◌∷◌, ◌++◌, map}
use Rattle.std.specs.List.{list_all, AllByRecursion}
use Rattle.usb_model.specs.declared.endpoint.Endpoint.{Endpoint}
use Rattle.usb_model.specs.declared.item.Item.{Item}
use Rattle.usb_model.specs.Direction.{is_of_direction, IsBody}
use Rattle.usb_model.specs.Requests.{is_unsupported}
use Rattle.usb_model.specs.Setup.{Setup, interface_of, is_in, kind_of, script_of, packet_size_of}
use Rattle.refine_world.specs.ShownEndpoint.{IsOrderly}

-- what a configuration has: a packet size at each endpoint where transfers can go, and answers of each endpoint's direction
pub record IsFine (setup : Setup) : Type 0 where
  pub sizes : (d e i : ℕ) → interface_of setup d e ≡ Some i → is_unsupported (kind_of setup d e) ≡ false → 0 < packet_size_of setup d e
  pub kinds : (d e : ℕ) → list_all (is_of_direction (is_in e)) (script_of setup d e) ≡ true

-- the transfer goes in this direction
abbrev pub goes : Bool → Item → Type 0
goes inward x = IsBody inward x.request.body

-- the endpoint has a packet size; or it has no transfer and no errand, as one where no submission is accepted
abbrev pub IsSized : ℕ → Endpoint → Type 0
IsSized size e = (0 < size) ⊎ ((e.line ≡ []) × (e.errand ≡ None))

-- what more holds of each endpoint of a world that can be reached
pub record IsLively (setup : Setup) (d ep : ℕ) (e : Endpoint) : Type 0 where
  pub orderly : IsOrderly (packet_size_of setup d ep) e
  pub bodies : AllByRecursion (goes (is_in ep)) e.line
  pub kinds : list_all (is_of_direction (is_in ep)) e.script_left ≡ true
  pub sized : IsSized (packet_size_of setup d ep) e

-- all endpoints that there are: device and address
abbrev pub ends_from : ℕ → Setup → List (ℕ × ℕ)
ends_from n [] = []
ends_from n (device ∷ devices) = map (λ x. (n, x.address)) device.config.endpoints ++ ends_from (suc n) devices

abbrev pub ends_of : Setup → List (ℕ × ℕ)
ends_of setup = ends_from 0 setup
