-- Endpoints of a device are made new.
use Rattle.std.specs.Prelude.{◌≡◌, take, ℕ, Bool, List, ◌==◌, false, if◌then◌else◌}
use Rattle.std.specs.List.{fold}
use Rattle.std.specs.Option.{option_map_or}
use Rattle.usb_model.specs.declared.setup.EndpointInfo.{EndpointInfo}
use Rattle.usb_model.specs.Setup.{Setup, endpoints_of, interface_of}
use Rattle.usb_model.specs.World.{holder, is_its}
use Rattle.usb_tables.specs.Holders.{Holding, IsSetup, owner_of}
use Rattle.usb_xhc.specs.Controller.{Controller, slot_changed}
use Rattle.usb_xhc.specs.Slots.{renewed}

-- one of a list, if its address passes a test
abbrev pub renewed_one : ℕ → (ℕ → Bool) → Controller → EndpointInfo → Controller
renewed_one d test k x = if test x.address then slot_changed k d (λ s. renewed s x.address) else k

-- all of the list
abbrev pub renewed_by : Controller → ℕ → (ℕ → Bool) → List EndpointInfo → Controller
renewed_by k d test xs = fold (renewed_one d test) k xs

-- whether an endpoint of a device is of this interface
abbrev pub is_of_interface : Setup → ℕ → ℕ → ℕ → Bool
is_of_interface setup d i e = option_map_or (λ k. k == i) (interface_of setup d e) false

-- whether it is this name's
abbrev pub is_held_by : Setup → Holding → ℕ → ℕ → ℕ → Bool
is_held_by setup v h d e = is_its h (holder setup (λ x i. owner_of v x i) d e)

-- so far those among the first of the list, for each setup that these configurations are of
abbrev pub RenewedFirst : Holding → (old new : Controller) → ℕ → (Setup → ℕ → Bool) → List EndpointInfo → ℕ → Type 0
RenewedFirst v old new d test xs k = (setup : Setup) → IsSetup v setup → new ≡ renewed_by old d (test setup) (take k xs)

-- those of the device
abbrev pub RenewedAll : Holding → (old new : Controller) → ℕ → (Setup → ℕ → Bool) → Type 0
RenewedAll v old new d test = (setup : Setup) → IsSetup v setup → new ≡ renewed_by old d (test setup) (endpoints_of setup d)
