-- One endpoint's script goes on.
use Rattle.std.specs.Prelude.{ℕ, zero, suc, ◌==◌, Bool, true, false, ◌&&◌, List, [], ◌∷◌, ◌++◌, is_some, slice_get, Option, if◌then◌else◌}
use Rattle.std.specs.Option.{option_and_then, option_map_or}
use Rattle.usb_model.specs.declared.response.Response.{Response}
use Rattle.usb_model.specs.declared.setup.DeviceSetup.{DeviceSetup}
use Rattle.usb_model.specs.Setup.{Setup, endpoint_id, info_of}
use Rattle.refine_world.specs.Living.{More, GoesOn}

-- the item of this index changed
abbrev pub changed_at : {A : Type 0} → (A → A) → ℕ → List A → List A
changed_at f i [] = []
changed_at f zero (x ∷ xs) = f x ∷ xs
changed_at f (suc i) (x ∷ xs) = x ∷ changed_at f i xs

-- the device with these answers behind the script of this endpoint id
abbrev pub device_fed : ℕ → List Response → DeviceSetup → DeviceSetup
device_fed id more x = record x { scripts = changed_at (λ s. s ++ more) id x.scripts }

-- the devices with these answers behind one script of one of them
abbrev pub fed : Setup → ℕ → ℕ → List Response → Setup
fed setup dev id more = changed_at (device_fed id more) dev setup

-- whether a script stands at this endpoint id
abbrev pub has_script : Setup → ℕ → ℕ → Bool
has_script setup dev id = is_some (option_and_then (λ x. slice_get x.scripts id) (slice_get setup dev))

-- what that gives to each endpoint: nothing to one that isn't there, or has another id
abbrev pub fed_at : Setup → ℕ → ℕ → List Response → More
fed_at setup dev id more d ep =
    if (dev == d) && ((id == endpoint_id ep) && (is_some (info_of setup d ep) && has_script setup d id)) then more else []

abbrev pub FedGoesOn : Type 0
FedGoesOn = (setup : Setup) (dev id : ℕ) (more : List Response) → GoesOn setup (fed setup dev id more) (fed_at setup dev id more)
