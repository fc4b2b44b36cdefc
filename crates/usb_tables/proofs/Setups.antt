-- The configurations are those of a setup.
use Rattle.std.proofs.Common.{◌≡◌, ℕ, ◌==◌, [], Option, Some, None, is_some, option_map, slice_get, refl}
use Rattle.std.specs.Option.{option_and_then, option_map_or}
use Rattle.std.specs.List.{find}
use Rattle.std.proofs.lemmas.Option.{slice_get-map}
use Rattle.usb_model.specs.declared.setup.DeviceSetup.{DeviceSetup}
use Rattle.usb_model.specs.Setup.{Setup, is_device, info_of, interface_of}
use Rattle.usb_tables.specs.Tables.{interface_at}
use Rattle.usb_tables.specs.Holders.{Holding, IsSetup, has_device}

-- a device's configuration
config-setup : (v : Holding) (setup : Setup) → IsSetup v setup → (d : ℕ) → slice_get v.configs d ≡ option_map (λ x. x.config) (slice_get setup d)
config-setup v setup same d = rw (← same) (slice_get-map (λ x. x.config) setup d)

-- the devices that there are
pub is_device-setup : (v : Holding) (setup : Setup) → IsSetup v setup → (d : ℕ) → has_device v d ≡ is_device setup d
is_device-setup v setup same d = rw (config-setup v setup same d) (by_device (slice_get setup d))
  where
    by_device : (o : Option DeviceSetup) → is_some (option_map (λ x. x.config) o) ≡ is_some o
    by_device None = refl
    by_device (Some x) = refl

-- the interface of an endpoint
pub interface-setup : (v : Holding) (setup : Setup) → IsSetup v setup → (d e : ℕ) → interface_of setup d e ≡ interface_at v.configs d e
unfolding info_of
interface-setup v setup same d e = rw (config-setup v setup same d) (by_device (slice_get setup d))
  where
    by_device : (o : Option DeviceSetup) → option_map (λ x. x.interface) (find (λ x. x.address == e) (option_map_or (λ y. y.config.endpoints) o [])) ≡ option_and_then (λ c. option_map (λ x. x.interface) (find (λ x. x.address == e) c.endpoints)) (option_map (λ y. y.config) o)
    by_device None = refl
    by_device (Some y) = refl
