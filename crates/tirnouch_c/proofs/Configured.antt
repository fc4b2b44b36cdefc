-- The configuration of a device that is set up.
use Rattle.std.proofs.Common.{◌≡◌, ℕ, ◌==◌, List, [], Option, Some, None, ap}
use Rattle.std.specs.List.{find}
use Rattle.std.specs.Option.{option_map, option_map_or}
use Rattle.std.specs.Prelude.{slice_get}
use Rattle.usb_model.specs.declared.setup.Configuration.{Configuration}
use Rattle.usb_model.specs.declared.setup.DeviceSetup.{DeviceSetup}
use Rattle.usb_model.specs.declared.setup.EndpointInfo.{EndpointInfo}
use Rattle.usb_model.specs.Setup.{Setup, info_of, interface_of}

abbrev pub interfaces_in : Option Configuration → List ℕ
interfaces_in config = option_map_or (λ c. c.interfaces) config []

abbrev pub endpoints_in : Option Configuration → List EndpointInfo
endpoints_in config = option_map_or (λ c. c.endpoints) config []

pub interfaces_from : (config : Option Configuration) (o : Option DeviceSetup) → config ≡ option_map (λ x. x.config) o → interfaces_in config ≡ option_map_or (λ d. d.config.interfaces) o []
interfaces_from config None is = ap interfaces_in is
interfaces_from config (Some d) is = ap interfaces_in is

pub endpoints_from : (config : Option Configuration) (o : Option DeviceSetup) → config ≡ option_map (λ x. x.config) o → endpoints_in config ≡ option_map_or (λ d. d.config.endpoints) o []
endpoints_from config None is = ap endpoints_in is
endpoints_from config (Some d) is = ap endpoints_in is

-- the interface of an endpoint
abbrev pub interface_in : Option Configuration → (ep : ℕ) → Option ℕ
interface_in config ep = option_map (λ x. x.interface) (find (λ x. x.address == ep) (endpoints_in config))

pub interface_from : (setup : Setup) (dev ep : ℕ) (config : Option Configuration) → config ≡ option_map (λ x. x.config) (slice_get setup dev) → interface_in config ep ≡ interface_of setup dev ep
unfolding info_of
interface_from setup dev ep config is = ap (λ (xs : List EndpointInfo). option_map (λ x. x.interface) (find (λ x. x.address == ep) xs)) (endpoints_from config (slice_get setup dev) is)
