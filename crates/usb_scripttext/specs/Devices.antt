-- Devices, as lines describe them one behind another.
use Rattle.std.specs.Prelude.{ℕ, zero, suc, ◌==◌, Bool, true, false, ◌&&◌, List, [], ◌∷◌, ◌++◌, length, Option, Some, None, slice_get, slice_set, if◌then◌else◌}
use Rattle.std.specs.List.{list_any}
use Rattle.usb_model.specs.declared.response.Response.{Response}
use Rattle.usb_model.specs.declared.request.Kind.{Kind}
use Rattle.usb_model.specs.declared.request.Kind.TheVariants.{Bulk, Interrupt}
use Rattle.usb_model.specs.declared.setup.Configuration.{Configuration}
use Rattle.usb_model.specs.declared.setup.DeviceSetup.{DeviceSetup}
use Rattle.usb_model.specs.Setup.{endpoint_id}
use Rattle.usb_device.specs.Scripts.{endpoint_ids}

-- whether transfers may be submitted to endpoints of this kind
abbrev pub has_transfers : Kind → Bool
has_transfers Bulk = true
has_transfers Interrupt = true
has_transfers _ = false

-- whether a configuration has a bulk or interrupt endpoint of this address
abbrev pub takes_script : Configuration → ℕ → Bool
takes_script config ep = list_any (λ info. (info.address == ep) && has_transfers info.kind) config.endpoints

-- whether a script is there, and empty
abbrev pub is_empty_script : Option (List Response) → Bool
is_empty_script None = false
is_empty_script (Some script) = length script == 0

-- whether there is room for a script at an id: none so far
abbrev pub is_free : ℕ → List (List Response) → Bool
is_free id scripts = is_empty_script (slice_get scripts id)

-- this device with the script of one of its endpoints, where it has none so far
abbrev pub device_with : ℕ → List Response → DeviceSetup → Option DeviceSetup
device_with ep answers device =
    if takes_script device.config ep && is_free (endpoint_id ep) device.scripts
    then Some (record device { scripts = slice_set device.scripts (endpoint_id ep) answers })
    else None

-- so many empty scripts
unfoldable pub empty_scripts : ℕ → List (List Response)
empty_scripts zero = []
empty_scripts (suc n) = empty_scripts n ++ [] ∷ []

-- a device as its line says, with an empty script for each id of an endpoint
abbrev pub new_device : Configuration → DeviceSetup
new_device config = record { config = config; scripts = empty_scripts endpoint_ids }
