-- How the tables of names, interfaces and endpoints are read.
use Rattle.std.specs.Prelude.{◌≡◌, ℕ, ◌+◌, ◌*◌, ◌/◌, ◌%◌, ◌<◌, nat_lt, Bool, ◌&&◌, List, Option, None, option_map, slice_get, slice_index_or, if◌then◌else◌}
use Rattle.std.specs.Option.{option_and_then}
use Rattle.usb_model.specs.declared.setup.Configuration.{Configuration}
use Rattle.usb_model.specs.Setup.{endpoint_id}
use Rattle.usb_model.specs.World.{is_its}
use Rattle.usb_descriptors.specs.Table.{info_at}

-- the device that a name has open, by name
abbrev pub device_at : List (Option ℕ) → ℕ → Option ℕ
device_at devices h = slice_index_or devices h None

-- who holds an interface of a device, 0 to 3, by 256 x device + interface
unfoldable pub owner_at : List (Option ℕ) → ℕ → ℕ → Option ℕ
owner_at owners d i = if nat_lt d 4 && nat_lt i 256 then slice_index_or owners (256 * d + i) None else None

-- whoever held it, but the name
abbrev pub freed : ℕ → Option ℕ → Option ℕ
freed h o = if is_its h o then None else o

-- the interface of the endpoint of this address, in the configuration of this device
abbrev pub interface_at : List Configuration → ℕ → ℕ → Option ℕ
interface_at configs d e = option_and_then (λ c. option_map (λ x. x.interface) (info_at c e)) (slice_get configs d)

-- whether a byte's bits 6 to 4 are 0, as an endpoint's address has them (USB 2.0, 9.6.6)
abbrev pub is_plain : ℕ → Bool
is_plain e = nat_lt e 256 && nat_lt (e % 128) 16

-- the address of this endpoint id, 0 to 31 (xHCI 1.2, 4.5.1)
abbrev pub address_of_id : ℕ → ℕ
address_of_id id = id / 2 + 128 * (id % 2)

-- a table's answer for an endpoint, by 32 x device + endpoint id
unfoldable pub indexed : List (Option ℕ) → ℕ → ℕ → Option ℕ
indexed cells d e = if is_plain e then slice_index_or cells (32 * d + endpoint_id e) None else None

-- the table answers as the configurations say
pub record IsIndex (configs : List Configuration) (cells : List (Option ℕ)) : Type 0 where
  pub each : (d e : ℕ) → d < 4 → interface_at configs d e ≡ indexed cells d e
