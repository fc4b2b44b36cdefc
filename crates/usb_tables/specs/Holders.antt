-- Who has which device open, and who holds which interface; and when a call is refused.
use Rattle.std.specs.Prelude.{◌≡◌, ℕ, ◌==◌, Bool, false, not, List, [], map, Option, Some, None, is_some, Result, Ok, Err, slice_get, if◌then◌else◌}
use Rattle.std.specs.Option.{option_map_or}
use Rattle.std.specs.List.{list_any}
use Rattle.usb_model.specs.declared.refused.Refused.{Refused}
use Rattle.usb_model.specs.declared.refused.Refused.TheVariants.{NotFound, Busy, HeldElsewhere}
use Rattle.usb_model.specs.declared.setup.Configuration.{Configuration}
use Rattle.usb_model.specs.Setup.{Setup}
use Rattle.usb_model.specs.World.{Claims, is_its, is_others}
use Rattle.usb_tables.specs.Tables.{device_at, owner_at}

-- the configurations of the devices, by number; the device that each name has open; the name that holds each interface
pub record Holding : Type 0 where
  pub configs : List Configuration
  pub opened : List (Option ℕ)
  pub owners : List (Option ℕ)

-- the devices as they are set up have these configurations
abbrev pub IsSetup : Holding → Setup → Type 0
IsSetup v setup = map (λ x. x.config) setup ≡ v.configs

-- the device that a name has open
abbrev pub device_of : Holding → ℕ → Option ℕ
device_of v h = device_at v.opened h

-- who holds an interface, by device and number
abbrev pub owner_of : Holding → Claims
owner_of v d i = owner_at v.owners d i

abbrev pub has_device : Holding → ℕ → Bool
has_device v dev = is_some (slice_get v.configs dev)

-- the numbers of a device's interfaces; none where there is no such device
abbrev pub interfaces_of : Holding → ℕ → List ℕ
interfaces_of v dev = option_map_or (λ c. c.interfaces) (slice_get v.configs dev) []

abbrev pub has_interface : Holding → ℕ → ℕ → Bool
has_interface v dev i = list_any (λ k. k == i) (interfaces_of v dev)

-- whether the name holds this interface of its device
abbrev pub holds : Holding → ℕ → ℕ → Bool
holds v h i = option_map_or (λ dev. is_its h (owner_of v dev i)) (device_of v h) false

-- whether another name holds an interface of the device
abbrev pub others_hold : Holding → ℕ → ℕ → Bool
others_hold v h dev = list_any (λ i. is_others h (owner_of v dev i)) (interfaces_of v dev)

-- why libusb_open is refused: there is no such device; the name has one open
abbrev pub open_refusal : Holding → ℕ → ℕ → Option Refused
open_refusal v h dev =
    if not (has_device v dev) then Some NotFound
    else if is_some (device_of v h) then Some Busy
    else None

-- why libusb_close is refused: the name isn't open
abbrev pub close_refusal : Holding → ℕ → Option Refused
close_refusal v h = if is_some (device_of v h) then None else Some NotFound

-- why an interface of this device isn't given to the name: the device hasn't got it; another name holds it
abbrev pub claim_refusal_at : Holding → ℕ → ℕ → ℕ → Option Refused
claim_refusal_at v h i dev =
    if not (has_interface v dev i) then Some NotFound
    else if is_others h (owner_of v dev i) then Some HeldElsewhere
    else None

-- why libusb_claim_interface is refused: the name isn't open, or one of these
abbrev pub claim_refusal : Holding → ℕ → ℕ → Option Refused
claim_refusal v h i = option_map_or (λ dev. claim_refusal_at v h i dev) (device_of v h) (Some NotFound)

-- why libusb_release_interface is refused: the interface isn't the name's
abbrev pub release_refusal : Holding → ℕ → ℕ → Option Refused
release_refusal v h i = if holds v h i then None else Some NotFound

-- a call's answer: Err where it is refused, else Ok
abbrev pub answer_of : Option Refused → Result (Unit {0}) Refused
answer_of None = Ok tt
answer_of (Some why) = Err why
