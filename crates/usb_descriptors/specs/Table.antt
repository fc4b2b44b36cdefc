-- A configuration's endpoints as a table: what stands in it, what may be added, and how one is found.
use Rattle.std.specs.Prelude.{◌≡◌, ℕ, ◌<◌, ◌%◌, ◌==◌, nat_eq, false, List, [], ◌∷◌, map, Option, if◌then◌else◌}
use Rattle.std.specs.List.{AllByRecursion, IsDistinct, find, list_any}
use Rattle.usb_model.specs.declared.setup.Configuration.{Configuration}
use Rattle.usb_model.specs.declared.setup.EndpointInfo.{EndpointInfo}
use Rattle.usb_descriptors.specs.declared.fault.DescFault.{DescFault}
use Rattle.usb_descriptors.specs.declared.fault.DescFault.TheVariants.{SharedEndpoint, BadPacketSize}
use Rattle.usb_descriptors.specs.Grammar.{is_bad_size}

-- what the configuration says of the endpoint of this address
abbrev pub info_at : Configuration → ℕ → Option EndpointInfo
info_at config ep = find (λ x. x.address == ep) config.endpoints

-- a byte whose bits 6 to 4 are 0, with a number other than 0
pub record IsNumbered (address : ℕ) : Type 0 where
  pub byte : address < 256
  pub plain : address % 128 < 16
  pub number : 0 < address % 16

-- the addresses of endpoints
abbrev pub addresses : List EndpointInfo → List ℕ
addresses endpoints = map (λ x. x.address) endpoints

-- endpoints that a configuration may have: their addresses are numbered and differ, and their sizes aren't bad
pub record IsTable (endpoints : List EndpointInfo) : Type 0 where
  pub numbered : AllByRecursion IsNumbered (addresses endpoints)
  pub distinct : IsDistinct nat_eq (addresses endpoints)
  pub sized : AllByRecursion (λ x. is_bad_size x ≡ false) endpoints

-- the fault of one more endpoint beside those of a table
abbrev pub faults_beside : List EndpointInfo → EndpointInfo → List DescFault
faults_beside endpoints x =
    if list_any (λ y. y.address == x.address) endpoints then SharedEndpoint x.address ∷ []
    else if is_bad_size x then BadPacketSize x.address ∷ []
    else []
