-- The addresses of a device's endpoints, and their ids.
use Rattle.std.proofs.Common.{◌≡◌, ℕ, ◌+◌, ◌*◌, ◌/◌, ◌%◌, ◌<◌, ◌==◌, nat_le, nat_lt, Bool, true, false, refl, ap, sym, ◌∙◌, arith, [], length, Some, None, Option, find, leb-false, leb-true, ltb-true}
use Rattle.std.specs.Prelude.{option_map, slice_get, if◌then◌else◌}
use Rattle.std.specs.Option.{option_map_or}
use Rattle.std.proofs.lemmas.Bool.{and_parts}
use Rattle.std.proofs.lemmas.Option.{slice_get_within}
use Rattle.usb_model.specs.declared.setup.DeviceSetup.{DeviceSetup}
use Rattle.usb_model.specs.declared.setup.EndpointInfo.{EndpointInfo}
use Rattle.usb_model.specs.Setup.{Setup, endpoint_id, info_of, interface_of, is_in}
use Rattle.usb_tables.specs.Tables.{address_of_id, is_plain}

-- an id is below 32
pub id-lt : (e : ℕ) → endpoint_id e < 32
id-lt e = by_test (is_in e)
  where
    by_test : (b : Bool) → 2 * (e % 16) + (if b then 1 else 0) < 32
    by_test true = omega arith
    by_test false = omega arith

-- an address has its id
address-id : (e : ℕ) → is_plain e ≡ true → address_of_id (endpoint_id e) ≡ e
address-id e plain = by_test (nat_le 128 e) refl
  where
    parts : (nat_lt e 256 ≡ true) × (nat_lt (e % 128) 16 ≡ true)
    parts = and_parts (nat_lt e 256) (nat_lt (e % 128) 16) plain

    byte : e < 256
    byte = ltb-true e 256 parts.0

    low : e % 128 < 16
    low = ltb-true (e % 128) 16 parts.1

    by_test : (b : Bool) → nat_le 128 e ≡ b → (2 * (e % 16) + (if b then 1 else 0)) / 2 + 128 * ((2 * (e % 16) + (if b then 1 else 0)) % 2) ≡ e
    by_test true t = omega (arith, byte, low, leb-true 128 e t)
    by_test false t = omega (arith, byte, low, leb-false 128 e t)

-- plain addresses of one id are one
pub same_id : (e f : ℕ) → is_plain e ≡ true → is_plain f ≡ true → endpoint_id e ≡ endpoint_id f → e ≡ f
same_id e f p q h = sym (address-id e p) ∙ (ap address_of_id h ∙ address-id f q)

-- an endpoint of an interface is a device's
pub has_device : (setup : Setup) (d e i : ℕ) → interface_of setup d e ≡ Some i → d < length setup
unfolding info_of
has_device setup d e i h = by_there (slice_get setup d) refl h
  where
    by_there : (o : Option DeviceSetup) → slice_get setup d ≡ o
        → option_map (λ (x : EndpointInfo). x.interface) (find (λ (x : EndpointInfo). x.address == e) (option_map_or (λ (v : DeviceSetup). v.config.endpoints) o [])) ≡ Some i → d < length setup
    by_there None there g = absurd cc
    by_there (Some x) there g = slice_get_within setup d x there
