-- What a setup says of an endpoint, by its address and by its id.
use Rattle.std.proofs.Common.{◌≡◌, ℕ, ◌==◌, Bool, true, false, refl, ap, sym, ◌∙◌, List, [], ◌∷◌, Option, Some, None, find, slice_get}
use Rattle.std.specs.Prelude.{is_some, option_map, if◌then◌else◌}
use Rattle.std.specs.Option.{option_map_or}
use Rattle.std.specs.List.{AllByRecursion}
use Rattle.std.proofs.lemmas.Bool.{eq-eqb, eqb-true, ne_eqb}
use Rattle.usb_model.specs.declared.setup.DeviceSetup.{DeviceSetup}
use Rattle.usb_model.specs.declared.setup.EndpointInfo.{EndpointInfo}
use Rattle.usb_model.specs.Setup.{Setup, endpoint_id, info_of, interface_of}
use Rattle.usb_tables.specs.Tables.{is_plain}
use Rattle.usb_descriptors.specs.Table.{info_at}
use Rattle.usb_device.specs.Scripts.{info_by}
use Rattle.refine_rings.specs.Laws.{HasPlain}
use Rattle.refine_rings.proofs.Ids.{same_id}

-- an endpoint of an interface, in its device's configuration
pub record IsFound (setup : Setup) (d e : ℕ) : Type 0 where
  pub device : DeviceSetup
  pub there : slice_get setup d ≡ Some device
  pub info : EndpointInfo
  pub here : info_at device.config e ≡ Some info
  pub is : info_of setup d e ≡ Some info

pub found : (setup : Setup) (d e i : ℕ) → interface_of setup d e ≡ Some i → IsFound setup d e
unfolding info_of
found setup d e i at = by_device (slice_get setup d) refl
  where
    by_info : (x : DeviceSetup) → slice_get setup d ≡ Some x → (o : Option EndpointInfo) → info_of setup d e ≡ o → IsFound setup d e
    by_info x there None none = absurd (cc (ap (option_map (λ (z : EndpointInfo). z.interface)) none, at))
    by_info x there (Some z) is = record {
      device = x;
      there = there;
      info = z;
      here = sym (ap (λ (o : Option DeviceSetup). find (λ (y : EndpointInfo). y.address == e) (option_map_or (λ (v : DeviceSetup). v.config.endpoints) o [])) there) ∙ is;
      is = is;
    }

    by_device : (o : Option DeviceSetup) → slice_get setup d ≡ o → IsFound setup d e
    by_device None none = absurd (cc (ap (λ (o : Option DeviceSetup). option_map (λ (z : EndpointInfo). z.interface) (find (λ (y : EndpointInfo). y.address == e) (option_map_or (λ (v : DeviceSetup). v.config.endpoints) o []))) none, at))
    by_device (Some x) there = by_info x there (info_of setup d e) refl

-- an endpoint whose address is plain
abbrev is_plain_one : EndpointInfo → Type 0
is_plain_one x = is_plain x.address ≡ true

-- where all addresses that are found are plain, all are
pub all_plain : (xs : List EndpointInfo) → ((e : ℕ) → is_some (find (λ (x : EndpointInfo). x.address == e) xs) ≡ true → is_plain e ≡ true) → AllByRecursion is_plain_one xs
all_plain [] plain = tt
all_plain (x ∷ xs) plain = (plain x.address (rw (eq-eqb x.address x.address refl) refl), all_plain xs (λ e there. plain e (behind e (x.address == e) there)))
  where
    behind : (e : ℕ) (b : Bool) → is_some (find (λ (y : EndpointInfo). y.address == e) xs) ≡ true → is_some (if b then Some x else find (λ (y : EndpointInfo). y.address == e) xs) ≡ true
    behind e true there = refl
    behind e false there = there

-- among endpoints of plain addresses one is found by its id as by its address
pub find_by_id : (xs : List EndpointInfo) (e : ℕ) → is_plain e ≡ true → AllByRecursion is_plain_one xs → find (λ (x : EndpointInfo). endpoint_id x.address == endpoint_id e) xs ≡ find (λ (x : EndpointInfo). x.address == e) xs
find_by_id [] e plain all = refl
find_by_id (x ∷ xs) e plain all = by_test (x.address == e) refl (find_by_id xs e plain all.1)
  where
    by_test : (b : Bool) → (x.address == e) ≡ b → find (λ (y : EndpointInfo). endpoint_id y.address == endpoint_id e) xs ≡ find (λ (y : EndpointInfo). y.address == e) xs
        → find (λ (y : EndpointInfo). endpoint_id y.address == endpoint_id e) (x ∷ xs) ≡ (if b then Some x else find (λ (y : EndpointInfo). y.address == e) xs)
    by_test true t rest = let same : (endpoint_id x.address == endpoint_id e) ≡ true = eq-eqb _ _ (ap endpoint_id (eqb-true x.address e t)) in rw same refl
    by_test false t rest =
        let apart : (endpoint_id x.address == endpoint_id e) ≡ false = ne_eqb _ _ (λ same. absurd (cc (t, eq-eqb x.address e (same_id x.address e all.0 plain same)))) in
        rw apart rest

-- the configuration says of this id what it says of the address
pub found_by_id : (setup : Setup) (d e i : ℕ) (x : DeviceSetup) → HasPlain setup → interface_of setup d e ≡ Some i → slice_get setup d ≡ Some x → info_by x.config (endpoint_id e) ≡ info_at x.config e
unfolding info_of
found_by_id setup d e i x plain at there =
    find_by_id x.config.endpoints e (plain d e i at) (all_plain x.config.endpoints (λ f some. by_info f (find (λ (y : EndpointInfo). y.address == f) x.config.endpoints) refl some))
  where
    same : (f : ℕ) → interface_of setup d f ≡ option_map (λ (z : EndpointInfo). z.interface) (find (λ (y : EndpointInfo). y.address == f) x.config.endpoints)
    same f = ap (λ (o : Option DeviceSetup). option_map (λ (z : EndpointInfo). z.interface) (find (λ (y : EndpointInfo). y.address == f) (option_map_or (λ (v : DeviceSetup). v.config.endpoints) o []))) there

    by_info : (f : ℕ) (o : Option EndpointInfo) → find (λ (y : EndpointInfo). y.address == f) x.config.endpoints ≡ o → is_some o ≡ true → is_plain f ≡ true
    by_info f None none some = absurd cc
    by_info f (Some z) is some = plain d f z.interface (same f ∙ ap (option_map (λ (w : EndpointInfo). w.interface)) is)

-- what the configuration of a device says of an address, the setup says
pub info_is : (setup : Setup) (d e : ℕ) (x : DeviceSetup) (z : EndpointInfo) → slice_get setup d ≡ Some x → info_at x.config e ≡ Some z → info_of setup d e ≡ Some z
unfolding info_of
info_is setup d e x z there here = ap (λ (o : Option DeviceSetup). find (λ (y : EndpointInfo). y.address == e) (option_map_or (λ (v : DeviceSetup). v.config.endpoints) o [])) there ∙ here
