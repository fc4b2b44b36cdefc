-- One endpoint's script goes on.
use Rattle.std.proofs.Common.{◌≡◌, ℕ, zero, suc, ◌==◌, Bool, true, false, ◌&&◌, List, [], ◌∷◌, ◌++◌, Option, Some, None, refl, sym, ap, ap₂, ◌∙◌, append-nil}
use Rattle.std.specs.Prelude.{if◌then◌else◌, is_some, slice_get}
use Rattle.std.specs.Option.{unwrap_or, option_map, option_and_then, option_map_or}
use Rattle.std.specs.List.{find}
use Rattle.std.proofs.Math.Dec.{eqb-suc-suc, eqb-suc-zero, eqb-zero-suc}
use Rattle.std.proofs.lemmas.Bool.{eqb-true}
use Rattle.usb_model.specs.declared.response.Response.{Response}
use Rattle.usb_model.specs.declared.setup.DeviceSetup.{DeviceSetup}
use Rattle.usb_model.specs.declared.setup.EndpointInfo.{EndpointInfo}
use Rattle.usb_model.specs.Setup.{Setup, endpoint_id, endpoints_of, info_of, script_at, script_of}
use Rattle.refine_world.specs.Living.{GoesOn}
use Rattle.refine_world.specs.Fed.{changed_at, device_fed, fed, has_script, fed_at, FedGoesOn}

none_got : {A : Type 0} (b : Bool) → ◌≡◌ {A = Option A} None (if b then None else None)
none_got true = refl
none_got false = refl

-- what stands at an index after the change
pub got : {A : Type 0} (f : A → A) (i j : ℕ) (xs : List A) → slice_get (changed_at f i xs) j ≡ (if i == j then option_map f (slice_get xs j) else slice_get xs j)
got f i j [] = none_got (i == j)
got f zero zero (x ∷ xs) = refl
got f zero (suc j) (x ∷ xs) = rw (eqb-zero-suc j) refl
got f (suc i) zero (x ∷ xs) = rw (eqb-suc-zero i) refl
got f (suc i) (suc j) (x ∷ xs) = rw (eqb-suc-suc i j) (got f i j xs)

-- what the change doesn't touch
same_by : {B : Type 0} (g : Option DeviceSetup → B) (id : ℕ) (more : List Response) → ((x : DeviceSetup) → g (Some (device_fed id more x)) ≡ g (Some x)) → (b : Bool) (o : Option DeviceSetup)
    → g (if b then option_map (device_fed id more) o else o) ≡ g o
same_by g id more keeps true None = refl
same_by g id more keeps true (Some x) = keeps x
same_by g id more keeps false o = refl

untouched : {B : Type 0} (g : Option DeviceSetup → B) (setup : Setup) (dev id : ℕ) (more : List Response) (d : ℕ) → ((x : DeviceSetup) → g (Some (device_fed id more x)) ≡ g (Some x))
    → g (slice_get (fed setup dev id more) d) ≡ g (slice_get setup d)
untouched g setup dev id more d keeps = ap g (got (device_fed id more) dev d setup) ∙ same_by g id more keeps (dev == d) (slice_get setup d)

-- the scripts
script_by : (id : ℕ) (more : List Response) (k : ℕ) (o : Option (List Response)) (b : Bool)
    → unwrap_or (if b then option_map (λ s. s ++ more) o else o) [] ≡ unwrap_or o [] ++ (if b && is_some o then more else [])
script_by id more k None true = refl
script_by id more k None false = refl
script_by id more k (Some s) true = refl
script_by id more k (Some s) false = sym (append-nil s)

none_by : (more : List Response) (b : Bool) → ◌≡◌ {A = List Response} [] (if b && false then more else [])
none_by more true = refl
none_by more false = refl

device_by : (id : ℕ) (more : List Response) (k : ℕ) (b : Bool) (o : Option DeviceSetup)
    → unwrap_or (option_and_then (λ x. slice_get x.scripts k) (if b then option_map (device_fed id more) o else o)) []
    ≡ unwrap_or (option_and_then (λ x. slice_get x.scripts k) o) [] ++ (if b && ((id == k) && is_some (option_and_then (λ x. slice_get x.scripts k) o)) then more else [])
device_by id more k false o = sym (append-nil _)
device_by id more k true None = none_by more (id == k)
device_by id more k true (Some x) = ap (λ o. unwrap_or o []) (got (λ s. s ++ more) id k x.scripts) ∙ script_by id more k (slice_get x.scripts k) (id == k)

-- a script stands at the id that is meant, or it makes no difference
eq_cond : (setup : Setup) (more : List Response) (d id k : ℕ) (b : Bool) → (if b && ((id == k) && has_script setup d k) then more else []) ≡ (if b && ((id == k) && has_script setup d id) then more else [])
eq_cond setup more d id k b = by_test (id == k) refl
  where
    by_test : (t : Bool) → (id == k) ≡ t → (if b && (t && has_script setup d k) then more else []) ≡ (if b && (t && has_script setup d id) then more else [])
    by_test true e = ap (λ j. if b && has_script setup d j then more else []) (sym (eqb-true id k e))
    by_test false e = refl

info_by : (setup : Setup) (more : List Response) (dev id d ep : ℕ) (o : Option EndpointInfo) (left new : List Response)
    → new ≡ left ++ (if (dev == d) && ((id == endpoint_id ep) && has_script setup d id) then more else [])
    → option_map_or (λ x. new) o [] ≡ option_map_or (λ x. left) o [] ++ (if (dev == d) && ((id == endpoint_id ep) && (is_some o && has_script setup d id)) then more else [])
info_by setup more dev id d ep None left new e = by_tests (dev == d) (id == endpoint_id ep)
  where
    by_tests : (a b : Bool) → ◌≡◌ {A = List Response} [] (if a && (b && false) then more else [])
    by_tests true true = refl
    by_tests true false = refl
    by_tests false b = refl
info_by setup more dev id d ep (Some z) left new e = e

pub fed_goes_on : FedGoesOn
unfolding info_of
fed_goes_on setup dev id more = record {
  devices = λ d. untouched is_some setup dev id more d (λ x. refl);
  interfaces = λ d. untouched (λ o. option_map_or (λ x. x.config.interfaces) o []) setup dev id more d (λ x. refl);
  endpoints = ends;
  scripts = λ d ep.
      ap (λ xs. option_map_or (λ x. script_at (fed setup dev id more) d (endpoint_id ep)) (find (λ x. x.address == ep) xs) []) (ends d)
      ∙ info_by setup more dev id d ep (info_of setup d ep) (script_at setup d (endpoint_id ep)) (script_at (fed setup dev id more) d (endpoint_id ep))
      (ap (λ o. unwrap_or (option_and_then (λ x. slice_get x.scripts (endpoint_id ep)) o) []) (got (device_fed id more) dev d setup)
      ∙ (device_by id more (endpoint_id ep) (dev == d) (slice_get setup d)
      ∙ ap (λ l. script_at setup d (endpoint_id ep) ++ l) (eq_cond setup more d id (endpoint_id ep) (dev == d))));
}
  where
    ends : (d : ℕ) → endpoints_of (fed setup dev id more) d ≡ endpoints_of setup d
    ends d = untouched (λ o. option_map_or (λ x. x.config.endpoints) o []) setup dev id more d (λ x. refl)
