-- Devices that lines describe can be made.
use Rattle.std.proofs.Common.{◌≡◌, ℕ, zero, suc, ◌+◌, ◌*◌, ◌%◌, ◌==◌, nat_le, Bool, true, false, ◌&&◌, ◌||◌, List, [], ◌∷◌, ◌++◌, length, length-append, length-set, Option, Some, None, refl, sym, ap, ◌∙◌, arith}
use Rattle.std.specs.Prelude.{IfSome, slice_get, slice_set, if◌then◌else◌}
use Rattle.std.specs.List.{AllByRecursion, find, list_all, list_any}
use Rattle.std.proofs.lemmas.Bool.{and_from, and_parts, eq-eqb, eqb-true, le-leb}
use Rattle.usb_model.specs.declared.response.Response.{Response}
use Rattle.usb_model.specs.declared.setup.Configuration.{Configuration}
use Rattle.usb_model.specs.declared.setup.DeviceSetup.{DeviceSetup}
use Rattle.usb_model.specs.declared.setup.EndpointInfo.{EndpointInfo}
use Rattle.usb_model.specs.Limits.{longest_script}
use Rattle.usb_model.specs.Setup.{endpoint_id, is_in}
use Rattle.usb_device.specs.Scripts.{CanBeMade, are_scripts_from, endpoint_ids, info_by, is_answer, is_script}
use Rattle.usb_scripttext.specs.Devices.{device_with, empty_scripts, has_transfers, is_free, new_device, takes_script}
use Rattle.usb_scripttext.proofs.Fits.{IsScriptOf, if_tested}

-- something holds of one more
pub all_more : {A : Type 0} (F : A → Type 0) (xs : List A) (x : A) → AllByRecursion F xs → F x → AllByRecursion F (xs ++ x ∷ [])
all_more F [] x all last = (last, tt)
all_more F (y ∷ xs) x all last = (all.0, all_more F xs x all.1 last)

-- and of one in another's place
pub all_set : {A : Type 0} (F : A → Type 0) (xs : List A) (i : ℕ) (x : A) → AllByRecursion F xs → F x → AllByRecursion F (slice_set xs i x)
all_set F [] i x all put = tt
all_set F (y ∷ xs) zero x all put = (put, all.1)
all_set F (y ∷ xs) (suc i) x all put = (all.0, all_set F xs i x all.1 put)

-- of one of them
pub all_get : {A : Type 0} (F : A → Type 0) (xs : List A) (i : ℕ) → AllByRecursion F xs → IfSome (slice_get xs i) F
all_get F [] i all = tt
all_get F (y ∷ xs) zero all = all.0
all_get F (y ∷ xs) (suc i) all = all_get F xs i all.1

-- how many scripts there are at first
pub long_empty : (n : ℕ) → length (empty_scripts n) ≡ n
unfolding empty_scripts
long_empty zero = refl
long_empty (suc n) = length-append (empty_scripts n) ([] ∷ []) ∙ omega (arith, long_empty n)

-- they are empty
all_empty : (n : ℕ) → AllByRecursion (λ (script : List Response). script ≡ []) (empty_scripts n)
unfolding empty_scripts
all_empty zero = tt
all_empty (suc n) = all_more (λ script. script ≡ []) (empty_scripts n) [] (all_empty n) refl

-- an empty script may stand anywhere
pub empty_fits : (o : Option EndpointInfo) → is_script o [] ≡ true
empty_fits None = refl
empty_fits (Some x) = refl

empties_fit : (config : Configuration) (id : ℕ) (scripts : List (List Response)) → AllByRecursion (λ script. script ≡ []) scripts → are_scripts_from config id scripts ≡ true
unfolding are_scripts_from
empties_fit config id [] all = refl
empties_fit config id (script ∷ scripts) all = and_from (is_script (info_by config id) script) (are_scripts_from config (id + 1) scripts) (ap (is_script (info_by config id)) all.0 ∙ empty_fits (info_by config id)) (empties_fit config (id + 1) scripts all.1)

-- one script in the place of another
pub script_put : (config : Configuration) (from : ℕ) (scripts : List (List Response)) (i : ℕ) (script : List Response) → are_scripts_from config from scripts ≡ true → is_script (info_by config (from + i)) script ≡ true → are_scripts_from config from (slice_set scripts i script) ≡ true
unfolding are_scripts_from
script_put config from [] i script fit put = refl
script_put config from (old ∷ scripts) zero script fit put =
    let parts = and_parts (is_script (info_by config from) old) (are_scripts_from config (from + 1) scripts) fit in
    let here : ◌≡◌ {A = ℕ} (from + 0) from = omega arith in
    and_from (is_script (info_by config from) script) (are_scripts_from config (from + 1) scripts) (sym (ap (λ n. is_script (info_by config n) script) here) ∙ put) parts.1
script_put config from (old ∷ scripts) (suc i) script fit put =
    let parts = and_parts (is_script (info_by config from) old) (are_scripts_from config (from + 1) scripts) fit in
    let same : ◌≡◌ {A = ℕ} (from + suc i) (from + 1 + i) = omega arith in
    and_from (is_script (info_by config from) old) (are_scripts_from config (from + 1) (slice_set scripts i script)) parts.0
    (script_put config (from + 1) scripts i script parts.1 (sym (ap (λ n. is_script (info_by config n) script) same) ∙ put))

-- an id says the direction
id_direction : (a b : ℕ) → endpoint_id a ≡ endpoint_id b → is_in a ≡ is_in b
id_direction a b same = by_directions (a % 16) (b % 16) (is_in a) (is_in b) same
  where
    by_directions : (m n : ℕ) (x y : Bool) → 2 * m + (if x then 1 else 0) ≡ 2 * n + (if y then 1 else 0) → x ≡ y
    by_directions m n true true e = refl
    by_directions m n false false e = refl
    by_directions m n true false e = absurd (omega (arith, e))
    by_directions m n false true e = absurd (omega (arith, e))

-- where there is an endpoint of an address, its id has one of the same direction
pub record IsThere (ep : ℕ) (infos : List EndpointInfo) : Type 0 where
  pub info : EndpointInfo
  pub found : find (λ x. endpoint_id x.address == endpoint_id ep) infos ≡ Some info
  pub direction : is_in info.address ≡ is_in ep

pub there : (ep : ℕ) (infos : List EndpointInfo) → list_any (λ info. (info.address == ep) && has_transfers info.kind) infos ≡ true → IsThere ep infos
there ep [] any = absurd cc
there ep (x ∷ infos) any = by_id (endpoint_id x.address == endpoint_id ep) refl (there ep infos)
  where
    others : (same transfers : Bool) → (endpoint_id x.address == endpoint_id ep) ≡ false → (x.address == ep) ≡ same → ((same && transfers) || list_any (λ info. (info.address == ep) && has_transfers info.kind) infos) ≡ true
        → list_any (λ info. (info.address == ep) && has_transfers info.kind) infos ≡ true
    others true transfers e is any = absurd (cc (e, ap (λ a. endpoint_id a == endpoint_id ep) (eqb-true x.address ep is), eq-eqb (endpoint_id ep) (endpoint_id ep) refl))
    others false transfers e is any = any

    by_id : (b : Bool) → (endpoint_id x.address == endpoint_id ep) ≡ b → (list_any (λ info. (info.address == ep) && has_transfers info.kind) infos ≡ true → IsThere ep infos) → IsThere ep (x ∷ infos)
    by_id true e further = record { info = x; found = rw e refl; direction = id_direction x.address ep (eqb-true (endpoint_id x.address) (endpoint_id ep) e) }
    by_id false e further =
        let rest : IsThere ep infos = further (others (x.address == ep) (has_transfers x.kind) e refl any) in
        record { info = rest.info; found = rw e rest.found; direction = rest.direction }

-- the script of an endpoint may stand at its id
script_stands : (config : Configuration) (ep : ℕ) (answers : List Response) → takes_script config ep ≡ true → IsScriptOf ep answers → is_script (info_by config (endpoint_id ep)) answers ≡ true
script_stands config ep answers takes fits =
    let t : IsThere ep config.endpoints = there ep config.endpoints takes in
    ap (λ o. is_script o answers) t.found
    ∙ and_from (nat_le (length answers) longest_script) (list_all (is_answer (is_in t.info.address)) answers) (le-leb (length answers) longest_script fits.0) (ap (λ b. list_all (is_answer b) answers) t.direction ∙ fits.1)

-- a device with one more of its scripts
pub device_made : (ep : ℕ) (answers : List Response) (device : DeviceSetup) → IsScriptOf ep answers → CanBeMade device → IfSome (device_with ep answers device) CanBeMade
device_made ep answers device fits made =
    if_tested CanBeMade (takes_script device.config ep && is_free (endpoint_id ep) device.scripts) (record device { scripts = slice_set device.scripts (endpoint_id ep) answers })
    (λ passed. let parts = and_parts (takes_script device.config ep) (is_free (endpoint_id ep) device.scripts) passed in
    let from_0 : ◌≡◌ {A = ℕ} (0 + endpoint_id ep) (endpoint_id ep) = omega arith in
    record {
      all = length-set device.scripts (endpoint_id ep) answers ∙ made.all;
      fit = script_put device.config 0 device.scripts (endpoint_id ep) answers made.fit (ap (λ n. is_script (info_by device.config n) answers) from_0 ∙ script_stands device.config ep answers parts.0 fits);
    })

-- a device without scripts
pub new_made : (config : Configuration) → CanBeMade (new_device config)
new_made config = record { all = long_empty endpoint_ids; fit = empties_fit config 0 (empty_scripts endpoint_ids) (all_empty endpoint_ids) }
