-- What fitting scripts give each endpoint.
use Rattle.std.proofs.Common.{◌≡◌, ℕ, zero, suc, ◌+◌, ◌*◌, ◌%◌, ◌<◌, ◌≤◌, List, [], ◌∷◌, length, drop, get_or, map, Option, Some, None, Bool, true, false, nat_le, ◌&&◌, ◌==◌, if◌then◌else◌, count_by, sym, ap, ◌∙◌, refl, arith, add-zero}
use Rattle.std.specs.Option.{unwrap_or}
use Rattle.std.specs.List.{list_all, find, range_with_len}
use Rattle.std.proofs.lemmas.Bool.{and_from, and_parts, eqb-true, leb-true}
use Rattle.std.proofs.lemmas.List.{drop_all, drop_more, nil_from_length}
use Rattle.std.proofs.lemmas.List.Sums.{count_by-le-length}
use Rattle.std.proofs.lemmas.Option.{unwrap_or-slice_get}
use Rattle.std.proofs.lemmas.List.FromFn.{get_or-map-range_with_len, length-map-range_with_len}
use Rattle.usb_model.specs.declared.response.Response.{Response}
use Rattle.usb_model.specs.declared.setup.Configuration.{Configuration}
use Rattle.usb_model.specs.declared.setup.EndpointInfo.{EndpointInfo}
use Rattle.usb_model.specs.Direction.{is_of_direction}
use Rattle.usb_model.specs.Limits.{longest_script}
use Rattle.usb_model.specs.Setup.{endpoint_id, is_in}
use Rattle.usb_device.specs.Pipe.{IsLawful, Pipe, is_ack, no_pipe, pipe_at}
use Rattle.usb_device.specs.Scripts.{are_scripts, are_scripts_from, info_by, is_answer, is_script, is_short, pipe_by, pipes_of, script_by}

-- the next script, and those behind it
pub scripts-next : (config : Configuration) (scripts : List (List Response)) (id : ℕ) (d : List Response) → id < length scripts
    → are_scripts_from config id (drop id scripts) ≡ (is_script (info_by config id) (get_or scripts id d) && are_scripts_from config (id + 1) (drop (id + 1) scripts))
unfolding are_scripts_from
scripts-next config scripts id d lt = ap (are_scripts_from config id) (drop_more scripts id d lt)

-- no answers fit anywhere
nothing-fits : (info : Option EndpointInfo) → is_script info [] ≡ true
nothing-fits None = refl
nothing-fits (Some x) = refl

fits-from : (config : Configuration) (scripts : List (List Response)) (base k : ℕ) → are_scripts_from config base scripts ≡ true
    → is_script (info_by config (base + k)) (script_by scripts k) ≡ true
unfolding are_scripts_from
fits-from config [] base k h = nothing-fits (info_by config (base + k))
fits-from config (s ∷ ss) base zero h =
    ap (λ id. is_script (info_by config id) s) (add-zero base)
    ∙ (and_parts (is_script (info_by config base) s) (are_scripts_from config (base + 1) ss) h).0
fits-from config (s ∷ ss) base (suc k) h =
    let at : base + suc k ≡ base + 1 + k = omega arith in
    ap (λ id. is_script (info_by config id) (script_by ss k)) at
    ∙ fits-from config ss (base + 1) k (and_parts (is_script (info_by config base) s) (are_scripts_from config (base + 1) ss) h).1

-- each script fits its endpoint
pub script-fits : (config : Configuration) (scripts : List (List Response)) (id : ℕ) → are_scripts config scripts ≡ true
    → is_script (info_by config id) (script_by scripts id) ≡ true
script-fits config scripts id h = ap (λ i. is_script (info_by config i) (script_by scripts id)) (let at : id ≡ 0 + id = omega arith in at) ∙ fits-from config scripts 0 id h

-- a script that fits is no longer than a script may be
few : (info : Option EndpointInfo) (script : List Response) → is_script info script ≡ true → length script ≤ longest_script
few None script h = omega (arith, eqb-true (length script) 0 h)
few (Some x) script h = leb-true (length script) longest_script (and_parts (nat_le (length script) longest_script) (list_all (is_answer (is_in x.address)) script) h).0

-- so it takes no more packets
pub acks-few : (config : Configuration) (scripts : List (List Response)) (id : ℕ) → are_scripts config scripts ≡ true
    → count_by is_ack (script_by scripts id) ≤ longest_script
acks-few config scripts id h =
    let fits = few (info_by config id) (script_by scripts id) (script-fits config scripts id h) in
    omega (arith, fits, count_by-le-length is_ack (script_by scripts id))

-- what each answer passes, each weaker test passes
all-weaker : (p q : Response → Bool) → ((x : Response) → p x ≡ true → q x ≡ true) → (xs : List Response) → list_all p xs ≡ true → list_all q xs ≡ true
all-weaker p q w [] h = refl
all-weaker p q w (x ∷ xs) h =
    let both = and_parts (p x) (list_all p xs) h in
    and_from (q x) (list_all q xs) (w x both.0) (all-weaker p q w xs both.1)

answers : (x : EndpointInfo) (script : List Response) → is_script (Some x) script ≡ true → list_all (is_answer (is_in x.address)) script ≡ true
answers x script h = (and_parts (nat_le (length script) longest_script) (list_all (is_answer (is_in x.address)) script) h).1

short : (info : Option EndpointInfo) (script : List Response) → is_script info script ≡ true → list_all is_short script ≡ true
short None script h = rw (nil_from_length script (eqb-true (length script) 0 h)) refl
short (Some x) script h =
    all-weaker (is_answer (is_in x.address)) is_short (λ a both. (and_parts (is_of_direction (is_in x.address) a) (is_short a) both).1) script (answers x script h)

-- its packets aren't too long
pub all-short : (config : Configuration) (scripts : List (List Response)) (id : ℕ) → are_scripts config scripts ≡ true
    → list_all is_short (script_by scripts id) ≡ true
all-short config scripts id h = short (info_by config id) (script_by scripts id) (script-fits config scripts id h)

-- behind the last script
pub scripts-end : (config : Configuration) (scripts : List (List Response)) (id : ℕ) → length scripts ≤ id → are_scripts_from config id (drop id scripts) ≡ true
unfolding are_scripts_from
scripts-end config scripts id le = rw (drop_all id scripts le) refl

-- two addresses of one id are of one direction
pub same-direction : (a b : ℕ) → endpoint_id a ≡ endpoint_id b → is_in a ≡ is_in b
same-direction a b e = by_tests (is_in a) (is_in b) refl refl where
  by_tests : (p q : Bool) → is_in a ≡ p → is_in b ≡ q → is_in a ≡ is_in b
  by_tests true true p q = p ∙ sym q
  by_tests false false p q = p ∙ sym q
  by_tests true false p q =
      let odd : 2 * (a % 16) + 1 ≡ 2 * (b % 16) + 0 = ap (λ (x : Bool). 2 * (a % 16) + (if x then 1 else 0)) (sym p) ∙ e ∙ ap (λ (x : Bool). 2 * (b % 16) + (if x then 1 else 0)) q in
      absurd (omega (arith, odd))
  by_tests false true p q =
      let odd : 2 * (a % 16) + 0 ≡ 2 * (b % 16) + 1 = ap (λ (x : Bool). 2 * (a % 16) + (if x then 1 else 0)) (sym p) ∙ e ∙ ap (λ (x : Bool). 2 * (b % 16) + (if x then 1 else 0)) q in
      absurd (omega (arith, odd))

-- what is found passes the test
found : (p : EndpointInfo → Bool) (xs : List EndpointInfo) (x : EndpointInfo) → find p xs ≡ Some x → p x ≡ true
found p [] x h = absurd (cc (h))
found p (y ∷ ys) x h = by_test (p y) refl h (found p ys x) where
  by_test : (b : Bool) → p y ≡ b → (if b then Some y else find p ys) ≡ Some x → (find p ys ≡ Some x → p x ≡ true) → p x ≡ true
  by_test true passes same rest = ap p (sym (ap (λ (o : Option EndpointInfo). unwrap_or o y) same)) ∙ passes
  by_test false fails same rest = rest same

-- a script that fits has answers of its endpoint's direction
directed : (config : Configuration) (script : List Response) (ep : ℕ) (info : Option EndpointInfo) → info_by config (endpoint_id ep) ≡ info
    → is_script info script ≡ true → list_all (is_of_direction (is_in ep)) script ≡ true
directed config script ep None is h = rw (nil_from_length script (eqb-true (length script) 0 h)) refl
directed config script ep (Some x) is h =
    let id = eqb-true (endpoint_id x.address) (endpoint_id ep) (found (λ y. endpoint_id y.address == endpoint_id ep) config.endpoints x is) in
    ap (λ (inward : Bool). list_all (is_of_direction inward) script) (sym (same-direction x.address ep id))
    ∙ all-weaker (is_answer (is_in x.address)) (is_of_direction (is_in x.address)) (λ a both. (and_parts (is_of_direction (is_in x.address) a) (is_short a) both).0) script (answers x script h)

pub endpoint_id-few : (ep : ℕ) → endpoint_id ep < 32
endpoint_id-few ep = grind arith

-- the endpoint of an address is made of its id
pub pipe_is : (config : Configuration) (scripts : List (List Response)) (ep : ℕ) → pipe_at (pipes_of config scripts) ep ≡ pipe_by config scripts (endpoint_id ep)
unfolding pipes_of
pipe_is config scripts ep =
    let id = endpoint_id ep in
    unwrap_or-slice_get (map (pipe_by config scripts) (range_with_len 0 32)) id no_pipe
    ∙ get_or-map-range_with_len (pipe_by config scripts) 0 32 id id no_pipe (endpoint_id-few ep) (omega arith)

-- scripts that fit are lawful
pub lawful : (config : Configuration) (scripts : List (List Response)) → are_scripts config scripts ≡ true → IsLawful (pipes_of config scripts)
unfolding pipes_of
lawful config scripts h = record {
  all = length-map-range_with_len (pipe_by config scripts) 0 32;
  fit = λ ep.
      let id = endpoint_id ep in
      ap (λ (p : Pipe). list_all (is_of_direction (is_in ep)) p.script) (pipe_is config scripts ep)
      ∙ directed config (script_by scripts id) ep (info_by config id) refl (script-fits config scripts id h);
}
