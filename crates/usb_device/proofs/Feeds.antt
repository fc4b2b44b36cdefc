-- A device that is fed stays lawful.
use Rattle.std.proofs.Common.{◌≡◌, ℕ, zero, suc, ◌+◌, ◌<◌, ◌==◌, ◌&&◌, Bool, true, false, nat_lt, List, [], ◌∷◌, ◌++◌, length, get_or, slice_get, slice_set, ap, sym, ◌∙◌, refl, arith, length-set, get_or-set_other, Result, Ok, Err, OnOk, OnErr, subst}
use Rattle.std.specs.List.{list_all}
use Rattle.std.specs.Option.{unwrap_or}
use Rattle.std.proofs.lemmas.Bool.{and_from, and_parts, eq-eqb, eqb-true}
use Rattle.std.proofs.lemmas.Grind.{get_or-set_at}
use Rattle.std.proofs.lemmas.List.Folds.{list_all-append}
use Rattle.std.proofs.lemmas.Option.{unwrap_or-slice_get}
use Rattle.usb_model.specs.declared.response.Response.{Response}
use Rattle.usb_model.specs.Direction.{is_of_direction}
use Rattle.usb_model.specs.Limits.{longest_script}
use Rattle.usb_model.specs.Setup.{endpoint_id, is_in}
use Rattle.usb_device.specs.Feeds.{may_be_fed, pipe_fed}
use Rattle.usb_device.specs.Pipe.{IsLawful, Pipe, no_pipe, pipe_at}
use Rattle.usb_device.specs.Scripts.{is_answer, is_short}
use Rattle.usb_device.proofs.Fits.{endpoint_id-few, same-direction}

-- what may be fed is of the endpoint's direction
pub fits : (ep : ℕ) (answer : Response) (p : Pipe) → may_be_fed ep answer p ≡ true → is_of_direction (is_in ep) answer ≡ true
fits ep answer p may =
    let rest = (and_parts (nat_lt 0 p.size) (is_answer (is_in ep) answer && nat_lt (length p.script) longest_script) may).1 in
    let is = (and_parts (is_answer (is_in ep) answer) (nat_lt (length p.script) longest_script) rest).0 in
    (and_parts (is_of_direction (is_in ep) answer) (is_short answer) is).0

-- and so is the script behind it
fits_all : (ep : ℕ) (answer : Response) (p : Pipe) → may_be_fed ep answer p ≡ true → list_all (is_of_direction (is_in ep)) p.script ≡ true
    → list_all (is_of_direction (is_in ep)) (pipe_fed answer p).script ≡ true
fits_all ep answer p may all =
    list_all-append (is_of_direction (is_in ep)) p.script (answer ∷ [])
    ∙ and_from (list_all (is_of_direction (is_in ep)) p.script) (is_of_direction (is_in ep) answer && true) all (and_from (is_of_direction (is_in ep) answer) true (fits ep answer p may) refl)

-- the endpoint of an address behind a change at an id
pub at_set : (pipes : List Pipe) (id e : ℕ) (p : Pipe) → endpoint_id e ≡ id → id < length pipes → pipe_at (slice_set pipes id p) e ≡ p
at_set pipes id e p is few =
    unwrap_or-slice_get (slice_set pipes id p) (endpoint_id e) no_pipe ∙ get_or-set_at pipes id (endpoint_id e) p no_pipe is few

pub at_other : (pipes : List Pipe) (id e : ℕ) (p : Pipe) → (endpoint_id e ≡ id → ⊥) → pipe_at (slice_set pipes id p) e ≡ pipe_at pipes e
at_other pipes id e p other =
    unwrap_or-slice_get (slice_set pipes id p) (endpoint_id e) no_pipe ∙ get_or-set_other pipes id (endpoint_id e) p no_pipe other ∙ sym (unwrap_or-slice_get pipes (endpoint_id e) no_pipe)

fed_lawful : (pipes : List Pipe) (ep : ℕ) (answer : Response) → IsLawful pipes → may_be_fed ep answer (pipe_at pipes ep) ≡ true
    → IsLawful (slice_set pipes (endpoint_id ep) (pipe_fed answer (pipe_at pipes ep)))
fed_lawful pipes ep answer lawful may = record {
  all = length-set pipes (endpoint_id ep) (pipe_fed answer (pipe_at pipes ep)) ∙ lawful.all;
  fit = λ e. by_id e (endpoint_id e == endpoint_id ep) refl;
}
  where
    new : Pipe
    new = pipe_fed answer (pipe_at pipes ep)

    by_id : (e : ℕ) (b : Bool) → (endpoint_id e == endpoint_id ep) ≡ b → list_all (is_of_direction (is_in e)) (pipe_at (slice_set pipes (endpoint_id ep) new) e).script ≡ true
    by_id e true same =
        let id : endpoint_id e ≡ endpoint_id ep = eqb-true (endpoint_id e) (endpoint_id ep) same in
        let few : endpoint_id ep < length pipes = omega (arith, endpoint_id-few ep, lawful.all) in
        ap (λ (q : Pipe). list_all (is_of_direction (is_in e)) q.script) (at_set pipes (endpoint_id ep) e new id few)
        ∙ ap (λ (inward : Bool). list_all (is_of_direction inward) new.script) (same-direction e ep id)
        ∙ fits_all ep answer (pipe_at pipes ep) may (lawful.fit ep)
    by_id e false apart =
        let other : endpoint_id e ≡ endpoint_id ep → ⊥ = λ same. absurd (cc (apart, eq-eqb (endpoint_id e) (endpoint_id ep) same)) in
        ap (λ (q : Pipe). list_all (is_of_direction (is_in e)) q.script) (at_other pipes (endpoint_id ep) e new other) ∙ lawful.fit e

-- however it ended: an endpoint that is fed, or stays
pub still_lawful : {X Y : Type 0} (pipes : List Pipe) (ep id : ℕ) (answer : Response) (old new : Pipe) (r : Result X Y) → IsLawful pipes → id ≡ endpoint_id ep → old ≡ pipe_at pipes ep
    → OnOk r (new ≡ pipe_fed answer old) → OnOk r (may_be_fed ep answer old ≡ true) → OnErr r (new ≡ old) → IsLawful (slice_set pipes id new)
still_lawful pipes ep id answer old new (Ok x) lawful is at fed may stays =
    rw (is, fed, at) (fed_lawful pipes ep answer lawful (ap (may_be_fed ep answer) (sym at) ∙ may))
still_lawful pipes ep id answer old new (Err y) lawful is at fed may stays = rw (is, stays, at) (subst IsLawful (sym (set_same pipes (endpoint_id ep))) lawful)
  where
    set_same : (xs : List Pipe) (i : ℕ) → slice_set xs i (unwrap_or (slice_get xs i) no_pipe) ≡ xs
    set_same [] i = refl
    set_same (x ∷ xs) zero = refl
    set_same (x ∷ xs) (suc i) = ap (λ ys. x ∷ ys) (set_same xs i)

pub fed_pipes : {X Y : Type 0} (pipes : List Pipe) (ep id : ℕ) (answer : Response) (old new : Pipe) (r : Result X Y) → id ≡ endpoint_id ep → old ≡ pipe_at pipes ep
    → OnOk r (new ≡ pipe_fed answer old) → OnOk r (slice_set pipes id new ≡ slice_set pipes (endpoint_id ep) (pipe_fed answer (pipe_at pipes ep)))
fed_pipes pipes ep id answer old new (Ok x) is at fed = rw (is, fed, at) refl
fed_pipes pipes ep id answer old new (Err y) is at fed = tt

-- what is lent of an endpoint's place is the endpoint
pub lent_at : (pipes : List Pipe) (ep id : ℕ) (p : Pipe) → IsLawful pipes → id ≡ endpoint_id ep → p ≡ get_or pipes id p → p ≡ pipe_at pipes ep
lent_at pipes ep id p lawful is there =
    there ∙ ap (λ i. get_or pipes i p) is ∙ any_default pipes (endpoint_id ep) p (omega (arith, endpoint_id-few ep, lawful.all)) ∙ sym (unwrap_or-slice_get pipes (endpoint_id ep) no_pipe)
  where
    any_default : (xs : List Pipe) (i : ℕ) (d : Pipe) → i < length xs → get_or xs i d ≡ get_or xs i no_pipe
    any_default [] i d few = absurd (omega (arith, few))
    any_default (x ∷ xs) zero d few = refl
    any_default (x ∷ xs) (suc i) d few = any_default xs i d (omega (arith, few))
