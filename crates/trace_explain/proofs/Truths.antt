-- The sentences of refusals are true.
use Rattle.std.proofs.Common.{◌≡◌, ℕ, ◌+◌, ◌==◌, ◌&&◌, ◌||◌, not, suc, Bool, true, false, List, [], ◌∷◌, length, Option, Some, None, refl, subst, arith, cond}
use Rattle.std.specs.Prelude.{is_some, is_none, if◌then◌else◌}
use Rattle.std.specs.List.{count_by, find, list_any}
use Rattle.std.specs.Option.{option_map_or, unwrap_or}
use Rattle.std.proofs.lemmas.List.Recursion.{is_count_by}
use Rattle.std.proofs.lemmas.Option.{same_Some}
use Rattle.usb_model.specs.declared.endpoint.Endpoint.{Endpoint}
use Rattle.usb_model.specs.declared.errand.Errand.{Errand}
use Rattle.usb_model.specs.declared.item.Item.{Item}
use Rattle.usb_model.specs.declared.refusal.Obstacle.TheVariants as obstacle
use Rattle.usb_model.specs.declared.refusal.Refusal.{Refusal}
use Rattle.usb_model.specs.declared.result.InCallback.{InCallback}
use Rattle.usb_model.specs.declared.setup.EndpointInfo.{EndpointInfo}
use Rattle.usb_model.specs.Endpoint.{in_progress, is_blank}
use Rattle.usb_model.specs.Machine.{Machine, are_quiet, device_of, endpoint_at, is_callback_at, is_quiet, is_result_at}
use Rattle.usb_model.specs.Machine.Calls.{busy_at, first_in_progress, quiet_facts}
use Rattle.usb_model.specs.Refusals.{first_reason, in_way}
use Rattle.usb_model.specs.Setup.{Setup, endpoints_of}
use Rattle.proof_model.proofs.Lists.Pieces.{same_name}
use Rattle.trace_explain.specs.Truth.{ObstacleIs}
use Rattle.trace_explain.proofs.Unquiet.{found_or_quiet, is_unquiet}

-- each reason of a table is true where its test is the first that holds
abbrev pub AllTrue : (Refusal → Type 0) → List (Bool × Refusal) → Type 0
AllTrue P [] = Unit {0}
AllTrue P (x ∷ xs) = (x.0 ≡ true → P x.1) × (x.0 ≡ false → AllTrue P xs)

pub first_true : (P : Refusal → Type 0) (tests : List (Bool × Refusal)) (r : Refusal) → AllTrue P tests → first_reason tests ≡ Some r → P r
first_true P [] r all e = absurd cc
first_true P (x ∷ xs) r all e = by_test x.0 refl e (λ fails q. first_true P xs r (all.1 fails) q)
  where
    by_test : (b : Bool) → x.0 ≡ b → (if b then Some x.1 else first_reason xs) ≡ Some r → (x.0 ≡ false → first_reason xs ≡ Some r → P r) → P r
    by_test true holds q rest = subst P (same_Some x.1 r q) (all.0 holds)
    by_test false fails q rest = rest fails q

pub not_true : (b : Bool) → not b ≡ true → b ≡ false
not_true true e = absurd cc
not_true false e = refl

pub not_false : (b : Bool) → not b ≡ false → b ≡ true
not_false true e = refl
not_false false e = absurd cc

-- an option that has something, or nothing
pub some_of : (o : Option ℕ) → is_some o ≡ true → o ≡ Some (unwrap_or o 0)
some_of None e = absurd cc
some_of (Some x) e = refl

pub none_of : (o : Option ℕ) → not (is_some o) ≡ true → o ≡ None
none_of None e = refl
none_of (Some x) e = absurd cc

-- the first in progress is
live_found : (n : ℕ) (line : List Item) → first_in_progress line ≡ Some n → is_some (in_progress n line) ≡ true
unfolding first_in_progress in_progress
live_found n [] e = absurd cc
live_found n (x ∷ xs) e = by_blank (is_blank x) refl e (λ q. live_found n xs q)
  where
    passed : (t : Bool) → is_some (in_progress n xs) ≡ true → is_some (if t && false then Some x else in_progress n xs) ≡ true
    passed true q = q
    passed false q = q

    by_blank : (b : Bool) → is_blank x ≡ b → (if b then first_in_progress xs else Some x.n) ≡ Some n → (first_in_progress xs ≡ Some n → is_some (in_progress n xs) ≡ true)
        → is_some (if (x.n == n) && not (is_blank x) then Some x else in_progress n xs) ≡ true
    by_blank true q found rest = rw q (passed (x.n == n) (rest found))
    by_blank false q found rest = let same : x.n ≡ n = same_Some x.n n found in rw (q, same, same_name n) refl

-- where none is, one that is withdrawn stands in a line that isn't empty
blank_found : (line : List Item) → (length line == 0) ≡ false → first_in_progress line ≡ None → list_any is_blank line ≡ true
unfolding first_in_progress
blank_found [] e none = absurd cc
blank_found (x ∷ xs) e none = by_blank (is_blank x) none
  where
    by_blank : (b : Bool) → (if b then first_in_progress xs else Some x.n) ≡ None → (b || list_any is_blank xs) ≡ true
    by_blank true q = refl
    by_blank false q = absurd cc

-- those that pass a test and the others, by recursion
counted : (Item → Bool) → List Item → ℕ
counted p [] = 0
counted p (x ∷ xs) = cond (p x) (1 + counted p xs) (counted p xs)

counted_is : (p : Item → Bool) (line : List Item) → counted p line ≡ count_by p line
unfolding counted
counted_is p line = is_count_by (counted p) p refl (λ x xs. refl) line

parted_so : (line : List Item) → counted (λ x. not (is_blank x)) line + counted is_blank line ≡ length line
unfolding counted
parted_so [] = refl
parted_so (x ∷ xs) = by_blank (is_blank x) (parted_so xs)
  where
    by_blank : (b : Bool) → counted (λ y. not (is_blank y)) xs + counted is_blank xs ≡ length xs
        → cond (not b) (1 + counted (λ y. not (is_blank y)) xs) (counted (λ y. not (is_blank y)) xs) + cond b (1 + counted is_blank xs) (counted is_blank xs) ≡ suc (length xs)
    by_blank true q = omega (arith, q)
    by_blank false q = omega (arith, q)

-- those in progress and the others are all
pub parted : (line : List Item) → count_by (λ x. not (is_blank x)) line + count_by is_blank line ≡ length line
parted line = let all = parted_so line in let live = counted_is (λ x. not (is_blank x)) line in let blank = counted_is is_blank line in omega (arith, all, live, blank)

-- what is found passes the test, by its number
found_number : {A : Type 0} (number : A → ℕ) (test : A → Bool) (xs : List A) (x : A) → find test xs ≡ Some x → list_any (λ y. (number y == number x) && test y) xs ≡ true
found_number number test [] x e = absurd cc
found_number {A = A} number test (y ∷ ys) x e = by_test (test y) e (λ q. found_number number test ys x q)
  where
    passed : (b : Bool) → list_any (λ z. (number z == number x) && test z) ys ≡ true → (b || list_any (λ z. (number z == number x) && test z) ys) ≡ true
    passed true q = refl
    passed false q = q

    by_test : (b : Bool) → cond b (Some y) (find test ys) ≡ Some x → (find test ys ≡ Some x → list_any (λ z. (number z == number x) && test z) ys ≡ true)
        → (((number y == number x) && b) || list_any (λ z. (number z == number x) && test z) ys) ≡ true
    by_test true found rest = let same : y ≡ x = same_Some y x found in rw (same, same_name (number x)) refl
    by_test false found rest = passed ((number y == number x) && false) (rest found)

module _ (m : Machine) where
  -- what is in the way in a line that isn't empty
  pub in_way_true : (ep : ℕ) (e : Endpoint) → endpoint_at m ep ≡ Some e → (length e.line == 0) ≡ false → ObstacleIs m (in_way ep (first_in_progress e.line) (is_some e.errand))
  in_way_true ep e there line = by_first (first_in_progress e.line) refl (is_some e.errand) refl
    where
      by_first : (o : Option ℕ) → first_in_progress e.line ≡ o → (b : Bool) → is_some e.errand ≡ b → ObstacleIs m (in_way ep o b)
      by_first (Some n) is b q = record { endpoint = e; there = there; has = live_found n e.line is }
      by_first None is true q = record { endpoint = e; there = there; has = q }
      by_first None is false q = record { endpoint = e; there = there; has = blank_found e.line line is }

  -- what isn't quiet at an endpoint
  busy_true : (ep : ℕ) (e : Endpoint) → endpoint_at m ep ≡ Some e → is_quiet m ep (Some e) ≡ false → ObstacleIs m (busy_at m ep (Some e))
  busy_true ep e there busy = by_line (length e.line == 0) refl (is_some e.errand) refl busy
    where
      none_any : {A : Type 0} (test : A → Bool) (xs : List A) → find test xs ≡ None → list_any test xs ≡ false
      none_any test [] f = refl
      none_any {A = A} test (x ∷ xs) f = by_test (test x) f (λ p. none_any test xs p)
        where
          by_test : (b : Bool) → cond b (Some x) (find test xs) ≡ None → (find test xs ≡ None → list_any test xs ≡ false) → (b || list_any test xs) ≡ false
          by_test true p rest = absurd cc
          by_test false p rest = rest p

      by_callback : (o : Option InCallback) → find (is_callback_at ep) m.handle.in_callbacks ≡ o → list_any (is_callback_at ep) m.handle.in_callbacks ≡ true → ObstacleIs m (option_map_or (λ x. obstacle.Callback x.n ep) o obstacle.Numbers)
      by_callback (Some x) found any = found_number (λ y. y.n) (is_callback_at ep) m.handle.in_callbacks x found
      by_callback None found any = absurd (let none = none_any (is_callback_at ep) m.handle.in_callbacks found in cc)

      any_left : (b c : Bool) → (not b && not c) ≡ false → b ≡ false → c ≡ true
      any_left true c q none = absurd cc
      any_left false true q none = refl
      any_left false false q none = absurd cc

      by_result : (o : Option _) → find (is_result_at ep) m.results ≡ o → (not (list_any (is_result_at ep) m.results) && not (list_any (is_callback_at ep) m.handle.in_callbacks)) ≡ false
          → ObstacleIs m (option_map_or (λ x. obstacle.Result x.n ep) o (option_map_or (λ x. obstacle.Callback x.n ep) (find (is_callback_at ep) m.handle.in_callbacks) obstacle.Numbers))
      by_result (Some x) found left = found_number (λ y. y.n) (is_result_at ep) m.results x found
      by_result None found left = by_callback (find (is_callback_at ep) m.handle.in_callbacks) refl (any_left _ _ left (none_any (is_result_at ep) m.results found))

      none_is : (o : Option Errand) → is_some o ≡ false → is_none o ≡ true
      none_is None q = refl
      none_is (Some x) q = absurd cc

      by_line : (b : Bool) → (length e.line == 0) ≡ b → (c : Bool) → is_some e.errand ≡ c
          → (b && (is_none e.errand && (not (list_any (is_result_at ep) m.results) && not (list_any (is_callback_at ep) m.handle.in_callbacks)))) ≡ false
          → ObstacleIs m (if not b then in_way ep (first_in_progress e.line) (is_some e.errand) else if c then obstacle.Order ep
          else option_map_or (λ x. obstacle.Result x.n ep) (find (is_result_at ep) m.results) (option_map_or (λ x. obstacle.Callback x.n ep) (find (is_callback_at ep) m.handle.in_callbacks) obstacle.Numbers))
      by_line false line c q left = in_way_true ep e there line
      by_line true line true q left = record { endpoint = e; there = there; has = q }
      by_line true line false q left = by_result (find (is_result_at ep) m.results) refl (subst (λ (b : Bool). (b && (not (list_any (is_result_at ep) m.results) && not (list_any (is_callback_at ep) m.handle.in_callbacks))) ≡ false) (none_is e.errand q) left)

  -- what isn't quiet, where it isn't
  pub quiet_true : (setup : Setup) (test : EndpointInfo → Bool) → not (are_quiet setup m test) ≡ true → ObstacleIs m (quiet_facts setup m test).obstacle
  quiet_true setup test busy = by_found (find (is_unquiet m test) (endpoints_of setup (device_of m))) refl
    where
      passes : {A : Type 0} (test : A → Bool) (xs : List A) (x : A) → find test xs ≡ Some x → test x ≡ true
      passes test [] x f = absurd cc
      passes {A = A} test (y ∷ ys) x f = by_test (test y) refl f (λ q. passes test ys x q)
        where
          by_test : (b : Bool) → test y ≡ b → cond b (Some y) (find test ys) ≡ Some x → (find test ys ≡ Some x → test x ≡ true) → test x ≡ true
          by_test true q found rest = subst (λ z. test z ≡ true) (same_Some y x found) q
          by_test false q found rest = rest found

      second : (a b : Bool) → (a && not b) ≡ true → b ≡ false
      second true b q = not_true b q
      second false b q = absurd cc

      by_endpoint : (x : EndpointInfo) (o : Option Endpoint) → endpoint_at m x.address ≡ o → is_quiet m x.address o ≡ false → ObstacleIs m (busy_at m x.address o)
      by_endpoint x None e q = absurd cc
      by_endpoint x (Some y) e q = busy_true x.address y e q

      by_found : (o : Option EndpointInfo) → find (is_unquiet m test) (endpoints_of setup (device_of m)) ≡ o → ObstacleIs m (option_map_or (λ x. busy_at m x.address (endpoint_at m x.address)) o obstacle.Numbers)
      by_found None found = absurd (let all : are_quiet setup m test ≡ true = found_or_quiet m test (endpoints_of setup (device_of m)) None found in let some : are_quiet setup m test ≡ false = not_true (are_quiet setup m test) busy in cc)
      by_found (Some x) found = by_endpoint x (endpoint_at m x.address) refl (second (test x) (is_quiet m x.address (endpoint_at m x.address)) (passes (is_unquiet m test) (endpoints_of setup (device_of m)) x found))
