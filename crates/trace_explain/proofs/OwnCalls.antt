-- What a refusal names is the step's own, call by call.
use Rattle.std.proofs.Common.{◌≡◌, ℕ, ◌==◌, ◌&&◌, ◌||◌, not, Bool, true, false, List, [], ◌∷◌, length, Option, Some, None, refl, subst, cond, nat_lt, ◌∙◌}
use Rattle.std.specs.Prelude.{is_some, if◌then◌else◌}
use Rattle.std.specs.List.{find, list_any}
use Rattle.std.specs.Option.{option_and_then, option_map, option_map_or, unwrap_or}
use Rattle.std.proofs.lemmas.Option.{same_Some}
use Rattle.usb_model.specs.declared.endpoint.Endpoint.{Endpoint}
use Rattle.usb_model.specs.declared.item.Item.{Item}
use Rattle.usb_model.specs.declared.refusal.Missing.TheVariants as missing
use Rattle.usb_model.specs.declared.refusal.Obstacle.TheVariants as obstacle
use Rattle.usb_model.specs.declared.refusal.Refusal.{Refusal}
use Rattle.usb_model.specs.declared.refusal.Refusal.TheVariants.{NotFound}
use Rattle.usb_model.specs.declared.request.Body.TheVariants.{Out}
use Rattle.usb_model.specs.declared.request.Request.{Request}
use Rattle.usb_model.specs.declared.result.InCallback.{InCallback}
use Rattle.usb_model.specs.declared.result.TransferResult.{TransferResult}
use Rattle.usb_model.specs.declared.setup.EndpointInfo.{EndpointInfo}
use Rattle.usb_model.specs.declared.step.Step.{Step}
use Rattle.usb_model.specs.declared.step.Step.TheVariants.{Open, Close, Claim, Release, Reset, ClearHalt, Submit, Cancel, Expire, Answer}
use Rattle.usb_model.specs.declared.verdict.Verdict.{Verdict}
use Rattle.usb_model.specs.declared.verdict.Verdict.TheVariants.{Stop, Again, AgainWith}
use Rattle.usb_model.specs.Machine.{Machine, device_of, endpoint_at, is_callback_at, is_quiet, is_result_at}
use Rattle.usb_model.specs.Machine.Calls.{Home, busy_at, callback_of, caller_facts, endpoint_facts, first_in_progress, home_of, quiet_facts}
use Rattle.usb_model.specs.Refusals.{absent, ask_tests, claim_tests, clear_tests, close_tests, in_way, open_tests, release_tests, request_facts, reset_tests, submit_tests, unclaimed, unheld}
use Rattle.usb_model.specs.Setup.{Setup, endpoints_of, has_interface, interface_of, interfaces_of, is_device, kind_of}
use Rattle.usb_model.specs.World.{Claims, is_others}
use Rattle.proof_model.proofs.Lists.Pieces.{same_name}
use Rattle.trace_explain.specs.Own.{IsMeant, IsMissed, IsOwn, IsPlace, device_named, endpoint_named, is_meant, number_named, place_of}
use Rattle.trace_explain.specs.Refusals.{answer_refusal, ask_refusal, ask_refusal_at, claim_refusal, clear_refusal, clear_refusal_at, close_refusal, first_elsewhere, held_elsewhere, open_refusal, release_refusal, reset_refusal, some_elsewhere, submit_refusal, submit_refusal_at, verdict_refusal}
use Rattle.trace_explain.specs.Truth.{request_from}
use Rattle.trace_explain.proofs.Truths.{AllTrue, first_true, not_false, some_of}

-- what is found passes the test, and is in the list
found_there : (test : EndpointInfo → Bool) (more : EndpointInfo → Bool) (xs : List EndpointInfo) (x : EndpointInfo) → find (λ y. test y && more y) xs ≡ Some x
    → list_any (λ y. (y.address == x.address) && test y) xs ≡ true
found_there test more [] x e = absurd cc
found_there test more (y ∷ ys) x e = by_test (test y) refl (more y) e (λ q. found_there test more ys x q)
  where
    passed : (b : Bool) → list_any (λ z. (z.address == x.address) && test z) ys ≡ true → (b || list_any (λ z. (z.address == x.address) && test z) ys) ≡ true
    passed true q = refl
    passed false q = q

    by_test : (b : Bool) → test y ≡ b → (c : Bool) → cond (b && c) (Some y) (find (λ z. test z && more z) ys) ≡ Some x
        → (find (λ z. test z && more z) ys ≡ Some x → list_any (λ z. (z.address == x.address) && test z) ys ≡ true)
        → (((y.address == x.address) && test y) || list_any (λ z. (z.address == x.address) && test z) ys) ≡ true
    by_test true q true found rest = let same : y ≡ x = same_Some y x found in rw (same, same_name x.address) (subst (λ z. (test z || list_any (λ v. (v.address == x.address) && test v) ys) ≡ true) same (rw q refl))
    by_test true q false found rest = passed ((y.address == x.address) && test y) (rest found)
    by_test false q c found rest = passed ((y.address == x.address) && test y) (rest found)

module _ (setup : Setup) (h : ℕ) (m : Machine) where
  -- the device that it has open
  opened : not (is_some m.handle.device) ≡ false → m.handle.device ≡ Some (device_of m)
  opened e = some_of m.handle.device (not_false (is_some m.handle.device) e)

  -- where it has an endpoint, it has a device open
  open_there : (ep : ℕ) (x : Endpoint) → endpoint_at m ep ≡ Some x → m.handle.device ≡ Some (device_of m)
  open_there ep x there = by_device m.handle.device refl there
    where
      by_device : (o : Option ℕ) → m.handle.device ≡ o → option_and_then (λ d. m.endpoints d ep) o ≡ Some x → m.handle.device ≡ Some (unwrap_or m.handle.device 0)
      by_device None is e = absurd cc
      by_device (Some dev) is e = rw is refl

  -- what isn't quiet at an endpoint is there
  busy_place : (P : Option ℕ → Type 0) (ep : ℕ) (o : Option Endpoint) → P (Some ep) → P None → P (place_of (busy_at m ep o))
  busy_place P ep None there none = none
  busy_place P ep (Some e) there none = by_line (not (length e.line == 0)) (first_in_progress e.line) (is_some e.errand) (find (is_result_at ep) m.results) (find (is_callback_at ep) m.handle.in_callbacks)
    where
      by_line : (b : Bool) (n : Option ℕ) (c : Bool) (x : Option TransferResult) (y : Option InCallback)
          → P (place_of (if b then in_way ep n c else if c then obstacle.Order ep else option_map_or (λ z. obstacle.Result z.n ep) x (option_map_or (λ z. obstacle.Callback z.n ep) y obstacle.Numbers)))
      by_line true (Some n) c x y = there
      by_line true None true x y = there
      by_line true None false x y = there
      by_line false n true x y = there
      by_line false n false (Some x) y = there
      by_line false n false None (Some y) = there
      by_line false n false None None = none

  -- what isn't quiet where a step wants quiet is at an endpoint that it means
  quiet_place : (step : Step) (P : Option ℕ → Type 0) → ((ep : ℕ) → IsMeant setup m step ep → P (Some ep)) → P None → P (place_of (quiet_facts setup m (is_meant step)).obstacle)
  quiet_place step P there none = by_found (find (λ x. is_meant step x && not (is_quiet m x.address (endpoint_at m x.address))) (endpoints_of setup (device_of m))) refl
    where
      by_found : (o : Option EndpointInfo) → find (λ x. is_meant step x && not (is_quiet m x.address (endpoint_at m x.address))) (endpoints_of setup (device_of m)) ≡ o
          → P (place_of (option_map_or (λ x. busy_at m x.address (endpoint_at m x.address)) o obstacle.Numbers))
      by_found None found = none
      by_found (Some x) found =
          busy_place P x.address (endpoint_at m x.address)
          (there x.address (found_there (is_meant step) (λ y. not (is_quiet m y.address (endpoint_at m y.address))) (endpoints_of setup (device_of m)) x found)) none

  pub open_own : (dev : ℕ) (r : Refusal) → open_refusal setup m dev ≡ Some r → IsOwn setup m (Open h dev) None r
  unfolding open_refusal
  open_own dev r e =
      first_true (IsOwn setup m (Open h dev) None) (open_tests (caller_facts m) dev (is_device setup dev) (m.gone dev)) r
      (λ no. refl, λ is. (λ gone. refl, λ there. (λ has. tt, λ other. tt))) e

  pub close_own : (r : Refusal) → close_refusal setup m ≡ Some r → IsOwn setup m (Close h) None r
  unfolding close_refusal
  close_own r e =
      first_true (IsOwn setup m (Close h) None) (close_tests (caller_facts m) (quiet_facts setup m (λ x. true))) r
      (λ closed. tt, λ has_open. (λ busy. quiet_place (Close h) (IsPlace setup m (Close h) None) (λ ep is. is) tt, λ other. tt)) e

  pub claim_own : (claims : Claims) (i : ℕ) (r : Refusal) → claim_refusal setup h m claims i ≡ Some r → IsOwn setup m (Claim h i) None r
  unfolding claim_refusal
  claim_own claims i r e =
      first_true (IsOwn setup m (Claim h i) None) (claim_tests (caller_facts m) i (has_interface setup (device_of m) i) (held_elsewhere h i (claims (device_of m) i))) r
      (λ closed. tt, λ has_open. (λ gone. opened has_open, λ there. (λ no. refl, λ has. (λ others. refl, λ other. tt)))) e

  pub release_own : (i : ℕ) (r : Refusal) → release_refusal setup m i ≡ Some r → IsOwn setup m (Release h i) None r
  unfolding release_refusal
  release_own i r e =
      first_true (IsOwn setup m (Release h i) None) (release_tests (caller_facts m) i (has_interface setup (device_of m) i) (m.held (device_of m) i) (quiet_facts setup m (λ x. x.interface == i))) r
      (λ free. by_device m.handle.device, λ held. (λ busy. quiet_place (Release h i) (IsPlace setup m (Release h i) None) (λ ep is. is) tt, λ other. tt)) e
    where
      by_device : (o : Option ℕ) → IsMissed m (Release h i) None (unheld o i (has_interface setup (unwrap_or o 0) i))
      by_device None = tt
      by_device (Some dev) = by_interface (has_interface setup dev i)
        where
          by_interface : (b : Bool) → IsMissed m (Release h i) None (unheld (Some dev) i b)
          by_interface true = refl
          by_interface false = refl

  pub reset_own : (claims : Claims) (r : Refusal) → reset_refusal setup h m claims ≡ Some r → IsOwn setup m (Reset h) None r
  unfolding reset_refusal
  reset_own claims r e =
      first_true (IsOwn setup m (Reset h) None) (reset_tests (caller_facts m) (quiet_facts setup m (λ x. true)) (first_elsewhere h (λ i. claims (device_of m) i) (interfaces_of setup (device_of m)))) r (
        λ closed. tt,
        λ has_open. (
          λ gone. opened has_open,
          λ there. (
            λ busy. quiet_place (Reset h) (IsPlace setup m (Reset h) None) (λ ep is. is) tt,
            λ quiet. by_found (find (λ i. is_others h (claims (device_of m) i)) (interfaces_of setup (device_of m))),
          ),
        ),
      ) e
    where
      by_found : (o : Option ℕ) → AllTrue (IsOwn setup m (Reset h) None) (some_elsewhere h (λ i. claims (device_of m) i) o)
      by_found None = tt
      by_found (Some i) = (λ others. tt, λ other. tt)

  -- an endpoint that it doesn't have
  absent_own : (step : Step) (request : Option Request) (ep : ℕ) → endpoint_named step request ≡ Some ep → (o : Option ℕ) → IsMissed m step request (absent o ep (interface_of setup (unwrap_or o 0) ep))
  absent_own step request ep named None = tt
  absent_own step request ep named (Some dev) = by_interface (interface_of setup dev ep)
    where
      by_interface : (k : Option ℕ) → IsMissed m step request (unclaimed dev ep k)
      by_interface None = named
      by_interface (Some i) = named

  pub clear_own : (ep : ℕ) (r : Refusal) → clear_refusal setup m ep ≡ Some r → IsOwn setup m (ClearHalt h ep) None r
  unfolding clear_refusal
  clear_own ep r e = by_endpoint (endpoint_at m ep) refl e
    where
      by_way : (n : Option ℕ) (b : Bool) → IsPlace setup m (ClearHalt h ep) None (place_of (in_way ep n b))
      by_way (Some n) b = refl
      by_way None true = refl
      by_way None false = refl

      by_endpoint : (o : Option Endpoint) → endpoint_at m ep ≡ o → clear_refusal_at setup m ep o ≡ Some r → IsOwn setup m (ClearHalt h ep) None r
      by_endpoint None none q = subst (IsOwn setup m (ClearHalt h ep) None) (same_Some _ r q) (absent_own (ClearHalt h ep) None ep refl m.handle.device)
      by_endpoint (Some x) there q =
          first_true (IsOwn setup m (ClearHalt h ep) None) (clear_tests (caller_facts m) (endpoint_facts ep (kind_of setup (device_of m) ep) m x)) r
          (λ gone. open_there ep x there, λ is. (λ line. by_way (first_in_progress x.line) (is_some x.errand), λ other. tt)) q

  -- a step that submits a request
  abbrev IsSubmission : Step → Request → Type 0
  IsSubmission step x = (endpoint_named step (Some x) ≡ Some x.ep) × (device_named m step ≡ m.handle.device) × IsPlace setup m step (Some x) (Some x.ep)

  own_of : (step : Step) (x : Request) → IsSubmission step x → (r : Refusal) → submit_refusal setup m x.ep (request_facts x) ≡ Some r → IsOwn setup m step (Some x) r
  unfolding submit_refusal
  own_of step x is r e = by_endpoint (endpoint_at m x.ep) refl e
    where
      by_endpoint : (o : Option Endpoint) → endpoint_at m x.ep ≡ o → submit_refusal_at setup m x.ep (request_facts x) o ≡ Some r → IsOwn setup m step (Some x) r
      by_endpoint None none q = subst (IsOwn setup m step (Some x)) (same_Some _ r q) (absent_own step (Some x) x.ep is.0 m.handle.device)
      by_endpoint (Some y) there q =
          first_true (IsOwn setup m step (Some x)) (submit_tests (caller_facts m) (endpoint_facts x.ep (kind_of setup (device_of m) x.ep) m y) (request_facts x) m.handle.next_number) r (
            λ gone. is.1 ∙ open_there x.ep y there,
            λ here. (λ kind. is.0, λ supported. (λ bad. tt, λ fits. (λ full. is.2, λ room. (λ last. tt, λ other. tt)))),
          ) q

  pub submit_own : (x : Request) (r : Refusal) → submit_refusal setup m x.ep (request_facts x) ≡ Some r → IsOwn setup m (Submit h x) (Some x) r
  submit_own x r e = own_of (Submit h x) x (refl, refl, refl) r e

  -- a transfer that is asked to end
  ask_own : (step : Step) (n : ℕ) → number_named step ≡ Some n → (timed : Bool) (r : Refusal) → ask_refusal setup m n timed ≡ Some r → IsOwn setup m step None r
  unfolding ask_refusal
  ask_own step n named timed r e = by_item (option_map (λ (home : Home). home.item) (home_of m n (endpoints_of setup (device_of m)))) e
    where
      by_number : (b : Bool) → IsOwn setup m step None (if b then NotFound (missing.Progress n) else NotFound (missing.Number n))
      by_number true = named
      by_number false = named

      by_ask : (b : Bool) → IsOwn setup m step None (NotFound (if b then missing.Ask n else missing.Timeout n))
      by_ask true = named
      by_ask false = named

      by_item : (o : Option Item) → ask_refusal_at m n timed o ≡ Some r → IsOwn setup m step None r
      by_item None q = subst (IsOwn setup m step None) (same_Some _ r q) (by_number (nat_lt n m.handle.next_number))
      by_item (Some x) q = first_true (IsOwn setup m step None) (ask_tests n (is_some x.ask) timed x.request.timeout) r (λ bad. by_ask (is_some x.ask), λ other. tt) q

  pub cancel_own : (n : ℕ) (r : Refusal) → ask_refusal setup m n false ≡ Some r → IsOwn setup m (Cancel h n) None r
  cancel_own n r e = ask_own (Cancel h n) n refl false r e

  pub expire_own : (n : ℕ) (r : Refusal) → ask_refusal setup m n true ≡ Some r → IsOwn setup m (Expire h n) None r
  expire_own n r e = ask_own (Expire h n) n refl true r e

  pub answer_own : (n : ℕ) (verdict : Verdict) (r : Refusal) → answer_refusal setup m n verdict ≡ Some r → IsOwn setup m (Answer h n verdict) (request_from verdict (callback_of n m.handle.in_callbacks)) r
  unfolding answer_refusal
  answer_own n verdict r e = by_callback verdict (callback_of n m.handle.in_callbacks) e
    where
      submits : (x : Request) → IsSubmission (Answer h n verdict) x
      submits x = (refl, refl, refl)

      by_callback : (v : Verdict) (o : Option InCallback) → verdict_refusal setup m n v o ≡ Some r → IsOwn setup m (Answer h n verdict) (request_from v o) r
      by_callback v None q = subst (IsOwn setup m (Answer h n verdict) None) (same_Some _ r q) refl
      by_callback Stop (Some x) q = absurd cc
      by_callback Again (Some x) q = own_of (Answer h n verdict) x.request (submits x.request) r q
      by_callback (AgainWith bytes) (Some x) q = own_of (Answer h n verdict) (record x.request { body = Out bytes }) (submits (record x.request { body = Out bytes })) r q
