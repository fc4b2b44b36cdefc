-- The sentence of each call's refusal is true.
use Rattle.std.proofs.Common.{◌≡◌, ℕ, ◌+◌, ◌-◌, ◌==◌, ◌≤◌, ◌&&◌, ◌||◌, nat_le, nat_lt, not, ◌⊎◌, inl, inr, Bool, true, false, List, [], ◌∷◌, length, Option, Some, None, refl, subst, arith}
use Rattle.std.specs.Prelude.{◌≢◌, is_some, IfSome, if◌then◌else◌}
use Rattle.std.specs.List.{AllByRecursion, count_by, find}
use Rattle.std.specs.Option.{option_map, unwrap_or}
use Rattle.std.proofs.lemmas.Bool.{leb-true, ltb-true, ltb-false, eqb-true, eqb-false}
use Rattle.std.proofs.lemmas.Option.{same_Some}
use Rattle.usb_model.specs.declared.endpoint.Endpoint.{Endpoint}
use Rattle.usb_model.specs.declared.refusal.Missing.TheVariants as missing
use Rattle.usb_model.specs.declared.refusal.Misfit.TheVariants as misfit
use Rattle.usb_model.specs.declared.refusal.Refusal.{Refusal}
use Rattle.usb_model.specs.declared.refusal.Refusal.TheVariants.{NotFound, HeldElsewhere}
use Rattle.usb_model.specs.declared.request.Body.TheVariants.{Out}
use Rattle.usb_model.specs.declared.request.Kind.{Kind}
use Rattle.usb_model.specs.declared.request.Kind.TheVariants as kinds
use Rattle.usb_model.specs.declared.request.Request.{Request}
use Rattle.usb_model.specs.declared.result.InCallback.{InCallback}
use Rattle.usb_model.specs.declared.setup.EndpointInfo.{EndpointInfo}
use Rattle.usb_model.specs.declared.verdict.Verdict.{Verdict}
use Rattle.usb_model.specs.declared.verdict.Verdict.TheVariants.{Stop, Again, AgainWith}
use Rattle.usb_model.specs.Endpoint.{in_progress, is_blank}
use Rattle.usb_model.specs.Machine.{Machine, device_of, endpoint_at, is_result_at}
use Rattle.usb_model.specs.Machine.Calls.{Home, callback_of, caller_facts, endpoint_facts, home_by, home_in, home_of, quiet_facts}
use Rattle.usb_model.specs.Refusals.{absent, ask_tests, claim_tests, clear_tests, close_tests, direction_of, is_bad, misfit_of, open_tests, release_tests, request_facts, reset_tests, submit_tests, unclaimed, unheld}
use Rattle.usb_model.specs.Requests.{is_read, is_same_kind, is_unsupported, length_of}
use Rattle.usb_model.specs.Setup.{Setup, endpoints_of, has_interface, interface_of, interfaces_of, is_device, is_in, kind_of}
use Rattle.usb_model.specs.World.{Claims, is_others}
use Rattle.trace_explain.specs.Refusals.{answer_refusal, ask_refusal, ask_refusal_at, claim_refusal, clear_refusal, clear_refusal_at, close_refusal, first_elsewhere, held_elsewhere, open_refusal, release_refusal, reset_refusal, some_elsewhere, submit_refusal, submit_refusal_at, verdict_refusal}
use Rattle.trace_explain.specs.Truth.{HasOpen, IsFull, MisfitIs, MissingIs, Says, request_from}
use Rattle.trace_explain.proofs.Truths.{AllTrue, first_true, in_way_true, none_of, not_false, not_true, parted, quiet_true, some_of}

-- what of a call in this machine is told
module _ (setup : Setup) (h : ℕ) (m : Machine) (claims : Claims) where
  abbrev pub Told : Option Request → Refusal → Type 0
  Told request r = Says setup h m claims request r

  -- the device that it has open
  opened : not (is_some m.handle.device) ≡ false → HasOpen m (device_of m)
  opened e = some_of m.handle.device (not_false (is_some m.handle.device) e)

  pub open_true : (request : Option Request) (dev : ℕ) (r : Refusal) → open_refusal setup m dev ≡ Some r → Told request r
  unfolding open_refusal
  open_true request dev r e =
      first_true (Says setup h m claims request) (open_tests (caller_facts m) dev (is_device setup dev) (m.gone dev)) r
      (λ no. not_true (is_device setup dev) no, λ is. (λ gone. gone, λ there. (λ has. some_of m.handle.device has, λ other. tt))) e

  pub close_true : (request : Option Request) (r : Refusal) → close_refusal setup m ≡ Some r → Told request r
  unfolding close_refusal
  close_true request r e =
      first_true (Says setup h m claims request) (close_tests (caller_facts m) (quiet_facts setup m (λ x. true))) r
      (λ closed. none_of m.handle.device closed, λ has_open. (λ busy. quiet_true m setup (λ x. true) busy, λ other. tt)) e

  -- whoever else holds an interface
  elsewhere_true : (request : Option Request) (i : ℕ) → HasOpen m (device_of m) → (o : Option ℕ) → claims (device_of m) i ≡ o → is_others h o ≡ true → Says setup h m claims request (HeldElsewhere (unwrap_or o 0) i)
  elsewhere_true request i has_open None e others = absurd cc
  elsewhere_true request i has_open (Some g) e others = (device_of m, has_open, e, eqb-false g h (not_true (g == h) others))

  pub claim_true : (request : Option Request) (i : ℕ) (r : Refusal) → claim_refusal setup h m claims i ≡ Some r → Told request r
  unfolding claim_refusal
  claim_true request i r e =
      first_true (Says setup h m claims request) (claim_tests (caller_facts m) i (has_interface setup (device_of m) i) (held_elsewhere h i (claims (device_of m) i))) r (
        λ closed. none_of m.handle.device closed,
        λ has_open. (
          λ gone. gone,
          λ there. (
            λ no. (opened has_open, not_true (has_interface setup (device_of m) i) no),
            λ has.
                (λ others. elsewhere_true request i (opened has_open) (claims (device_of m) i) refl others, λ other. tt),
          ),
        ),
      ) e

  -- an interface that it doesn't hold
  unheld_true : (i : ℕ) (o : Option ℕ) → m.handle.device ≡ o → not (is_some o && m.held (unwrap_or o 0) i) ≡ true → MissingIs setup m (unheld o i (has_interface setup (unwrap_or o 0) i))
  unheld_true i None e free = e
  unheld_true i (Some dev) e free = by_interface (has_interface setup dev i) refl
    where
      by_interface : (b : Bool) → has_interface setup dev i ≡ b → MissingIs setup m (unheld (Some dev) i b)
      by_interface true q = (dev, e, q, not_true (m.held dev i) free)
      by_interface false q = (e, q)

  pub release_true : (request : Option Request) (i : ℕ) (r : Refusal) → release_refusal setup m i ≡ Some r → Told request r
  unfolding release_refusal
  release_true request i r e =
      first_true (Says setup h m claims request) (release_tests (caller_facts m) i (has_interface setup (device_of m) i) (m.held (device_of m) i) (quiet_facts setup m (λ x. x.interface == i))) r
      (λ free. unheld_true i m.handle.device refl free, λ held. (λ busy. quiet_true m setup (λ x. x.interface == i) busy, λ other. tt)) e

  pub reset_true : (request : Option Request) (r : Refusal) → reset_refusal setup h m claims ≡ Some r → Told request r
  unfolding reset_refusal
  reset_true request r e =
      first_true (Says setup h m claims request) (reset_tests (caller_facts m) (quiet_facts setup m (λ x. true)) (first_elsewhere h (λ i. claims (device_of m) i) (interfaces_of setup (device_of m)))) r (
        λ closed. none_of m.handle.device closed,
        λ has_open. (
          λ gone. gone,
          λ there. (
            λ busy. quiet_true m setup (λ x. true) busy,
            λ quiet.
                by_found (opened has_open) (find (λ i. is_others h (claims (device_of m) i)) (interfaces_of setup (device_of m))),
          ),
        ),
      ) e
    where
      by_found : HasOpen m (device_of m) → (o : Option ℕ) → AllTrue (Says setup h m claims request) (some_elsewhere h (λ i. claims (device_of m) i) o)
      by_found has_open None = tt
      by_found has_open (Some i) = (λ others. elsewhere_true request i has_open (claims (device_of m) i) refl others, λ other. tt)

  -- an endpoint that it doesn't have
  absent_true : (ep : ℕ) → endpoint_at m ep ≡ None → (o : Option ℕ) → m.handle.device ≡ o → MissingIs setup m (absent o ep (interface_of setup (unwrap_or o 0) ep))
  absent_true ep none None e = e
  absent_true ep none (Some dev) e = by_interface (interface_of setup dev ep) refl
    where
      by_interface : (k : Option ℕ) → interface_of setup dev ep ≡ k → MissingIs setup m (unclaimed dev ep k)
      by_interface None q = (e, q)
      by_interface (Some i) q = (dev, e, q, none)

  pub clear_true : (request : Option Request) (ep : ℕ) (r : Refusal) → clear_refusal setup m ep ≡ Some r → Told request r
  unfolding clear_refusal
  clear_true request ep r e = by_endpoint (endpoint_at m ep) refl e
    where
      by_endpoint : (o : Option Endpoint) → endpoint_at m ep ≡ o → clear_refusal_at setup m ep o ≡ Some r → Says setup h m claims request r
      by_endpoint None none q = subst (Says setup h m claims request) (same_Some _ r q) (absent_true ep none m.handle.device refl)
      by_endpoint (Some x) there q =
          first_true (Says setup h m claims request) (clear_tests (caller_facts m) (endpoint_facts ep (kind_of setup (device_of m) ep) m x)) r
          (λ gone. gone, λ is. (λ line. in_way_true m ep x there (not_true (length x.line == 0) line), λ other. tt)) q

  -- an endpoint of a kind whose transfers aren't submitted
  unsupported : (kind : Kind) → is_unsupported kind ≡ true → (kind ≡ kinds.Control) ⊎ (kind ≡ kinds.Isochronous)
  unsupported kinds.Control e = inl refl
  unsupported kinds.Isochronous e = inr refl
  unsupported kinds.Bulk e = absurd cc
  unsupported kinds.Interrupt e = absurd cc

  -- a request that is wrong for its endpoint
  misfit_true : (x : Request) (e : Endpoint) → (not (is_same_kind x.kind (kind_of setup (device_of m) x.ep)) || is_bad x.ep (is_read x.body) (length_of x.body)) ≡ true
      → MisfitIs setup m x (misfit_of (endpoint_facts x.ep (kind_of setup (device_of m) x.ep) m e) (request_facts x))
  misfit_true x e bad = by_kind (is_same_kind x.kind (kind_of setup (device_of m) x.ep)) refl bad
    where
      by_bytes : (n : ℕ) → length_of x.body ≡ n → nat_lt 262144 n ≡ true → MisfitIs setup m x (misfit.Bytes n)
      by_bytes n is over = (is, ltb-true 262144 n over)

      by_direction : (reads into : Bool) → is_read x.body ≡ reads → is_in x.ep ≡ into → is_bad x.ep reads (length_of x.body) ≡ true → MisfitIs setup m x (direction_of x.ep reads (length_of x.body))
      by_direction true true r i q = rw i (by_bytes (length_of x.body) refl (subst (λ b. (not b || nat_lt 262144 (length_of x.body)) ≡ true) i q))
      by_direction true false r i q = rw i (refl, i, r)
      by_direction false true r i q = rw i (refl, i, r)
      by_direction false false r i q = rw i (by_bytes (length_of x.body) refl (subst (λ b. (b || nat_lt 262144 (length_of x.body)) ≡ true) i q))

      by_kind : (b : Bool) → is_same_kind x.kind (kind_of setup (device_of m) x.ep) ≡ b → (not b || is_bad x.ep (is_read x.body) (length_of x.body)) ≡ true
          → MisfitIs setup m x (if b then direction_of x.ep (is_read x.body) (length_of x.body) else misfit.Kind x.ep (kind_of setup (device_of m) x.ep) x.kind)
      by_kind true q w = by_direction (is_read x.body) (is_in x.ep) refl refl w
      by_kind false q w = (refl, refl, refl, q)

  -- all places are in use
  full_true : (ep : ℕ) (e : Endpoint) → nat_le 16 (length e.line + count_by (is_result_at ep) m.results) ≡ true
      → IsFull m ep (count_by (λ x. not (is_blank x)) e.line) (length e.line - count_by (λ x. not (is_blank x)) e.line) (count_by (is_result_at ep) m.results) e
  full_true ep e full =
      let parts : count_by (λ x. not (is_blank x)) e.line + count_by is_blank e.line ≡ length e.line = parted e.line in
      let enough : 16 ≤ length e.line + count_by (is_result_at ep) m.results = leb-true 16 (length e.line + count_by (is_result_at ep) m.results) full in
      record { waits = refl; withdrawn = omega (arith, parts); results = refl; all = omega (arith, parts, enough) }

  pub submit_true : (x : Request) (r : Refusal) → submit_refusal setup m x.ep (request_facts x) ≡ Some r → Told (Some x) r
  unfolding submit_refusal
  submit_true x r e = by_endpoint (endpoint_at m x.ep) refl e
    where
      by_endpoint : (o : Option Endpoint) → endpoint_at m x.ep ≡ o → submit_refusal_at setup m x.ep (request_facts x) o ≡ Some r → Says setup h m claims (Some x) r
      by_endpoint None none q = subst (Says setup h m claims (Some x)) (same_Some _ r q) (absent_true x.ep none m.handle.device refl)
      by_endpoint (Some y) there q =
          first_true (Says setup h m claims (Some x)) (submit_tests (caller_facts m) (endpoint_facts x.ep (kind_of setup (device_of m) x.ep) m y) (request_facts x) m.handle.next_number) r (
            λ gone. gone,
            λ is. (
              λ kind. (refl, unsupported (kind_of setup (device_of m) x.ep) kind),
              λ supported. (
                λ bad. (x, refl, misfit_true x y bad),
                λ fits.
                    (λ full. record { endpoint = y; there = there; has = full_true x.ep y full }, λ room. (λ last. eqb-true m.handle.next_number _ last, λ other. tt)),
              ),
            ),
          ) q

  -- where a transfer is in progress
  home_is : (n : ℕ) (infos : List EndpointInfo) (home : Home) → home_of m n infos ≡ Some home → (endpoint_at m home.ep ≡ Some home.endpoint) × (in_progress n home.endpoint.line ≡ Some home.item)
  unfolding home_of
  home_is n [] home e = absurd cc
  home_is n (x ∷ infos) home e = by_endpoint (λ q. home_is n infos home q) (endpoint_at m x.address) refl e
    where
      by_item : (home_of m n infos ≡ Some home → (endpoint_at m home.ep ≡ Some home.endpoint) × (in_progress n home.endpoint.line ≡ Some home.item)) → (y : Endpoint) → endpoint_at m x.address ≡ Some y → (o : Option _) → in_progress n y.line ≡ o → home_by x.address y (home_of m n infos) o ≡ Some home
          → (endpoint_at m home.ep ≡ Some home.endpoint) × (in_progress n home.endpoint.line ≡ Some home.item)
      by_item rest y there None none q = rest q
      by_item rest y there (Some item) some q = subst (λ (k : Home). (endpoint_at m k.ep ≡ Some k.endpoint) × (in_progress n k.endpoint.line ≡ Some k.item)) (same_Some _ home q) (there, some)

      by_endpoint : (home_of m n infos ≡ Some home → (endpoint_at m home.ep ≡ Some home.endpoint) × (in_progress n home.endpoint.line ≡ Some home.item)) → (o : Option Endpoint) → endpoint_at m x.address ≡ o → home_in n x.address o (home_of m n infos) ≡ Some home
          → (endpoint_at m home.ep ≡ Some home.endpoint) × (in_progress n home.endpoint.line ≡ Some home.item)
      by_endpoint rest None there q = rest q
      by_endpoint rest (Some y) there q = by_item rest y there (in_progress n y.line) refl q

  -- and where it is at none
  nowhere : (n : ℕ) (infos : List EndpointInfo) → home_of m n infos ≡ None → AllByRecursion (λ x. IfSome (endpoint_at m x.address) (λ e. in_progress n e.line ≡ None)) infos
  unfolding home_of
  nowhere n [] e = tt
  nowhere n (x ∷ infos) e = by_endpoint (λ q. nowhere n infos q) (endpoint_at m x.address) e
    where
      by_item : (home_of m n infos ≡ None → AllByRecursion (λ z. IfSome (endpoint_at m z.address) (λ e. in_progress n e.line ≡ None)) infos) → (y : Endpoint) (o : Option _) → in_progress n y.line ≡ o → home_by x.address y (home_of m n infos) o ≡ None
          → (in_progress n y.line ≡ None) × AllByRecursion (λ z. IfSome (endpoint_at m z.address) (λ e. in_progress n e.line ≡ None)) infos
      by_item rest y None none q = (none, rest q)
      by_item rest y (Some item) some q = absurd cc

      by_endpoint : (home_of m n infos ≡ None → AllByRecursion (λ z. IfSome (endpoint_at m z.address) (λ e. in_progress n e.line ≡ None)) infos) → (o : Option Endpoint) → home_in n x.address o (home_of m n infos) ≡ None
          → IfSome o (λ y. in_progress n y.line ≡ None) × AllByRecursion (λ z. IfSome (endpoint_at m z.address) (λ e. in_progress n e.line ≡ None)) infos
      by_endpoint rest None q = (tt, rest q)
      by_endpoint rest (Some y) q = by_item rest y (in_progress n y.line) refl q

  pub ask_true : (request : Option Request) (n : ℕ) (timed : Bool) (r : Refusal) → ask_refusal setup m n timed ≡ Some r → Told request r
  unfolding ask_refusal
  ask_true request n timed r e = by_home (home_of m n (endpoints_of setup (device_of m))) refl e
    where
      by_number : home_of m n (endpoints_of setup (device_of m)) ≡ None → (b : Bool) → nat_lt n m.handle.next_number ≡ b → Says setup h m claims request (if b then NotFound (missing.Progress n) else NotFound (missing.Number n))
      by_number none true q = (ltb-true n m.handle.next_number q, nowhere n (endpoints_of setup (device_of m)) none)
      by_number none false q = ltb-false n m.handle.next_number q

      by_ask : (home : Home) → home_of m n (endpoints_of setup (device_of m)) ≡ Some home → (b : Bool) → is_some home.item.ask ≡ b → (b || (timed && (home.item.request.timeout == 0))) ≡ true
          → Says setup h m claims request (NotFound (if b then missing.Ask n else missing.Timeout n))
      by_ask home there true asked q = let is = home_is n (endpoints_of setup (device_of m)) home there in record { ep = home.ep; endpoint = home.endpoint; item = home.item; there = is.0; waits = is.1; has = asked }
      by_ask home there false asked q =
          let is = home_is n (endpoints_of setup (device_of m)) home there in
          record { ep = home.ep; endpoint = home.endpoint; item = home.item; there = is.0; waits = is.1; has = eqb-true home.item.request.timeout 0 (second timed (home.item.request.timeout == 0) q) }
        where
          second : (b c : Bool) → (b && c) ≡ true → c ≡ true
          second true c q = q
          second false c q = absurd cc

      by_home : (o : Option Home) → home_of m n (endpoints_of setup (device_of m)) ≡ o → ask_refusal_at m n timed (option_map (λ home. home.item) o) ≡ Some r → Says setup h m claims request r
      by_home None none q = subst (Says setup h m claims request) (same_Some _ r q) (by_number none (nat_lt n m.handle.next_number) refl)
      by_home (Some home) there q =
          first_true (Says setup h m claims request) (ask_tests n (is_some home.item.ask) timed home.item.request.timeout) r
          (λ bad. by_ask home there (is_some home.item.ask) refl bad, λ other. tt) q

  -- a callback that it isn't in
  no_callback_true : (n : ℕ) (xs : List InCallback) → callback_of n xs ≡ None → AllByRecursion (λ x. x.n ≢ n) xs
  unfolding callback_of
  no_callback_true n [] e = tt
  no_callback_true n (x ∷ xs) e = by_number (λ f. no_callback_true n xs f) (x.n == n) refl e
    where
      by_number : (callback_of n xs ≡ None → AllByRecursion (λ y. y.n ≢ n) xs) → (b : Bool) → (x.n == n) ≡ b → (if b then Some x else callback_of n xs) ≡ None → (x.n ≢ n) × AllByRecursion (λ y. y.n ≢ n) xs
      by_number rest true q f = absurd cc
      by_number rest false q f = (eqb-false x.n n q, rest f)

  pub answer_true : (n : ℕ) (verdict : Verdict) (r : Refusal) → answer_refusal setup m n verdict ≡ Some r → Told (request_from verdict (callback_of n m.handle.in_callbacks)) r
  unfolding answer_refusal
  answer_true n verdict r e = by_callback verdict (callback_of n m.handle.in_callbacks) refl e
    where
      by_callback : (v : Verdict) (o : Option InCallback) → callback_of n m.handle.in_callbacks ≡ o → verdict_refusal setup m n v o ≡ Some r → Says setup h m claims (request_from v o) r
      by_callback v None none q = subst (Says setup h m claims None) (same_Some _ r q) (no_callback_true n m.handle.in_callbacks none)
      by_callback Stop (Some x) there q = absurd cc
      by_callback Again (Some x) there q = submit_true x.request r q
      by_callback (AgainWith bytes) (Some x) there q = submit_true (record x.request { body = Out bytes }) r q
