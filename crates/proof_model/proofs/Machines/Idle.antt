-- Nothing waits for an endpoint that is quiet.
use Rattle.std.proofs.Common.{Bool, List, None, Option, Some, [], ap, false, length, not, option_map, refl, subst, sym, true, ℕ, ◌++◌, ◌==◌, ◌||◌, ◌∙◌, ◌∷◌, ◌≡◌}
use Rattle.std.specs.Prelude.{if◌then◌else◌, is_none, is_some, option_and_then, unwrap_or}
use Rattle.std.proofs.lemmas.Bool.{and_parts, eqb-true, not-true}
use Rattle.std.specs.List.{find, list_all, list_any}
use Rattle.usb_model.specs.declared.errand.Errand.{Errand}
use Rattle.usb_model.specs.declared.endpoint.Endpoint.{Endpoint}
use Rattle.usb_model.specs.declared.endpoint.EndpointState.{EndpointState}
use Rattle.usb_model.specs.declared.item.Item.{Item}
use Rattle.usb_model.specs.declared.news.Event.{Event}
use Rattle.usb_model.specs.declared.setup.EndpointInfo.{EndpointInfo}
use Rattle.usb_model.specs.Machine.{Machine, are_quiet, device_of, endpoint_at, is_callback_at, is_quiet, is_result_at}
use Rattle.usb_model.specs.Setup.{Setup, endpoints_of, info_of}
use Rattle.usb_model.specs.Fitness.{errands_of, events_of, Fits, IsFit, IsWell}
use Rattle.usb_model.specs.Coherence.{IsCoherent, IsPhase, served_events}
use Rattle.proof_model.proofs.Machines.Deeds.{IsIdle, IsUnused, line_at}
use Rattle.proof_model.proofs.Work.Phases.{free}

-- nothing waits for an endpoint with an empty line and no errand
nothing_waits : (s : EndpointState) (er : Option Errand) (os : List Errand) (ns es tail : List Event) → IsPhase s er os es tail → er ≡ None → ns ≡ es ++ tail → es ≡ [] → (os ≡ []) × (ns ≡ [])
nothing_waits s er os ns es tail phase idle told none = let f = free s er os es tail idle phase in (f.0, told ∙ (ap (λ l. l ++ tail) none ∙ f.1))

-- an endpoint whose line is empty and that has no errand is idle
idle_if : (ep : ℕ) (m : Machine) (e : Endpoint) → endpoint_at m ep ≡ Some e → IsCoherent e (errands_of ep m.orders) (events_of ep m.news) → e.line ≡ [] → e.errand ≡ None → IsUnused ep m → IsIdle ep m
unfolding served_events
idle_if ep m e here c line errand unused =
    let w = nothing_waits e.state e.errand _ _ (served_events e.line) c.tail c.phase errand c.news (ap served_events line) in
    record { unused = unused; no_line = ap line_at here ∙ line; no_orders = w.0; no_news = w.1 }

-- an endpoint that is not there is idle
pub idle_if_none : (ep : ℕ) (m : Machine) → endpoint_at m ep ≡ None → Fits (endpoint_at m ep) (errands_of ep m.orders) (events_of ep m.news) → IsIdle ep m
idle_if_none ep m none f =
    let g : Fits None (errands_of ep m.orders) (events_of ep m.news) = subst (λ o. Fits o (errands_of ep m.orders) (events_of ep m.news)) none f in
    record { unused = λ there. let gone : is_some (endpoint_at m ep) ≡ false = ap (λ o. is_some o) none in absurd (cc (gone, there)); no_line = ap line_at none; no_orders = g.0; no_news = g.1 }

-- the endpoints of the machine's device that pass a test are idle, where those must be quiet
pub no_items : (line : List Item) → (length line == 0) ≡ true → line ≡ []
no_items [] e = refl
no_items (x ∷ xs) e = absurd (cc (eqb-true (length (x ∷ xs)) 0 e))

-- no errand, by its test
no_errand : (o : Option Errand) → is_none o ≡ true → o ≡ None
no_errand None e = refl
no_errand (Some x) e = absurd cc

-- an endpoint found among those that all pass a test passes it
found_passes : (test : EndpointInfo → Bool) (ep : ℕ) (xs : List EndpointInfo) (s : EndpointInfo) → list_all test xs ≡ true → find (λ x. x.address == ep) xs ≡ Some s → (test s ≡ true) × (s.address ≡ ep)
found_passes test ep [] s all e = absurd cc
found_passes test ep (x ∷ xs) s all e = by_test (x.address == ep) refl e (found_passes test ep xs s p.1)
  where
    p : (test x ≡ true) × (list_all test xs ≡ true)
    p = and_parts (test x) (list_all test xs) all

    by_test : (b : Bool) → (x.address == ep) ≡ b → (if b then Some x else find (λ x. x.address == ep) xs) ≡ Some s → (find (λ x. x.address == ep) xs ≡ Some s → (test s ≡ true) × (s.address ≡ ep)) → (test s ≡ true) × (s.address ≡ ep)
    by_test true is q rest = let same : x ≡ s = cc in (ap test (sym same) ∙ p.0, ap (λ k. k.address) (sym same) ∙ eqb-true x.address ep is)
    by_test false is q rest = rest q

-- an implication's conclusion, as a test
quiet_passes : (a b : Bool) → a ≡ true → (not a || b) ≡ true → b ≡ true
quiet_passes a b t e = rw t at e

-- where all endpoints of a kind are quiet, each of the kind is
quiet_at : (setup : Setup) (m : Machine) (test : EndpointInfo → Bool) (ep : ℕ) (s : EndpointInfo) → are_quiet setup m test ≡ true → info_of setup (device_of m) ep ≡ Some s → test s ≡ true → is_quiet m ep (endpoint_at m ep) ≡ true
unfolding info_of
quiet_at setup m test ep s quiet is passes =
    let f = found_passes (λ x. not (test x) || is_quiet m x.address (endpoint_at m x.address)) ep (endpoints_of setup (device_of m)) s quiet is in
    subst (λ k. is_quiet m k (endpoint_at m k) ≡ true) f.1 (quiet_passes (test s) _ passes f.0)

-- an endpoint that has an interface is known
known : (o : Option EndpointInfo) (i : ℕ) → option_map (λ x. x.interface) o ≡ Some i → (s : EndpointInfo) × (o ≡ Some s) × (s.interface ≡ i)
known None i e = absurd cc
known (Some s) i e = (s, refl, cc)

-- an endpoint that a machine has is one of its device's
pub at_device_of : (m : Machine) (ep : ℕ) (e : Endpoint) → endpoint_at m ep ≡ Some e → (m.endpoints (device_of m) ep ≡ Some e) × (m.handle.device ≡ Some (device_of m))
at_device_of m ep e here = by_device m.handle.device here
  where
    by_device : (o : Option ℕ) → option_and_then (λ d. m.endpoints d ep) o ≡ Some e → (m.endpoints (unwrap_or o 0) ep ≡ Some e) × (o ≡ Some (unwrap_or o 0))
    by_device None q = absurd cc
    by_device (Some d) q = (q, refl)

-- where all endpoints of a kind are quiet, each of the kind is idle
pub quiet_idle : (setup : Setup) (m : Machine) (test : EndpointInfo → Bool) (ep : ℕ) → IsWell setup m → are_quiet setup m test ≡ true
    → ((s : EndpointInfo) → info_of setup (device_of m) ep ≡ Some s → test s ≡ true) → IsIdle ep m
quiet_idle setup m test ep well quiet passes = by_end (endpoint_at m ep) refl
  where
    by_end : (o : Option Endpoint) → endpoint_at m ep ≡ o → IsIdle ep m
    by_end None none = idle_if_none ep m none (well.fits ep)
    by_end (Some e) here =
        let held = well.of_held (device_of m) ep e (at_device_of m ep e here).0 in
        let s = known (info_of setup (device_of m) ep) held.0 held.1 in
        let q : is_quiet m ep (Some e) ≡ true = subst (λ o. is_quiet m ep o ≡ true) here (quiet_at setup m test ep s.0 quiet s.1 (passes s.0 s.1)) in
        let p = and_parts (length e.line == 0) _ q in
        let f : IsFit e (errands_of ep m.orders) (events_of ep m.news) = subst (λ o. Fits o (errands_of ep m.orders) (events_of ep m.news)) here (well.fits ep) in
        let rest = and_parts (is_none e.errand) _ p.1 in
        let unused = and_parts (not (list_any (is_result_at ep) m.results)) _ rest.1 in
        idle_if ep m e here f.coherent (no_items e.line p.0) (no_errand e.errand rest.0) (λ there. (not-true (list_any (is_result_at ep) m.results) unused.0, not-true (list_any (is_callback_at ep) m.handle.in_callbacks) unused.1))
