-- Endpoints for which no order waits.
use Rattle.std.proofs.Common.{◌≡◌, ℕ, Bool, true, false, refl, ap, ap₂, sym, subst, ◌∙◌, List, [], ◌∷◌, map, Option, Some, None, eq-eqb}
use Rattle.std.specs.Prelude.{◌&&◌, if◌then◌else◌}
use Rattle.std.specs.List.{filter}
use Rattle.std.specs.Option.{option_map}
use Rattle.usb_model.specs.declared.endpoint.EndpointState.{EndpointState}
use Rattle.usb_model.specs.declared.errand.Errand.{Errand}
use Rattle.usb_model.specs.declared.news.Event.{Event}
use Rattle.usb_model.specs.Coherence.{IsPhase, ended, move_ran, move_waits, reset_ran, reset_waits, runs, stop_failed, stop_ran, stop_ran_paused, stop_waits, stop_waits_halted}
use Rattle.usb_model.specs.Setup.{Setup}
use Rattle.usb_model.specs.World.{World, holder}
use Rattle.usb_model.specs.Kept.{SentErrand}
use Rattle.refine_world.specs.Known.{NoMove}
use Rattle.refine_world.specs.Lively.{IsFine}
use Rattle.refine_world.specs.ShownEndpoint.{orders_sent}
use Rattle.refine_world.specs.Shows.{At, Core, Shows, at, errands, here, ring_order}
use Rattle.refine_world.proofs.WholeSteps.{same_holder}
use Rattle.refine_world.proofs.Links.{known}
use Rattle.refine_world.proofs.StepsWithoutWork.{none_there}

-- where none waits at an endpoint none moves there
none_moves : (d e : ℕ) (xs : List (At SentErrand)) → at d e xs ≡ [] → NoMove d e (map ring_order xs)
none_moves d e [] none = tt
none_moves d e (x ∷ xs) none = by_test (here d e x) refl none (none_moves d e xs)
  where
    by_test : (b : Bool) → here d e x ≡ b → map (λ y. y.what) (if b then x ∷ filter (here d e) xs else filter (here d e) xs) ≡ [] → (at d e xs ≡ [] → NoMove d e (map ring_order xs)) → NoMove d e (ring_order x ∷ map ring_order xs)
    by_test true is empty rest = absurd cc
    by_test false is empty rest =
        let there : (x.dev ≡ d) × (x.ep ≡ e) → here d e x ≡ true = λ q. ap₂ (λ a b. a && b) (eq-eqb x.dev d q.0) (eq-eqb x.ep e q.1) in
        (λ m. let same : here d e x ≡ true = there (m.0, m.1) in cc (is, same), rest empty)

-- without an errand no order waits
no_orders : (s : EndpointState) (er : Option Errand) (os : List Errand) (es tail : List Event) → er ≡ None → IsPhase s er os es tail → os ≡ []
no_orders s er os es tail none (runs g) = refl
no_orders s er os es tail none (ended g) = refl
no_orders s er os es tail none (stop_waits g) = absurd cc
no_orders s er os es tail none (stop_waits_halted g) = absurd cc
no_orders s er os es tail none (stop_ran g) = refl
no_orders s er os es tail none (stop_ran_paused g) = refl
no_orders s er os es tail none (stop_failed g) = refl
no_orders s er os es tail none reset_waits = absurd cc
no_orders s er os es tail none reset_ran = refl
no_orders s er os es tail none move_waits = absurd cc
no_orders s er os es tail none move_ran = refl

-- nobody holds it
pub still_nobody : (setup : Setup) (w : World) (c : Core) (d e : ℕ) → Shows setup w c → holder setup c.claims d e ≡ None → NoMove d e c.orders
still_nobody setup w c d e s nobody = subst (NoMove d e) (sym s.orders_kept) (none_moves d e s.orders (none_there setup w.claims d e s.orders s.orders_held (sym (same_holder setup w c s d e) ∙ nobody)))

-- it has no errand
pub still_idle : (setup : Setup) (w : World) (c : Core) (h d e : ℕ) → IsFine setup → Shows setup w c → holder setup c.claims d e ≡ Some h → (c.endpoints d e).errand ≡ None → NoMove d e c.orders
still_idle setup w c h d e fine s holds none =
    let held : holder setup w.claims d e ≡ Some h = sym (same_holder setup w c s d e) ∙ holds in
    let shown = s.endpoints h d e held in
    let coherent = (known setup w c s fine h d e held).fit.coherent in
    let idle : (w.endpoints d e).errand ≡ None = sym shown.errand ∙ ap (λ (o : Option SentErrand). option_map (λ x. x.errand) o) none in
    let empty : errands (at d e s.orders) ≡ [] = no_orders _ _ _ _ _ idle coherent.phase in
    subst (NoMove d e) (sym s.orders_kept) (none_moves d e s.orders (shown.sent_is ∙ ap (orders_sent (c.endpoints d e).errand) empty))
