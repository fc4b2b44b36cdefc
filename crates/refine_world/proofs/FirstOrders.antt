-- The first order that waits is that of its endpoint's errand, and stands just before the places posted next.
use Rattle.std.proofs.Common.{List, Option, Some, [], ap, ap₂, arith, length, length-append, map, refl, subst, sym, true, ℕ, ◌&&◌, ◌+◌, ◌++◌, ◌∙◌, ◌∷◌, ◌≡◌}
use Rattle.std.specs.List.{flat_map}
use Rattle.std.proofs.lemmas.List.{length-map}
use Rattle.usb_model.specs.declared.errand.Errand.TheVariants as errand
use Rattle.usb_model.specs.declared.errand.Errand.{Errand}
use Rattle.usb_model.specs.declared.endpoint.EndpointState.{EndpointState}
use Rattle.usb_model.specs.declared.news.Event.{Event}
use Rattle.usb_model.specs.Coherence.{IsPhase, ended, move_ran, move_waits, reset_ran, reset_waits, runs, served_events, stop_failed, stop_ran, stop_ran_paused, stop_waits, stop_waits_halted}
use Rattle.usb_model.specs.Setup.{Setup}
use Rattle.usb_model.specs.World.{World, holder}
use Rattle.proof_model.proofs.Lists.Parts.{heads_same}
use Rattle.proof_model.proofs.Lists.Pieces.{same_name}
use Rattle.refine_world.specs.Known.{KnowsOrder, OrdersFit}
use Rattle.refine_world.specs.Lively.{IsFine}
use Rattle.refine_world.specs.Shows.{AllHeld, At, Core, InRun, RingOrder, Shows, at, completed, errands, here, ring_order, under_way}
use Rattle.usb_model.specs.Kept.{SentErrand}
use Rattle.refine_world.proofs.WholeSteps.{same_holder}
use Rattle.refine_world.proofs.InRun.{run_length, run_once}
use Rattle.refine_world.proofs.Links.{known}
use Rattle.refine_world.proofs.Waiters.{first_here}

-- an order that waits for an endpoint is that of its errand
its_errand : (s : EndpointState) (er : Option Errand) (l : List Errand) (es tail : List Event) (o : Errand) (os : List Errand) → l ≡ o ∷ os → IsPhase s er l es tail → er ≡ Some o
its_errand s er l es tail o os is (runs g) = absurd cc
its_errand s er l es tail o os is (ended g) = absurd cc
its_errand s er l es tail o os is (stop_waits g) = ap (λ k. Some k) (heads_same errand.Stop o [] os is).0
its_errand s er l es tail o os is (stop_waits_halted g) = ap (λ k. Some k) (heads_same errand.Stop o [] os is).0
its_errand s er l es tail o os is (stop_ran g) = absurd cc
its_errand s er l es tail o os is (stop_ran_paused g) = absurd cc
its_errand s er l es tail o os is (stop_failed g) = absurd cc
its_errand s er l es tail o os is reset_waits = ap (λ k. Some k) (heads_same errand.Reset o [] os is).0
its_errand s er l es tail o os is reset_ran = absurd cc
its_errand s er l es tail o os is move_waits = ap (λ k. Some k) (heads_same errand.Move o [] os is).0
its_errand s er l es tail o os is move_ran = absurd cc

-- behind the completions the orders that wait are the last places posted
last_places : (first next i : ℕ) (done more : List ℕ) → InRun first (done ++ i ∷ more) next → i + (length more + 1) ≡ next
last_places first next i done more r = omega (arith, run_once first next i done more r, run_length first next (done ++ i ∷ more) r, length-append done (i ∷ more))

-- what is known of the first order
knows_first : (setup : Setup) (w : World) (c : Core) (x : At SentErrand) (xs : List (At SentErrand)) → IsFine setup → (s : Shows setup w c) → s.orders ≡ x ∷ xs → KnowsOrder setup c (ring_order x)
knows_first setup w c x xs fine s is =
    let holds : holder setup w.claims x.dev x.ep ≡ Some x.name = (subst (AllHeld setup w.claims) is s.orders_held).0 in
    let here_it_is : here x.dev x.ep x ≡ true = ap₂ (λ p q. p && q) (same_name x.dev) (same_name x.ep) in
    let there : errands (at x.dev x.ep s.orders) ≡ x.what.errand ∷ errands (at x.dev x.ep xs) = ap errands (ap (at x.dev x.ep) is ∙ first_here x.dev x.ep x xs here_it_is) in
    let phase = (known setup w c s fine x.name x.dev x.ep holds).fit.coherent in
    let kept : c.orders ≡ ring_order x ∷ map ring_order xs = s.orders_kept ∙ ap (map ring_order) is in
    let run : InRun s.first (under_way c.events (ring_order x ∷ map ring_order xs)) c.posted = subst (λ l. InRun s.first (under_way c.events l) c.posted) kept s.in_run in
    record {
      name = x.name;
      holds = same_holder setup w c s x.dev x.ep ∙ holds;
      is_its = (s.endpoints x.name x.dev x.ep holds).errand ∙ its_errand (w.endpoints x.dev x.ep).state (w.endpoints x.dev x.ep).errand _ (served_events (w.endpoints x.dev x.ep).line) phase.tail x.what.errand (errands (at x.dev x.ep xs)) there phase.phase;
      place = omega (arith, ap length kept, last_places s.first c.posted x.what.index (flat_map completed c.events) (map (λ (o : RingOrder). o.place) (map ring_order xs)) run, length-map (map ring_order xs) (λ (o : RingOrder). o.place));
    }

-- in every core that shows a world
pub orders_fit : (setup : Setup) → IsFine setup → OrdersFit setup
orders_fit setup fine w c s o os is = by_orders s.orders refl
  where
    by_orders : (l : List (At SentErrand)) → s.orders ≡ l → KnowsOrder setup c o
    by_orders [] none = let empty : c.orders ≡ [] = s.orders_kept ∙ ap (map ring_order) none in absurd (cc (is, empty))
    by_orders (x ∷ xs) there =
        let kept : ring_order x ∷ map ring_order xs ≡ o ∷ os = sym (s.orders_kept ∙ ap (map ring_order) there) ∙ is in
        subst (KnowsOrder setup c) (heads_same (ring_order x) o (map ring_order xs) os kept).0 (knows_first setup w c x xs fine s there)
