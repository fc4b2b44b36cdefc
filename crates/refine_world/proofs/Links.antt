-- What is known of the endpoints of a world that a core shows: each held one fits what waits for it, and is lively.
use Rattle.std.proofs.Common.{Bool, List, Some, [], ap, ap₂, false, map, refl, subst, subst₂, sym, true, ℕ, ◌&&◌, ◌==◌, ◌∙◌, ◌∷◌, ◌≡◌}
use Rattle.std.specs.Prelude.{if◌then◌else◌, option_and_then}
use Rattle.std.specs.List.{filter}
use Rattle.std.proofs.lemmas.Bool.{and_parts, eq-eqb, eqb-true}
use Rattle.usb_model.specs.declared.errand.Errand.{Errand}
use Rattle.usb_model.specs.declared.endpoint_effect.EndpointEffect.{EndpointEffect}
use Rattle.usb_model.specs.declared.effect.Effect.{Effect}
use Rattle.usb_model.specs.declared.handle.Handle.{Handle}
use Rattle.usb_model.specs.declared.news.Event.{Event}
use Rattle.usb_model.specs.declared.news.News.{News}
use Rattle.usb_model.specs.declared.order.Order.{Order}
use Rattle.usb_model.specs.declared.step.Step.{Step}
use Rattle.usb_model.specs.Machine.{at_endpoint, endpoint_at}
use Rattle.usb_model.specs.Setup.{Setup}
use Rattle.usb_model.specs.World.Shared.{pieces_of}
use Rattle.usb_model.specs.Machine.Turns.{effect}
use Rattle.usb_model.specs.World.{Claims, World, holder, is_blocked, is_its, machine_of, owner_of, turn, turn_by, world_after}
use Rattle.proof_model.proofs.Handles.Isolation.{turn_free}
use Rattle.proof_model.proofs.Lists.Pieces.{same_name}
use Rattle.std.proofs.lemmas.Option.{same_Some}
use Rattle.usb_model.specs.Fitness.{IsFit, IsWell, errands_of, events_of, posts_of}
use Rattle.proof_model.proofs.Machines.Well.{fit_at}
use Rattle.usb_model.specs.Kept.{SentErrand}
use Rattle.refine_world.specs.Lively.{IsFine, IsLively}
use Rattle.refine_world.specs.Shows.{AllHeld, At, Core, Report, Shows, at, errands, events, here}
use Rattle.refine_world.proofs.EndpointInvariant.{IsSound, sound_at}
use Rattle.refine_world.proofs.Waiters.{is_here}

-- the holder's machine has the endpoint
pub has_end : (setup : Setup) (w : World) (h d e : ℕ) → holder setup w.claims d e ≡ Some h → (machine_of setup h w).endpoints d e ≡ Some (w.endpoints d e)
unfolding machine_of
has_end setup w h d e holds =
    let its : is_its h (holder setup w.claims d e) ≡ true = ap (is_its h) holds ∙ same_name h in
    rw its refl

-- and has opened its device
pub has_device : (setup : Setup) (w : World) (h d e : ℕ) → IsWell setup (machine_of setup h w) → holder setup w.claims d e ≡ Some h → (w.names h).device ≡ Some d
unfolding machine_of
has_device setup w h d e well holds = well.at_device d e (w.endpoints d e) (has_end setup w h d e holds)

-- the pieces of a name at an endpoint are what waits at the endpoint that the name holds
linked : {A B C : Type 0} (setup : Setup) (claims : Claims) (h d e : ℕ) (piece : ℕ → A → C) (place : C → ℕ) (what : C → B) (f : A → B) → ((ep : ℕ) (a : A) → place (piece ep a) ≡ ep) → ((ep : ℕ) (a : A) → what (piece ep a) ≡ f a)
    → holder setup claims d e ≡ Some h → ((a i : ℕ) → holder setup claims a i ≡ Some h → a ≡ d) → (xs : List (At A)) → AllHeld setup claims xs
    → posts_of place what e (pieces_of h (map (λ x. record { name = x.name; piece = piece x.ep x.what }) xs)) ≡ map f (at d e xs)
linked setup claims h d e piece place what f at_ep is_f holds device [] held = refl
linked {C = C} setup claims h d e piece place what f at_ep is_f holds device (x ∷ xs) held = by_test (here d e x) refl (x.name == h) refl (linked setup claims h d e piece place what f at_ep is_f holds device xs held.1)
  where
    rest : List C
    rest = pieces_of h (map (λ y. record { name = y.name; piece = piece y.ep y.what }) xs)

    by_test : (t : Bool) → here d e x ≡ t → (n : Bool) → (x.name == h) ≡ n → posts_of place what e rest ≡ map f (at d e xs)
        → posts_of place what e (if n then piece x.ep x.what ∷ rest else rest) ≡ map f (map (λ y. y.what) (if t then x ∷ filter (here d e) xs else filter (here d e) xs))
    by_test true is true name more =
        let same : (place (piece x.ep x.what) == e) ≡ true = ap (λ k. k == e) (at_ep x.ep x.what) ∙ (and_parts (x.dev == d) (x.ep == e) is).1 in
        rw same (ap₂ (λ a l. a ∷ l) (is_f x.ep x.what) more)
    by_test true is false name more =
        let q = is_here d e x is in
        let h_is : x.name ≡ h = same_Some x.name h (sym held.0 ∙ (ap₂ (λ a b. holder setup claims a b) q.0 q.1 ∙ holds)) in
        absurd (cc (name, eq-eqb x.name h h_is))
    by_test false is true name more =
        let at_d : x.dev ≡ d = device x.dev x.ep (held.0 ∙ ap (λ k. Some k) (eqb-true x.name h name)) in
        let other : (x.ep == e) ≡ false = sym (ap (λ b. b && (x.ep == e)) (eq-eqb x.dev d at_d)) ∙ is in
        let same : (place (piece x.ep x.what) == e) ≡ false = ap (λ k. k == e) (at_ep x.ep x.what) ∙ other in
        rw same more
    by_test false is false name more = more

-- what is known of a held endpoint
pub record IsKnown (setup : Setup) (w : World) (h d e : ℕ) (os : List Errand) (ns : List Event) : Type 0 where
  pub end : (machine_of setup h w).endpoints d e ≡ Some (w.endpoints d e)
  pub device : (w.names h).device ≡ Some d
  pub fit : IsFit (w.endpoints d e) os ns
  pub lively : IsLively setup d e (w.endpoints d e)

-- the handle and the lists of a machine
pub machine_parts : (setup : Setup) (h : ℕ) (w : World)
    → ((machine_of setup h w).handle ≡ w.names h) × ((machine_of setup h w).orders ≡ pieces_of h w.orders) × ((machine_of setup h w).news ≡ pieces_of h w.news) × ((machine_of setup h w).results ≡ pieces_of h w.results) × ((machine_of setup h w).gone ≡ w.gone)
unfolding machine_of
machine_parts setup h w = (refl, refl, refl, refl, refl)

pub end_there : (setup : Setup) (w : World) (h d e : ℕ) → (w.names h).device ≡ Some d → holder setup w.claims d e ≡ Some h → endpoint_at (machine_of setup h w) e ≡ Some (w.endpoints d e)
end_there setup w h d e device holds = ap (option_and_then (λ k. (machine_of setup h w).endpoints k e)) (ap (λ x. x.device) (machine_parts setup h w).0 ∙ device) ∙ has_end setup w h d e holds

-- every machine of the world is sound
pub all_sound : (setup : Setup) (w : World) (c : Core) → IsFine setup → Shows setup w c → (h : ℕ) → IsSound setup (machine_of setup h w)
all_sound setup w c fine s h = subst (λ u. IsSound setup (machine_of setup h u)) (sym s.reached) (sound_at setup s.steps fine h)

-- what waits for it among what waits for its holder
pub its_lists : (setup : Setup) (w : World) (c : Core) (s : Shows setup w c) → IsFine setup → (h d e : ℕ) → holder setup w.claims d e ≡ Some h
    → (errands_of e (machine_of setup h w).orders ≡ errands (at d e s.orders)) × (events_of e (machine_of setup h w).news ≡ events (at d e s.news))
its_lists setup w c s fine h d e holds =
    let sound = all_sound setup w c fine s h in
    let device : (w.names h).device ≡ Some d = has_device setup w h d e sound.well holds in
    let at_d : (a i : ℕ) → holder setup w.claims a i ≡ Some h → a ≡ d = λ a i q. same_Some a d (sym (has_device setup w h a i sound.well q) ∙ device) in
    let parts = machine_parts setup h w in (
      ap (errands_of e) (parts.1 ∙ ap (pieces_of h) s.orders_shown)
          ∙ linked setup w.claims h d e (λ ep (a : SentErrand). record { ep = ep; errand = a.errand }) (λ (o : Order). o.ep) (λ (o : Order). o.errand) (λ (a : SentErrand). a.errand) (λ ep a. refl) (λ ep a. refl) holds at_d s.orders s.orders_held,
      ap (events_of e) (parts.2 ∙ ap (pieces_of h) s.news_shown)
          ∙ linked setup w.claims h d e (λ ep (a : Report). record { ep = ep; event = a.event }) (λ (o : News). o.ep) (λ (o : News). o.event) (λ (a : Report). a.event) (λ ep a. refl) (λ ep a. refl) holds at_d s.news s.news_held,
    )

pub known : (setup : Setup) (w : World) (c : Core) (s : Shows setup w c) → IsFine setup → (h d e : ℕ) → holder setup w.claims d e ≡ Some h → IsKnown setup w h d e (errands (at d e s.orders)) (events (at d e s.news))
known setup w c s fine h d e holds =
    let sound = all_sound setup w c fine s h in
    let device : (w.names h).device ≡ Some d = has_device setup w h d e sound.well holds in
    let end : (machine_of setup h w).endpoints d e ≡ Some (w.endpoints d e) = has_end setup w h d e holds in
    let lists = its_lists setup w c s fine h d e holds in
    record {
      end = end;
      device = device;
      fit = subst₂ (λ x y. IsFit (w.endpoints d e) x y) lists.0 lists.1 (fit_at setup (machine_of setup h w) e (w.endpoints d e) sound.well (end_there setup w h d e device holds));
      lively = sound.lively d e (w.endpoints d e) end;
    }

-- a turn of work at an endpoint
pub turn_works : (setup : Setup) (w : World) (h dev ep : ℕ) (step : Step) (handle : Handle) (d : EndpointEffect) → owner_of setup w step ≡ Some h → effect setup h (machine_of setup h w) step ≡ at_endpoint handle dev ep d
    → turn setup w step ≡ record { entry = record { owner = Some h; reply = d.reply }; world = world_after setup h w step (at_endpoint handle dev ep d) }
unfolding turn at_endpoint is_blocked
turn_works setup w h dev ep step handle d own is =
    ap (λ o. turn_by setup o w step) own
    ∙ (turn_free setup h w step (ap (λ x. is_blocked setup h w x.change) is)
    ∙ ap (λ (x : Effect). record { entry = record { owner = Some h; reply = x.reply }; world = world_after setup h w step x }) is)
