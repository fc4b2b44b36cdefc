-- No event is stray: the first is of a transfer in progress, or the completion of an errand, at an endpoint that is held.
use Rattle.std.proofs.Common.{Bool, List, Option, Some, [], ap, ap₂, false, inl, inr, length, map, refl, subst, sym, true, ℕ, ◌&&◌, ◌%◌, ◌++◌, ◌≤◌, ◌∙◌, ◌∷◌, ◌≡◌}
use Rattle.std.specs.Prelude.{if◌then◌else◌}
use Rattle.std.specs.List.{AllByRecursion, filter}
use Rattle.std.proofs.lemmas.Bool.{eq-eqb}
use Rattle.usb_model.specs.declared.endpoint.Endpoint.{Endpoint}
use Rattle.usb_model.specs.declared.endpoint.EndpointState.TheVariants.{Stopped}
use Rattle.usb_model.specs.declared.endpoint.EndpointState.{EndpointState}
use Rattle.usb_model.specs.declared.errand.Errand.TheVariants as errand
use Rattle.usb_model.specs.declared.errand.Errand.{Errand}
use Rattle.usb_model.specs.declared.news.Event.TheVariants.{Finished, Paused, Settled}
use Rattle.usb_model.specs.declared.news.Event.{Event}
use Rattle.usb_model.specs.Coherence.{IsCoherent, IsPhase, ended, move_ran, move_waits, reset_ran, reset_waits, runs, served_events, stop_failed, stop_ran, stop_ran_paused, stop_waits, stop_waits_halted}
use Rattle.usb_model.specs.Setup.{Setup, packet_size_of}
use Rattle.usb_model.specs.World.{World, holder}
use Rattle.proof_model.proofs.Lists.Parts.{heads_same}
use Rattle.proof_model.proofs.Lists.Pieces.{same_name}
use Rattle.usb_model.specs.Kept.{KeptEndpoint, SentErrand, code_of, index_of}
use Rattle.refine_world.specs.Known.{KnowsEvent, NeverStray, NoMove}
use Rattle.refine_world.specs.Lively.{IsFine, ends_of}
use Rattle.refine_world.specs.ShownEndpoint.{ShowsEnd}
use Rattle.refine_world.specs.Shows.{AllHeld, At, Core, Report, Shows, at, errands, event_at, events, here, ring_event, ring_order, tellings}
use Rattle.refine_world.proofs.Apart.{errands_apart}
use Rattle.refine_world.proofs.Delivers.{code_tells, sent_there}
use Rattle.refine_world.proofs.Finished.{FinishedShows, finished_shows}
use Rattle.refine_world.proofs.WholeSteps.{same_holder}
use Rattle.refine_world.proofs.Links.{IsKnown, known}
use Rattle.refine_world.proofs.Pauses.{PausedShows, paused_shows}
use Rattle.refine_world.proofs.Waiters.{first_here}
use Rattle.refine_world.proofs.Senders.{sender_is}
use Rattle.refine_world.proofs.Settled.{EndWays, SettledShows, end_ways, none_served, settled_shows}

-- none of these errands is a Move
abbrev NoMoves : List Errand → Type 0
NoMoves os = AllByRecursion (λ o. o ≡ errand.Move → ⊥) os

-- while a Move waits, nothing is told of its endpoint
told_no_move : (s : EndpointState) (er : Option Errand) (os : List Errand) (es tail : List Event) (x : Event) (ns : List Event) → x ∷ ns ≡ es ++ tail → IsPhase s er os es tail → NoMoves os
told_no_move s er os es tail x ns told (runs g) = tt
told_no_move s er os es tail x ns told (ended g) = tt
told_no_move s er os es tail x ns told (stop_waits g) = (λ q. cc, tt)
told_no_move s er os es tail x ns told (stop_waits_halted g) = (λ q. cc, tt)
told_no_move s er os es tail x ns told (stop_ran g) = tt
told_no_move s er os es tail x ns told (stop_ran_paused g) = tt
told_no_move s er os es tail x ns told (stop_failed g) = tt
told_no_move s er os es tail x ns told reset_waits = (λ q. cc, tt)
told_no_move s er os es tail x ns told reset_ran = tt
told_no_move s er os es tail x ns told move_waits = absurd cc
told_no_move s er os es tail x ns told move_ran = tt

-- where none of an endpoint's orders is a Move, none in the ring is a Move of it
no_move : (d e : ℕ) (xs : List (At SentErrand)) → NoMoves (errands (at d e xs)) → NoMove d e (map ring_order xs)
no_move d e [] a = tt
no_move d e (x ∷ xs) a = by_test (here d e x) refl a (no_move d e xs)
  where
    by_test : (b : Bool) → here d e x ≡ b → NoMoves (errands (map (λ y. y.what) (if b then x ∷ filter (here d e) xs else filter (here d e) xs))) → (NoMoves (errands (at d e xs)) → NoMove d e (map ring_order xs)) → NoMove d e (ring_order x ∷ map ring_order xs)
    by_test true is p rest = (λ m. p.0 m.2, rest p.1)
    by_test false is p rest =
        let same : (x.dev ≡ d) × (x.ep ≡ e) → here d e x ≡ true = λ q. ap₂ (λ a b. a && b) (eq-eqb x.dev d q.0) (eq-eqb x.ep e q.1) in
        (λ m. let there : here d e x ≡ true = same (m.0, m.1) in cc (is, there), rest p)

-- an errand that went well leaves its endpoint standing
went_well : (s : EndpointState) (er : Option Errand) (os : List Errand) (o : Errand) (ok : Bool) (ns : List Event) → EndWays s er os o ok ns → ok ≡ true → s ≡ Stopped
went_well s er os o ok ns (inl w) q = w.0
went_well s er os o ok ns (inr (inl w)) q = absurd (cc (q, w.4))
went_well s er os o ok ns (inr (inr (inl w))) q = w.0
went_well s er os o ok ns (inr (inr (inr w))) q = w.0

-- only a Stop fails
stop_fails : (s : EndpointState) (er : Option Errand) (os : List Errand) (o : Errand) (ok : Bool) (ns : List Event) → EndWays s er os o ok ns → ok ≡ false → o ≡ errand.Stop
stop_fails s er os o ok ns (inl w) q = w.3
stop_fails s er os o ok ns (inr (inl w)) q = w.3
stop_fails s er os o ok ns (inr (inr (inl w))) q = absurd (cc (q, w.4))
stop_fails s er os o ok ns (inr (inr (inr w))) q = absurd (cc (q, w.4))

-- what is known of the first event, by what it is of
knows_first : (setup : Setup) (w : World) (c : Core) (x : At Report) (xs : List (At Report)) → IsFine setup → length (ends_of setup) ≤ 255 → (s : Shows setup w c) → s.news ≡ x ∷ xs → KnowsEvent setup c (ring_event x)
knows_first setup w c x xs fine bounded s is = by_event x.what.event refl
  where
    dev : ℕ
    dev = x.dev

    ep : ℕ
    ep = x.ep

    b : KeptEndpoint
    b = c.endpoints dev ep

    e : Endpoint
    e = w.endpoints dev ep

    size : ℕ
    size = packet_size_of setup dev ep

    os : List Errand
    os = errands (at dev ep s.orders)

    ns : List Event
    ns = events (at dev ep xs)

    holds : holder setup w.claims dev ep ≡ Some x.name
    holds = (subst (AllHeld setup w.claims) is s.news_held).0

    held : holder setup c.claims dev ep ≡ Some x.name
    held = same_holder setup w c s dev ep ∙ holds

    first_is : at dev ep s.news ≡ x.what ∷ at dev ep xs
    first_is = ap (at dev ep) is ∙ first_here dev ep x xs (ap₂ (λ p q. p && q) (same_name dev) (same_name ep))

    k : IsKnown setup w x.name dev ep os (x.what.event ∷ ns)
    k = subst (λ l. IsKnown setup w x.name dev ep os (events l)) first_is (known setup w c s fine x.name dev ep holds)

    coherent : (v : Event) → x.what.event ≡ v → IsCoherent e os (v ∷ ns)
    coherent v same = subst (λ z. IsCoherent e os (z ∷ ns)) same k.fit.coherent

    shown : (v : Event) → x.what.event ≡ v → ShowsEnd size e os (v ∷ ns) b (at dev ep s.orders) (x.what.telling ∷ tellings (at dev ep xs))
    shown v same = subst (λ z. ShowsEnd size e os (z ∷ ns) b (at dev ep s.orders) (x.what.telling ∷ tellings (at dev ep xs))) same
        (subst (λ l. ShowsEnd size e os (events l) b (at dev ep s.orders) (tellings l)) first_is (s.endpoints x.name dev ep holds))

    still : NoMove dev ep c.orders
    still = subst (NoMove dev ep) (sym s.orders_kept) (no_move dev ep s.orders (told_no_move e.state e.errand os (served_events e.line) k.fit.coherent.tail x.what.event ns k.fit.coherent.news k.fit.coherent.phase))

    by_event : (v : Event) → x.what.event ≡ v → KnowsEvent setup c (event_at dev ep x.what.telling)
    by_event (Finished n code) v =
        let f : FinishedShows size ep (c.gone dev) c.posted e os ns b (at dev ep s.orders) x.what.telling (tellings (at dev ep xs)) n code =
        finished_shows size ep (c.gone dev) c.posted e os ns b (at dev ep s.orders) x.what.telling (tellings (at dev ep xs)) n code (coherent (Finished n code) v) (shown (Finished n code) v) in
        subst (λ t. KnowsEvent setup c (event_at dev ep t)) (sym f.event) (record { name = x.name; holds = held; found = f.found; reads = f.read; live = f.live; still = still })
    by_event (Paused n) v =
        let f : PausedShows size ep (c.gone dev) e os ns b (at dev ep s.orders) x.what.telling (tellings (at dev ep xs)) n =
        paused_shows size ep (c.gone dev) e os ns b (at dev ep s.orders) x.what.telling (tellings (at dev ep xs)) n (coherent (Paused n) v) (shown (Paused n) v) in
        subst (λ t. KnowsEvent setup c (event_at dev ep t)) (sym f.event) (record { name = x.name; holds = held; found = f.found; reads = f.read; live = f.live; still = still })
    by_event (Settled o ok) v =
        let f : SettledShows size ep (c.gone dev) c.posted e os ns b (at dev ep s.orders) x.what.telling (tellings (at dev ep xs)) o ok =
        settled_shows size ep (c.gone dev) c.posted e os ns b (at dev ep s.orders) x.what.telling (tellings (at dev ep xs)) o ok (coherent (Settled o ok) v) k.lively.orderly (shown (Settled o ok) v) in
        let now : IsCoherent e os (Settled o ok ∷ ns) = coherent (Settled o ok) v in
        let ways : EndWays e.state e.errand os o ok ns =
        end_ways e.state e.errand os (served_events e.line) now.tail o ok ns (none_served e.line (Settled o ok) ns now.tail (λ n code q. cc) now.news).1 now.phase in
        let y = sent_there b.errand o ((shown (Settled o ok) v).errand ∙ f.errand) in
        let index : y.0.index ≡ index_of b.errand = sym (ap index_of y.1) in
        subst (λ t. KnowsEvent setup c (event_at dev ep t)) (sym f.event)
        (record {
          ep = ep;
          name = x.name;
          sent = y.0;
          sends = sender_is setup w c s fine x xs (index_of b.errand) (code_of ok) y.0 is f.event holds y.1 index;
          holds = held;
          order = y.1;
          same = index;
          still = still;
          went = λ q. (shown (Settled o ok) v).state ∙ went_well e.state e.errand os o ok ns ways (sym (code_tells ok) ∙ q);
          failed = λ q. y.2 ∙ stop_fails e.state e.errand os o ok ns ways (sym (code_tells ok) ∙ q);
          apart = λ a g z holds_there errand_there rest.
              errands_apart setup w c s fine bounded g dev a x.name dev ep z y.0 (sym (same_holder setup w c s dev a) ∙ holds_there) errand_there holds y.1 (rest ∙ ap (λ i. i % 255) (sym index)) ∙ index;
        })

-- in every core that shows a world of at most 255 endpoints
pub never_stray : (setup : Setup) → IsFine setup → length (ends_of setup) ≤ 255 → NeverStray setup
never_stray setup fine bounded w c s x xs is = by_news s.news refl
  where
    by_news : (l : List (At Report)) → s.news ≡ l → KnowsEvent setup c x
    by_news [] none = let empty : c.events ≡ [] = s.news_kept ∙ ap (map ring_event) none in absurd (cc (is, empty))
    by_news (y ∷ ys) there =
        let kept : ring_event y ∷ map ring_event ys ≡ x ∷ xs = sym (s.news_kept ∙ ap (map ring_event) there) ∙ is in
        subst (KnowsEvent setup c) (heads_same (ring_event y) x (map ring_event ys) xs kept).0 (knows_first setup w c y ys fine bounded s there)
