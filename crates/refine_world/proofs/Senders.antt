-- A completion's index names one endpoint of its device: that whose errand it is.
use Rattle.std.proofs.Common.{Bool, List, None, Option, Some, [], ap, ap₂, append_assoc, arith, false, inl, inr, map, refl, subst, suc, sym, true, ℕ, ◌&&◌, ◌++◌, ◌≤◌, ◌==◌, ◌∙◌, ◌∷◌, ◌≡◌, ◌⊎◌}
use Rattle.std.specs.Prelude.{if◌then◌else◌, is_some, ◌||◌}
use Rattle.std.specs.List.{filter, find, flat_map, list_any}
use Rattle.std.specs.Option.{option_and_then, option_map}
use Rattle.std.proofs.lemmas.Bool.{and_parts, eq-eqb, eqb-true, or_left, or_right}
use Rattle.std.proofs.lemmas.List.Folds.{list_any-append}
use Rattle.usb_model.specs.declared.errand.Errand.TheVariants as errand
use Rattle.usb_model.specs.declared.errand.Errand.{Errand}
use Rattle.usb_model.specs.declared.endpoint.Endpoint.{Endpoint}
use Rattle.usb_model.specs.declared.endpoint.EndpointState.{EndpointState}
use Rattle.usb_model.specs.declared.news.Event.TheVariants.{Paused, Settled}
use Rattle.usb_model.specs.declared.news.Event.{Event}
use Rattle.usb_model.specs.declared.setup.EndpointInfo.{EndpointInfo}
use Rattle.usb_model.specs.Setup.{Setup, endpoints_of, info_of, interface_of}
use Rattle.usb_model.specs.World.{World, holder}
use Rattle.usb_model.specs.Coherence.{IsCoherent, IsPhase, ended, move_ran, move_waits, reset_ran, reset_waits, runs, served_events, stop_failed, stop_ran, stop_ran_paused, stop_waits, stop_waits_halted}
use Rattle.usb_model.specs.Kept.{KeptEndpoint, Completion, SentErrand, Telling, Transfer, code_of, index_of}
use Rattle.refine_world.specs.ShownEndpoint.{ShowsEnd, orders_sent, pause_told, tail_told, told_of}
use Rattle.refine_world.specs.Lively.{IsFine}
use Rattle.refine_world.specs.Shows.{At, Core, InRun, Report, RingOrder, Shows, at, completed, event_at, here, ring_event, ring_order, tellings, under_way}
use Rattle.refine_world.specs.Steps.{has_sent, is_sent, sender}
use Rattle.refine_world.proofs.Finished.{same_tail}
use Rattle.refine_world.proofs.Links.{known}
use Rattle.refine_world.proofs.Waiters.{is_here}

-- whether a telling is the completion of this order
abbrev pub completes : ℕ → Telling → Bool
completes i (Transfer place residual code) = false
completes i (Completion index code) = index == i

abbrev pub stands_at : ℕ → SentErrand → Bool
stands_at i s = s.index == i

abbrev pub UnderWay : ℕ → List SentErrand → List Telling → Type 0
UnderWay i sent told = (list_any (stands_at i) sent ≡ true) ⊎ (list_any (completes i) told ≡ true)

-- an order that waits, or a completion that is told, of the errand
order_waits : (i : ℕ) (b : Option SentErrand) (o : Errand) (sent : List SentErrand) → index_of b ≡ i → sent ≡ orders_sent b (o ∷ []) → list_any (stands_at i) sent ≡ true
order_waits i b o sent is e = ap (list_any (stands_at i)) e ∙ or_left (index_of b == i) false (eq-eqb (index_of b) i is)

end_told : (i : ℕ) (index code : ℕ) (told front : List Telling) → index ≡ i → told ≡ front ++ Completion index code ∷ [] → list_any (completes i) told ≡ true
end_told i index code told front is e =
    ap (list_any (completes i)) e ∙ (list_any-append (completes i) front (Completion index code ∷ []) ∙ or_right (list_any (completes i) front) _ (or_left (index == i) false (eq-eqb index i is)))

-- an errand that is under way has its order in the command ring, or its completion in the event ring
by_phase : (s : EndpointState) (er : Option Errand) (os : List Errand) (es tail : List Event) (o : Errand) (b : Option SentErrand) (i : ℕ) (sent : List SentErrand) (told front pause : List Telling) → er ≡ Some o → index_of b ≡ i → IsPhase s er os es tail
    → sent ≡ orders_sent b os → ((x : Errand) (ok : Bool) → tail ≡ Settled x ok ∷ [] → told ≡ front ++ Completion (index_of b) (code_of ok) ∷ [])
    → ((x : Errand) (ok : Bool) (n : ℕ) → tail ≡ Paused n ∷ Settled x ok ∷ [] → told ≡ (front ++ pause) ++ Completion (index_of b) (code_of ok) ∷ []) → UnderWay i sent told
by_phase s er os es tail o b i sent told front pause is at (runs g) q one two = absurd cc
by_phase s er os es tail o b i sent told front pause is at (ended g) q one two = absurd cc
by_phase s er os es tail o b i sent told front pause is at (stop_waits g) q one two = inl (order_waits i b errand.Stop sent at q)
by_phase s er os es tail o b i sent told front pause is at (stop_waits_halted g) q one two = inl (order_waits i b errand.Stop sent at q)
by_phase s er os es tail o b i sent told front pause is at (stop_ran g) q one two = inr (end_told i (index_of b) _ told front at (one errand.Stop true refl))
by_phase s er os es tail o b i sent told front pause is at (stop_ran_paused {n = n} g) q one two = inr (end_told i (index_of b) _ told (front ++ pause) at (two errand.Stop true n refl))
by_phase s er os es tail o b i sent told front pause is at (stop_failed g) q one two = inr (end_told i (index_of b) _ told front at (one errand.Stop false refl))
by_phase s er os es tail o b i sent told front pause is at reset_waits q one two = inl (order_waits i b errand.Reset sent at q)
by_phase s er os es tail o b i sent told front pause is at reset_ran q one two = inr (end_told i (index_of b) _ told front at (one errand.Reset true refl))
by_phase s er os es tail o b i sent told front pause is at move_waits q one two = inl (order_waits i b errand.Move sent at q)
by_phase s er os es tail o b i sent told front pause is at move_ran q one two = inr (end_told i (index_of b) _ told front at (one errand.Move true refl))

pub is_under_way : (size : ℕ) (e : Endpoint) (os : List Errand) (ns : List Event) (b : KeptEndpoint) (sent : List SentErrand) (told : List Telling) (x : SentErrand) → IsCoherent e os ns → ShowsEnd size e os ns b sent told → b.errand ≡ Some x → UnderWay x.index sent told
is_under_way size e os ns b sent told x c s is =
    by_phase e.state e.errand os (served_events e.line) c.tail x.errand b.errand x.index sent told (told_of size e.line b.line) (pause_told size e.line b.line) (sym s.errand ∙ ap (option_map (λ s. s.errand)) is) (ap index_of is) c.phase s.sent_is
    (λ o ok t. s.told_is ∙ ap (λ l. told_of size e.line b.line ++ tail_told size e.line b.line b.errand l) (same_tail e.line ns s.tail c.tail s.news c.news ∙ t))
    (λ o ok n t. s.told_is ∙ (ap (λ l. told_of size e.line b.line ++ tail_told size e.line b.line b.errand l) (same_tail e.line ns s.tail c.tail s.news c.news ∙ t)
    ∙ sym (append_assoc (told_of size e.line b.line) (pause_told size e.line b.line) (Completion (index_of b.errand) (code_of ok) ∷ []))))

-- what is under way at an endpoint is under way
pub order_in : (i d e : ℕ) (xs : List (At SentErrand)) → list_any (stands_at i) (at d e xs) ≡ true → list_any (λ j. j == i) (map (λ (o : RingOrder). o.place) (map ring_order xs)) ≡ true
order_in i d e [] q = absurd cc
order_in i d e (x ∷ xs) q = by_test (here d e x) q (order_in i d e xs)
  where
    rest : Bool
    rest = list_any (λ j. j == i) (map (λ (o : RingOrder). o.place) (map ring_order xs))

    by_head : (b : Bool) → (x.what.index == i) ≡ b → (b || list_any (stands_at i) (at d e xs)) ≡ true → (list_any (stands_at i) (at d e xs) ≡ true → rest ≡ true) → ((x.what.index == i) || rest) ≡ true
    by_head true is p more = or_left (x.what.index == i) rest is
    by_head false is p more = or_right (x.what.index == i) rest (more p)

    by_test : (t : Bool) → list_any (stands_at i) (map (λ y. y.what) (if t then x ∷ filter (here d e) xs else filter (here d e) xs)) ≡ true → (list_any (stands_at i) (at d e xs) ≡ true → rest ≡ true) → ((x.what.index == i) || rest) ≡ true
    by_test true p more = by_head (x.what.index == i) refl p more
    by_test false p more = or_right (x.what.index == i) rest (more p)

-- a telling's order, if it is a completion
completed_any : (i dev ep : ℕ) (t : Telling) → completes i t ≡ true → list_any (λ j. j == i) (completed (event_at dev ep t)) ≡ true
completed_any i dev ep (Transfer place residual code) q = absurd cc
completed_any i dev ep (Completion index code) q = or_left (index == i) false q

pub news_in : (i d e : ℕ) (xs : List (At Report)) → list_any (completes i) (tellings (at d e xs)) ≡ true → list_any (λ j. j == i) (flat_map completed (map ring_event xs)) ≡ true
news_in i d e [] q = absurd cc
news_in i d e (x ∷ xs) q = list_any-append (λ j. j == i) (completed (ring_event x)) (flat_map completed (map ring_event xs)) ∙ by_test (here d e x) q (news_in i d e xs)
  where
    head : Bool
    head = list_any (λ j. j == i) (completed (ring_event x))

    rest : Bool
    rest = list_any (λ j. j == i) (flat_map completed (map ring_event xs))

    by_head : (b : Bool) → completes i x.what.telling ≡ b → (b || list_any (completes i) (tellings (at d e xs))) ≡ true → (list_any (completes i) (tellings (at d e xs)) ≡ true → rest ≡ true) → (head || rest) ≡ true
    by_head true is p more = or_left head rest (completed_any i x.dev x.ep x.what.telling is)
    by_head false is p more = or_right head rest (more p)

    by_test : (t : Bool) → list_any (completes i) (tellings (map (λ y. y.what) (if t then x ∷ filter (here d e) xs else filter (here d e) xs))) ≡ true → (list_any (completes i) (tellings (at d e xs)) ≡ true → rest ≡ true) → (head || rest) ≡ true
    by_test true p more = by_head (completes i x.what.telling) refl p more
    by_test false p more = or_right head rest (more p)

-- each place of a run is at its first or later
pub run_later : (first next i : ℕ) (is : List ℕ) → InRun first is next → list_any (λ j. j == i) is ≡ true → first ≤ i
run_later first next i [] r q = absurd cc
run_later first next i (j ∷ is) r q = by_head (j == i) refl q (run_later (suc first) next i is r.1)
  where
    by_head : (b : Bool) → (j == i) ≡ b → (b || list_any (λ j. j == i) is) ≡ true → (list_any (λ j. j == i) is ≡ true → suc first ≤ i) → first ≤ i
    by_head true is_i p more = omega (arith, r.0, eqb-true j i is_i)
    by_head false other p more = omega (arith, more p)

-- the first event is a completion: any endpoint of its device that waits for it is the event's
only_one : (setup : Setup) (w : World) (c : Core) (s : Shows setup w c) → IsFine setup → (x : At Report) (xs : List (At Report)) (index code : ℕ) → s.news ≡ x ∷ xs → x.what.telling ≡ Completion index code
    → (g d e : ℕ) (y : SentErrand) → holder setup w.claims d e ≡ Some g → (c.endpoints d e).errand ≡ Some y → y.index ≡ index → here d e x ≡ true
only_one setup w c s fine x xs index code is tells g d e y holds errand same = by_test (here d e x) refl (is_under_way _ (w.endpoints d e) _ _ (c.endpoints d e) _ _ y (known setup w c s fine g d e holds).fit.coherent (s.endpoints g d e holds) errand)
  where
    run : InRun s.first (index ∷ (flat_map completed (map ring_event xs) ++ map (λ (o : RingOrder). o.place) (map ring_order s.orders))) c.posted
    run = subst (λ l. InRun s.first (completed (event_at x.dev x.ep l) ++ (flat_map completed (map ring_event xs) ++ map (λ (o : RingOrder). o.place) (map ring_order s.orders))) c.posted) tells
        (subst (λ l. InRun s.first l c.posted) (ap₂ under_way (s.news_kept ∙ ap (map ring_event) is) s.orders_kept ∙ append_assoc (completed (ring_event x)) (flat_map completed (map ring_event xs)) (map (λ (o : RingOrder). o.place) (map ring_order s.orders))) s.in_run)

    later : list_any (λ j. j == index) (flat_map completed (map ring_event xs) ++ map (λ (o : RingOrder). o.place) (map ring_order s.orders)) ≡ true → suc s.first ≤ index
    later q = run_later (suc s.first) c.posted index _ run.1 q

    both : Bool → Bool → Bool
    both a b = a || b

    split : list_any (λ j. j == index) (flat_map completed (map ring_event xs) ++ map (λ (o : RingOrder). o.place) (map ring_order s.orders)) ≡ both (list_any (λ j. j == index) (flat_map completed (map ring_event xs))) (list_any (λ j. j == index) (map (λ (o : RingOrder). o.place) (map ring_order s.orders)))
    split = list_any-append (λ j. j == index) (flat_map completed (map ring_event xs)) (map (λ (o : RingOrder). o.place) (map ring_order s.orders))

    by_test : (t : Bool) → here d e x ≡ t → UnderWay y.index (at d e s.orders) (tellings (at d e s.news)) → here d e x ≡ true
    by_test true q u = q
    by_test false q (inl u) = absurd (omega (arith, run.0, later (split ∙ or_right _ _ (order_in index d e s.orders (subst (λ k. list_any (stands_at k) (at d e s.orders) ≡ true) same u)))))
    by_test false q (inr u) =
        let gone : at d e s.news ≡ at d e xs = ap (at d e) is ∙ rw q refl in
        absurd (omega (arith, run.0, later (split ∙ or_left _ _ (news_in index d e xs (subst (λ l. list_any (completes index) (tellings l) ≡ true) gone (subst (λ k. list_any (completes k) (tellings (at d e s.news)) ≡ true) same u))))))

-- the one element of a list that passes a test is found
finds_one : (test : EndpointInfo → Bool) (ep : ℕ) (xs : List EndpointInfo) (i : EndpointInfo) → ((x : EndpointInfo) → test x ≡ true → x.address ≡ ep) → ((x : EndpointInfo) → x.address ≡ ep → test x ≡ true) → find (λ x. x.address == ep) xs ≡ Some i
    → option_map (λ x. x.address) (find test xs) ≡ Some ep
finds_one test ep [] i only passes q = absurd cc
finds_one test ep (x ∷ xs) i only passes q = by_test (test x) refl (x.address == ep) refl q (finds_one test ep xs i only passes)
  where
    by_test : (t : Bool) → test x ≡ t → (a : Bool) → (x.address == ep) ≡ a → (if a then Some x else find (λ y. y.address == ep) xs) ≡ Some i
        → (find (λ y. y.address == ep) xs ≡ Some i → option_map (λ y. y.address) (find test xs) ≡ Some ep) → option_map (λ y. y.address) (if t then Some x else find test xs) ≡ Some ep
    by_test true is a at_ep p rest = ap (λ k. Some k) (only x is)
    by_test false is true at_ep p rest = absurd (cc (is, passes x (eqb-true x.address ep at_ep)))
    by_test false is false at_ep p rest = rest p

-- an endpoint that is held is one of its device's
pub info_there : (o : Option EndpointInfo) (i : ℕ) → option_map (λ x. x.interface) o ≡ Some i → (x : EndpointInfo) × (o ≡ Some x)
info_there None i e = absurd cc
info_there (Some x) i e = (x, refl)

pub interface_there : (o : Option ℕ) (claims : ℕ → Option ℕ) (h : ℕ) → option_and_then claims o ≡ Some h → (i : ℕ) × (o ≡ Some i)
interface_there None claims h e = absurd cc
interface_there (Some i) claims h e = (i, refl)

-- whose errand has this order
sent_by : (index : ℕ) (o : Option SentErrand) → is_sent index o ≡ true → (y : SentErrand) × (o ≡ Some y) × (y.index ≡ index)
sent_by index None q = absurd cc
sent_by index (Some y) q = (y, refl, eqb-true y.index index q)

held_by : (o : Option ℕ) → is_some o ≡ true → (g : ℕ) × (o ≡ Some g)
held_by None q = absurd cc
held_by (Some g) q = (g, refl)

-- a completion that comes first is found to be its endpoint's
pub sender_is : (setup : Setup) (w : World) (c : Core) (s : Shows setup w c) → IsFine setup → (x : At Report) (xs : List (At Report)) (index code : ℕ) (y : SentErrand) → s.news ≡ x ∷ xs → x.what.telling ≡ Completion index code
    → holder setup w.claims x.dev x.ep ≡ Some x.name → (c.endpoints x.dev x.ep).errand ≡ Some y → y.index ≡ index → sender setup c x.dev index ≡ Some x.ep
unfolding info_of
sender_is setup w c s fine x xs index code y is tells holds errand same =
    let i = interface_there (interface_of setup x.dev x.ep) (λ i. w.claims x.dev i) x.name holds in
    let info = info_there (info_of setup x.dev x.ep) i.0 i.1 in
    finds_one (has_sent setup c x.dev index) x.ep (endpoints_of setup x.dev) info.0 only passes info.1
  where
    holder_same : (d e : ℕ) → holder setup c.claims d e ≡ holder setup w.claims d e
    holder_same d e = ap (λ claims. holder setup claims d e) s.claims

    only : (z : EndpointInfo) → has_sent setup c x.dev index z ≡ true → z.address ≡ x.ep
    only z q =
        let p = and_parts (is_some (holder setup c.claims x.dev z.address)) (is_sent index (c.endpoints x.dev z.address).errand) q in
        let g = held_by (holder setup c.claims x.dev z.address) p.0 in
        let m = sent_by index (c.endpoints x.dev z.address).errand p.1 in
        sym (is_here x.dev z.address x (only_one setup w c s fine x xs index code is tells g.0 x.dev z.address m.0 (sym (holder_same x.dev z.address) ∙ g.1) m.1 m.2)).1

    passes : (z : EndpointInfo) → z.address ≡ x.ep → has_sent setup c x.dev index z ≡ true
    passes z at_ep =
        subst (λ k. (is_some (holder setup c.claims x.dev k) && is_sent index (c.endpoints x.dev k).errand) ≡ true) (sym at_ep)
        (ap₂ (λ a b. a && b) (ap is_some (holder_same x.dev x.ep ∙ holds)) (ap (is_sent index) errand ∙ eq-eqb y.index index same))
