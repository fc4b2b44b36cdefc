-- Each endpoint that there is has at most one order or completion under way, so there are no more of these than endpoints.
use Rattle.std.proofs.Common.{Bool, List, None, Option, Some, [], ap, arith, false, length, length-append, map, not, refl, suc, true, ℕ, ◌+◌, ◌++◌, ◌≤◌, ◌∷◌, ◌≡◌}
use Rattle.std.specs.Prelude.{if◌then◌else◌}
use Rattle.std.specs.List.{filter, flat_map}
use Rattle.std.proofs.lemmas.List.{length-map}
use Rattle.usb_model.specs.Coherence.{IsCoherent, IsPhase, ended, move_ran, move_waits, reset_ran, reset_waits, runs, served_events, stop_failed, stop_ran, stop_ran_paused, stop_waits, stop_waits_halted}
use Rattle.usb_model.specs.Endpoint.{is_waiting}
use Rattle.usb_model.specs.Setup.{Setup, packet_size_of}
use Rattle.usb_model.specs.World.{World, holder}
use Rattle.usb_model.specs.declared.endpoint.Endpoint.{Endpoint}
use Rattle.usb_model.specs.declared.endpoint.EndpointState.{EndpointState}
use Rattle.usb_model.specs.declared.errand.Errand.TheVariants as errand
use Rattle.usb_model.specs.declared.errand.Errand.{Errand}
use Rattle.usb_model.specs.declared.item.Item.{Item}
use Rattle.usb_model.specs.declared.item.ItemState.TheVariants.{Blank, Served, Waiting}
use Rattle.usb_model.specs.declared.item.ItemState.{ItemState}
use Rattle.usb_model.specs.declared.news.Event.TheVariants.{Settled}
use Rattle.usb_model.specs.declared.news.Event.{Event}
use Rattle.usb_model.specs.Kept.{Completion, KeptEndpoint, KeptTransfer, SentErrand, Telling, Transfer}
use Rattle.refine_world.specs.Lively.{IsFine, ends_of}
use Rattle.refine_world.specs.ShownEndpoint.{ShowsEnd, orders_sent, pause_told, tail_told, telling_of, told_by, told_of}
use Rattle.refine_world.specs.Shows.{At, Core, Report, RingOrder, Shows, at, completed, event_at, here, ring_event, ring_order, tellings, under_way}
use Rattle.refine_world.proofs.Bounds.{Keyed, held_keyed, keyed_left}
use Rattle.refine_world.proofs.Budget.{fewer, split_length}
use Rattle.refine_world.proofs.Finished.{same_tail}
use Rattle.refine_world.proofs.Links.{known}
use Rattle.refine_world.proofs.StepsWithoutWork.{none_there}

-- whether a telling is a completion
abbrev is_end : Telling → Bool
is_end (Transfer place residual code) = false
is_end (Completion index code) = true

-- whether an event is one
abbrev tells_end : At Report → Bool
tells_end x = is_end x.what.telling

-- so many completions
abbrev count_ends : List Telling → ℕ
count_ends ts = length (filter is_end ts)

-- of two lists as many as of both
count_append : (ts us : List Telling) → count_ends (ts ++ us) ≡ count_ends ts + count_ends us
count_append [] us = omega arith
count_append (t ∷ ts) us = by_test (is_end t) (count_append ts us)
  where
    by_test : (b : Bool) → count_ends (ts ++ us) ≡ count_ends ts + count_ends us → length (if b then t ∷ filter is_end (ts ++ us) else filter is_end (ts ++ us)) ≡ length (if b then t ∷ filter is_end ts else filter is_end ts) + count_ends us
    by_test true e = omega (arith, e)
    by_test false e = e

-- an end of a transfer is none of them
no_end_told : (size : ℕ) (xs : List Item) (ys : List KeptTransfer) → count_ends (told_of size xs ys) ≡ 0
unfolding told_of
no_end_told size [] ys = refl
no_end_told size (x ∷ xs) [] = refl
no_end_told size (x ∷ xs) (y ∷ ys) = by_state x.state (no_end_told size xs ys)
  where
    by_state : (s : ItemState) → count_ends (told_of size xs ys) ≡ 0 → count_ends (told_by size x y s (told_of size xs ys)) ≡ 0
    by_state Waiting e = e
    by_state (Served code) e = e
    by_state Blank e = e

-- nor is a pause
no_end_paused : (size : ℕ) (xs : List Item) (ys : List KeptTransfer) → count_ends (pause_told size xs ys) ≡ 0
unfolding pause_told
no_end_paused size [] ys = refl
no_end_paused size (x ∷ xs) [] = refl
no_end_paused size (x ∷ xs) (y ∷ ys) = by_test (is_waiting x) (no_end_paused size xs ys)
  where
    by_test : (b : Bool) → count_ends (pause_told size xs ys) ≡ 0 → count_ends (if b then telling_of size x y 26 ∷ [] else pause_told size xs ys) ≡ 0
    by_test true e = refl
    by_test false e = e

-- by its phase an endpoint has one order or one completion
one_by_phase : (size : ℕ) (xs : List Item) (ys : List KeptTransfer) (b : Option SentErrand) (s : EndpointState) (er : Option Errand) (os : List Errand) (es tail : List Event) → IsPhase s er os es tail → count_ends (tail_told size xs ys b tail) + length (orders_sent b os) ≤ 1
one_by_phase size xs ys b s er os es tail (runs g) = omega arith
one_by_phase size xs ys b s er os es tail (ended g) = omega arith
one_by_phase size xs ys b s er os es tail (stop_waits g) = omega arith
one_by_phase size xs ys b s er os es tail (stop_waits_halted g) = omega arith
one_by_phase size xs ys b s er os es tail (stop_ran g) = omega arith
one_by_phase size xs ys b s er os es tail (stop_ran_paused g) = omega (arith, count_append (pause_told size xs ys) (tail_told size xs ys b (Settled errand.Stop true ∷ [])), no_end_paused size xs ys)
one_by_phase size xs ys b s er os es tail (stop_failed g) = omega arith
one_by_phase size xs ys b s er os es tail reset_waits = omega arith
one_by_phase size xs ys b s er os es tail reset_ran = omega arith
one_by_phase size xs ys b s er os es tail move_waits = omega arith
one_by_phase size xs ys b s er os es tail move_ran = omega arith

-- what is told of it, and what waits
one_under_way : (size : ℕ) (e : Endpoint) (os : List Errand) (ns : List Event) (b : KeptEndpoint) (sent : List SentErrand) (told : List Telling) → IsCoherent e os ns → ShowsEnd size e os ns b sent told → count_ends told + length sent ≤ 1
one_under_way size e os ns b sent told c s =
    omega (
      arith,
      ap count_ends s.told_is,
      ap length s.sent_is,
      count_append (told_of size e.line b.line) (tail_told size e.line b.line b.errand s.tail),
      no_end_told size e.line b.line,
      ap (λ l. count_ends (tail_told size e.line b.line b.errand l)) (same_tail e.line ns s.tail c.tail s.news c.news),
      one_by_phase size e.line b.line b.errand e.state e.errand os (served_events e.line) c.tail c.phase,
    )

-- the completions at an endpoint
ends_here : (d e : ℕ) (xs : List (At Report)) → length (filter (here d e) (filter tells_end xs)) ≡ count_ends (tellings (at d e xs))
ends_here d e [] = refl
ends_here d e (x ∷ xs) = by_tests (here d e x) refl (tells_end x) refl (ends_here d e xs)
  where
    by_tests : (t : Bool) → here d e x ≡ t → (u : Bool) → tells_end x ≡ u → length (filter (here d e) (filter tells_end xs)) ≡ count_ends (tellings (at d e xs))
        → length (filter (here d e) (if u then x ∷ filter tells_end xs else filter tells_end xs)) ≡ count_ends (tellings (map (λ y. y.what) (if t then x ∷ filter (here d e) xs else filter (here d e) xs)))
    by_tests true is true ends q = rw (is, ends) (ap suc q)
    by_tests false is true ends q = rw is q
    by_tests true is false ends q = rw ends q
    by_tests false is false ends q = q

-- and all of them
all_ends : (xs : List (At Report)) → length (flat_map completed (map ring_event xs)) ≡ length (filter tells_end xs)
all_ends [] = refl
all_ends (x ∷ xs) = by_telling x.what.telling (all_ends xs)
  where
    by_telling : (t : Telling) → length (flat_map completed (map ring_event xs)) ≡ length (filter tells_end xs)
        → length (completed (event_at x.dev x.ep t) ++ flat_map completed (map ring_event xs)) ≡ length (if is_end t then x ∷ filter tells_end xs else filter tells_end xs)
    by_telling (Transfer place residual code) e = e
    by_telling (Completion index code) e = ap suc e

-- what is left out needs no key
keyed_fewer : {A K : Type 0} (test : K → A → Bool) (other : A → Bool) (ks : List K) (xs : List A) → Keyed test ks xs → Keyed test ks (filter other xs)
keyed_fewer test other ks [] a = tt
keyed_fewer test other ks (x ∷ xs) a = by_test (other x) (keyed_fewer test other ks xs a.1)
  where
    by_test : (b : Bool) → Keyed test ks (filter other xs) → Keyed test ks (if b then x ∷ filter other xs else filter other xs)
    by_test true rest = (a.0, rest)
    by_test false rest = rest

-- one of either at each key: no more in all than keys
one_each : {A B K : Type 0} (p : K → A → Bool) (q : K → B → Bool) (ks : List K) (xs : List A) (ys : List B) → Keyed p ks xs → Keyed q ks ys → ((k : K) → length (filter (p k) xs) + length (filter (q k) ys) ≤ 1) → length xs + length ys ≤ length ks
one_each p q [] [] [] a b one = omega arith
one_each p q [] (x ∷ xs) ys a b one = absurd cc
one_each p q [] [] (y ∷ ys) a b one = absurd cc
one_each p q (k ∷ ks) xs ys a b one =
    let rest = one_each p q ks (filter (λ x. not (p k x)) xs) (filter (λ y. not (q k y)) ys) (keyed_left p k ks xs a) (keyed_left q k ks ys b)
    (λ j. omega (arith, fewer (p j) (λ x. not (p k x)) xs, fewer (q j) (λ y. not (q k y)) ys, one j)) in
    omega (arith, split_length (p k) xs, split_length (q k) ys, one k, rest)

-- at each endpoint, held or not
one_at : (setup : Setup) (w : World) (c : Core) (s : Shows setup w c) → IsFine setup → (d e : ℕ) → length (filter (here d e) (filter tells_end s.news)) + length (filter (here d e) s.orders) ≤ 1
one_at setup w c s fine d e = by_holder (holder setup w.claims d e) refl
  where
    by_holder : (o : Option ℕ) → holder setup w.claims d e ≡ o → length (filter (here d e) (filter tells_end s.news)) + length (filter (here d e) s.orders) ≤ 1
    by_holder None none =
        omega (
          arith,
          ends_here d e s.news,
          ap (λ l. count_ends (tellings l)) (none_there setup w.claims d e s.news s.news_held none),
          length-map (filter (here d e) s.orders) (λ x. x.what),
          ap length (none_there setup w.claims d e s.orders s.orders_held none),
        )
    by_holder (Some h) holds =
        let one = one_under_way (packet_size_of setup d e) (w.endpoints d e) _ _ (c.endpoints d e) _ _ (known setup w c s fine h d e holds).fit.coherent (s.endpoints h d e holds) in
        omega (arith, ends_here d e s.news, length-map (filter (here d e) s.orders) (λ x. x.what), one)

-- in a core that shows a world
pub few_under_way : (setup : Setup) (w : World) (c : Core) → Shows setup w c → IsFine setup → length (under_way c.events c.orders) ≤ length (ends_of setup)
few_under_way setup w c s fine =
    let each : length (filter tells_end s.news) + length s.orders ≤ length (ends_of setup) =
    one_each (λ (k : ℕ × ℕ) (x : At Report). here k.0 k.1 x) (λ (k : ℕ × ℕ) (x : At SentErrand). here k.0 k.1 x) (ends_of setup) (filter tells_end s.news) s.orders
    (keyed_fewer (λ (k : ℕ × ℕ) (x : At Report). here k.0 k.1 x) tells_end (ends_of setup) s.news (held_keyed setup w.claims s.news s.news_held)) (held_keyed setup w.claims s.orders s.orders_held)
    (λ k. one_at setup w c s fine k.0 k.1) in
    omega (
      arith,
      length-append (flat_map completed c.events) (map (λ (o : RingOrder). o.place) c.orders),
      ap (λ l. length (flat_map completed l)) s.news_kept,
      all_ends s.news,
      length-map c.orders (λ (o : RingOrder). o.place),
      ap length s.orders_kept,
      length-map s.orders ring_order,
      each,
    )
