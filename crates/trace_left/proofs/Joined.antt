-- What was gathered of a world, put together, is what its handles left behind.
use Rattle.std.proofs.Common.{◌≡◌, ℕ, zero, suc, ◌==◌, ◌≤◌, Bool, true, false, List, [], ◌∷◌, ◌++◌, length, Option, Some, None, ap, ap₂, append_assoc, map, refl, subst, sym, ◌∙◌}
use Rattle.std.specs.Prelude.{◌||◌, option_map, slice_get}
use Rattle.std.specs.List.{filter, flat_map, list_any}
use Rattle.std.specs.Option.{option_and_then, option_map_or}
use Rattle.std.proofs.lemmas.Bool.{eqb-true}
use Rattle.std.proofs.lemmas.List.{flat_map_more, map-append}
use Rattle.std.proofs.lemmas.List.Elements.{filter-append}
use Rattle.std.proofs.lemmas.List.Folds.{list_any-append}
use Rattle.usb_model.specs.declared.endpoint.Endpoint.{Endpoint}
use Rattle.usb_model.specs.declared.setup.DeviceSetup.{DeviceSetup}
use Rattle.usb_model.specs.declared.setup.EndpointInfo.{EndpointInfo}
use Rattle.usb_model.specs.declared.shared.Tagged.{Tagged}
use Rattle.usb_model.specs.Coherence.{served_events}
use Rattle.usb_model.specs.Fitness.{IsFit, errands_of, events_of}
use Rattle.usb_model.specs.Machine.{Machine, endpoint_at}
use Rattle.usb_model.specs.Laws.Places.{numbers_at}
use Rattle.usb_model.specs.Laws.Cut.{times}
use Rattle.usb_model.specs.Setup.{Setup, endpoints_of, interfaces_of}
use Rattle.usb_model.specs.World.{World, is_its, machine_of, machine_with, own_endpoint}
use Rattle.usb_model.specs.World.Shared.{pieces_of}
use Rattle.usb_core.specs.Public.{halted}
use Rattle.trace_left.specs.declared.left.Left.{Left}
use Rattle.trace_left.specs.declared.left.Left.TheVariants.{At, Held, Open}
use Rattle.trace_left.specs.Gathered.{all_waiting, by_events, configured_read, device_read, end_read, event_of, handle_read, handles_read, held_read, is_end_of, is_of, joined, line_read, order_of, result_of}
use Rattle.trace_left.specs.Left.{answers_left, at_device, at_endpoint, event_left, halt_left, left_below, left_by, order_left, result_left, transfers_left}
use Rattle.proof_model.proofs.Machines.Well.{fit_at}
use Rattle.trace_left.proofs.Events.{each_told, is_finished, line_by_events, no_order_tells, no_result_tells, only_served, stands_once, told_there}
use Rattle.trace_left.proofs.Turns.{IsReached, well_at}

-- a handle's things among those of all are of its pieces
own_pieces : {A : Type 0} (f : ℕ → A → Left) → ((g h : ℕ) (a : A) → is_of h (f g a) ≡ (g == h)) → (h : ℕ) (xs : List (Tagged A)) → filter (is_of h) (map (λ x. f x.name x.piece) xs) ≡ map (f h) (pieces_of h xs)
own_pieces f each h [] = refl
own_pieces f each h (x ∷ xs) = by_test (own_pieces f each h xs) (x.name == h) refl
  where
    by_test : filter (is_of h) (map (λ y. f y.name y.piece) xs) ≡ map (f h) (pieces_of h xs) → (b : Bool) → (x.name == h) ≡ b → filter (is_of h) (map (λ y. f y.name y.piece) (x ∷ xs)) ≡ map (f h) (pieces_of h (x ∷ xs))
    by_test rest true is = rw (each x.name h x.piece, is) (ap₂ (λ n l. f n x.piece ∷ l) (eqb-true x.name h is) rest)
    by_test rest false is = rw (each x.name h x.piece, is) rest

-- what waits of a handle
abbrev own_of : World → ℕ → List Left
own_of w h = map (order_left h) (pieces_of h w.orders) ++ (map (event_left h) (pieces_of h w.news) ++ map (result_left h) (pieces_of h w.results))

own_is : (w : World) (h : ℕ) → filter (is_of h) (all_waiting w) ≡ own_of w h
own_is w h =
    filter-append (is_of h) (map order_of w.orders) (map event_of w.news ++ map result_of w.results)
    ∙ ap₂ (λ a b. a ++ b) (own_pieces order_left (λ g k x. refl) h w.orders)
    (filter-append (is_of h) (map event_of w.news) (map result_of w.results) ∙ ap₂ (λ a b. a ++ b) (own_pieces event_left (λ g k x. refl) h w.news) (own_pieces result_left (λ g k x. refl) h w.results))

-- it tells the ends that the handle's events do
own_tells : (w : World) (h ep n : ℕ) → list_any (is_end_of ep n) (own_of w h) ≡ list_any (is_finished n) (events_of ep (pieces_of h w.news))
own_tells w h ep n =
    let orders = map (order_left h) (pieces_of h w.orders) in
    let events = map (event_left h) (pieces_of h w.news) in
    let results = map (result_left h) (pieces_of h w.results) in
    list_any-append (is_end_of ep n) orders (events ++ results)
    ∙ (ap₂ (λ a b. a || b) (no_order_tells h ep n (pieces_of h w.orders)) (list_any-append (is_end_of ep n) events results)
    ∙ (ap₂ (λ a b. a || b) (told_there h ep n (pieces_of h w.news)) (no_result_tells h ep n (pieces_of h w.results)) ∙ or_false (list_any (is_finished n) (events_of ep (pieces_of h w.news)))))
  where
    or_false : (b : Bool) → (b || false) ≡ b
    or_false true = refl
    or_false false = refl

-- a halt and answers are as they were read
halt_by_events : (own : List Left) (h ep : ℕ) (b : Bool) → map (by_events own) (halt_left h ep b) ≡ halt_left h ep b
halt_by_events own h ep true = refl
halt_by_events own h ep false = refl

answers_by_events : (own : List Left) (h ep answers : ℕ) → map (by_events own) (answers_left h ep answers) ≡ answers_left h ep answers
answers_by_events own h ep answers = by_test (answers == 0) refl
  where
    by_test : (b : Bool) → (answers == 0) ≡ b → map (by_events own) (answers_left h ep answers) ≡ answers_left h ep answers
    by_test true is = rw is refl
    by_test false is = rw is refl

-- an endpoint, by what waits of the handle
end_by_events : (setup : Setup) (w : World) (h dev ep : ℕ) → IsReached setup w → (w.names h).device ≡ Some dev → map (by_events (own_of w h)) (end_read h ep (own_endpoint setup h w dev ep)) ≡ at_endpoint h ep (own_endpoint setup h w dev ep)
unfolding machine_of
end_by_events setup w h dev ep reached opened = by_end (own_endpoint setup h w dev ep) refl
  where
    m : Machine
    m = machine_of setup h w

    by_end : (o : Option Endpoint) → own_endpoint setup h w dev ep ≡ o → map (by_events (own_of w h)) (end_read h ep o) ≡ at_endpoint h ep o
    by_end None none = refl
    by_end (Some e) there =
        let here : endpoint_at m ep ≡ Some e = ap (option_and_then (λ d. m.endpoints d ep)) opened ∙ there in
        let fit : IsFit e (errands_of ep m.orders) (events_of ep m.news) = fit_at setup m ep e (well_at setup w h reached) here in
        let told = each_told e.line fit.coherent.in_order (λ n. subst (λ o. times n (numbers_at o) ≤ 1) here (stands_once setup w h ep n reached)) in
        let line = line_by_events (own_of w h) h ep (λ n. list_any (is_finished n) (served_events e.line)) e.line (λ n. own_tells w h ep n ∙ only_served n e.line e.state e.errand _ _ fit.coherent) told in
        map-append (by_events (own_of w h)) (line_read h ep e.line) (halt_left h ep (halted e) ++ answers_left h ep (length e.script_left))
        ∙ ap₂ (λ a b. a ++ b) line (map-append (by_events (own_of w h)) (halt_left h ep (halted e)) (answers_left h ep (length e.script_left))
        ∙ ap₂ (λ a b. a ++ b) (halt_by_events (own_of w h) h ep (halted e)) (answers_by_events (own_of w h) h ep (length e.script_left)))

-- the interfaces that a handle holds
held_by_events : (own : List Left) (h : ℕ) (claims : ℕ → Option ℕ) (is : List ℕ) → map (by_events own) (flat_map (λ i. held_read h i (claims i)) is) ≡ map (Held h) (filter (λ i. is_its h (claims i)) is)
held_by_events own h claims [] = refl
held_by_events own h claims (i ∷ is) = by_test (held_by_events own h claims is) (is_its h (claims i)) refl
  where
    by_test : map (by_events own) (flat_map (λ j. held_read h j (claims j)) is) ≡ map (Held h) (filter (λ j. is_its h (claims j)) is) → (b : Bool) → is_its h (claims i) ≡ b
        → map (by_events own) (flat_map (λ j. held_read h j (claims j)) (i ∷ is)) ≡ map (Held h) (filter (λ j. is_its h (claims j)) (i ∷ is))
    by_test rest true held = rw held (ap (λ l. Held h i ∷ l) rest)
    by_test rest false held = rw held rest

-- all endpoints of a device
ends_by_events : (setup : Setup) (w : World) (h dev : ℕ) → IsReached setup w → (w.names h).device ≡ Some dev → (infos : List EndpointInfo)
    → map (by_events (own_of w h)) (flat_map (λ x. end_read h x.address (own_endpoint setup h w dev x.address)) infos) ≡ flat_map (λ x. at_endpoint h x.address (own_endpoint setup h w dev x.address)) infos
ends_by_events setup w h dev reached opened [] = refl
ends_by_events setup w h dev reached opened (x ∷ xs) =
    map-append (by_events (own_of w h)) (end_read h x.address (own_endpoint setup h w dev x.address)) (flat_map (λ y. end_read h y.address (own_endpoint setup h w dev y.address)) xs)
    ∙ ap₂ (λ a b. a ++ b) (end_by_events setup w h dev x.address reached opened) (ends_by_events setup w h dev reached opened xs)

-- what it has of the device's configuration
configured_by_events : (setup : Setup) (w : World) (h dev : ℕ) → IsReached setup w → (w.names h).device ≡ Some dev → map (by_events (own_of w h)) (configured_read setup w h dev (option_map (λ x. x.config) (slice_get setup dev)))
    ≡ map (Held h) (filter (λ i. is_its h (w.claims dev i)) (interfaces_of setup dev)) ++ flat_map (λ x. at_endpoint h x.address (own_endpoint setup h w dev x.address)) (endpoints_of setup dev)
configured_by_events setup w h dev reached opened = by_config (slice_get setup dev)
  where
    by_config : (o : Option DeviceSetup) → map (by_events (own_of w h)) (configured_read setup w h dev (option_map (λ x. x.config) o))
        ≡ map (Held h) (filter (λ i. is_its h (w.claims dev i)) (option_map_or (λ d. d.config.interfaces) o [])) ++ flat_map (λ x. at_endpoint h x.address (own_endpoint setup h w dev x.address)) (option_map_or (λ d. d.config.endpoints) o [])
    by_config None = refl
    by_config (Some d) =
        map-append (by_events (own_of w h)) (flat_map (λ i. held_read h i (w.claims dev i)) d.config.interfaces) (flat_map (λ x. end_read h x.address (own_endpoint setup h w dev x.address)) d.config.endpoints)
        ∙ ap₂ (λ a b. a ++ b) (held_by_events (own_of w h) h (w.claims dev) d.config.interfaces) (ends_by_events setup w h dev reached opened d.config.endpoints)

-- the device that the handle has open
device_by_events : (setup : Setup) (w : World) (h : ℕ) → IsReached setup w → map (by_events (own_of w h)) (device_read setup w h (w.names h).device) ≡ at_device setup h (machine_with setup h (w.names h) w) (w.names h).device
device_by_events setup w h reached = by_device (w.names h).device refl
  where
    by_device : (o : Option ℕ) → (w.names h).device ≡ o → map (by_events (own_of w h)) (device_read setup w h o) ≡ at_device setup h (machine_with setup h (w.names h) w) o
    by_device None closed = refl
    by_device (Some dev) opened = ap (λ l. Open h dev ∷ l) (configured_by_events setup w h dev reached opened)

-- what a handle left behind
joined_is : (setup : Setup) (w : World) (h : ℕ) → IsReached setup w → joined (all_waiting w) (handle_read setup w h) ≡ left_by setup w h
joined_is setup w h reached =
    let callbacks : List Left = (handle_read setup w h).callbacks in
    let orders : List Left = map (order_left h) (pieces_of h w.orders) in
    let events : List Left = map (event_left h) (pieces_of h w.news) in
    let results : List Left = map (result_left h) (pieces_of h w.results) in
    ap (λ own. map (by_events own) (device_read setup w h (w.names h).device) ++ (own ++ callbacks)) (own_is w h)
    ∙ ap₂ (λ a b. a ++ b) (device_by_events setup w h reached) (append_assoc orders (events ++ results) callbacks ∙ ap (λ l. orders ++ l) (append_assoc events results callbacks))

-- and what the names below a number did
pub all_joined : (setup : Setup) (w : World) → IsReached setup w → (k : ℕ) → flat_map (joined (all_waiting w)) (handles_read setup w k) ≡ left_below setup w k
unfolding handles_read left_below
all_joined setup w reached zero = refl
all_joined setup w reached (suc h) =
    sym (flat_map_more (joined (all_waiting w)) [] (handles_read setup w h) (handle_read setup w h)) ∙ ap₂ (λ a b. a ++ b) (all_joined setup w reached h) (joined_is setup w h reached)
