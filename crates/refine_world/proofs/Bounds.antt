-- How much waits for all endpoints together, and how many places of an endpoint's ring are in use.
use Rattle.std.proofs.Common.{Bool, List, None, Option, Some, [], ap, ap₂, arith, false, length, map, not, refl, subst, suc, true, zero, ℕ, ◌&&◌, ◌*◌, ◌+◌, ◌≤◌, ◌==◌, ◌∙◌, ◌∷◌, ◌≡◌}
use Rattle.std.specs.Prelude.{if◌then◌else◌, slice_get, ◌||◌}
use Rattle.std.specs.List.{AllByRecursion, filter, find, list_any}
use Rattle.std.specs.Option.{option_map_or}
use Rattle.std.proofs.Math.Nat.{suc-mul}
use Rattle.std.proofs.lemmas.Bool.{eq-eqb, or_left, or_right}
use Rattle.std.proofs.lemmas.List.{length-map}
use Rattle.std.proofs.lemmas.List.Folds.{list_any-append}
use Rattle.usb_model.specs.declared.setup.DeviceSetup.{DeviceSetup}
use Rattle.usb_model.specs.declared.setup.EndpointInfo.{EndpointInfo}
use Rattle.usb_model.specs.Setup.{Setup, info_of, interface_of, packet_size_of}
use Rattle.usb_model.specs.World.{Claims, World, holder}
use Rattle.proof_model.proofs.Lists.Pieces.{either_way}
use Rattle.usb_model.specs.Kept.{SentErrand, KeptTransfer, first_place}
use Rattle.refine_world.specs.ShownEndpoint.{AllKept, is_stale}
use Rattle.refine_world.specs.Lively.{IsFine, ends_from, ends_of}
use Rattle.refine_world.specs.Shows.{AllHeld, At, Core, Report, Shows, at, here, ring_event, ring_order, errands, events, tellings}
use Rattle.refine_world.proofs.Ahead.{ServedLow, near_served}
use Rattle.refine_world.proofs.Budget.{few_at_endpoint, fewer, split_length, ring_fits}
use Rattle.refine_world.proofs.Links.{known}
use Rattle.refine_world.proofs.StepsWithoutWork.{none_there}
use Rattle.refine_world.proofs.Senders.{info_there, interface_there}
use Rattle.usb_model.specs.declared.item.Item.{Item}
use Rattle.refine_world.proofs.RoomAndDequeue.{near_fresh}

-- each passes the test of one of these keys
abbrev pub Keyed : {A K : Type 0} → (K → A → Bool) → List K → List A → Type 0
Keyed test ks xs = AllByRecursion (λ x. list_any (λ k. test k x) ks ≡ true) xs

pub keyed_left : {A K : Type 0} (test : K → A → Bool) (k : K) (ks : List K) (xs : List A) → Keyed test (k ∷ ks) xs → Keyed test ks (filter (λ x. not (test k x)) xs)
keyed_left test k ks [] a = tt
keyed_left test k ks (x ∷ xs) a = by_test (test k x) a.0 (keyed_left test k ks xs a.1)
  where
    by_test : (b : Bool) → (b || list_any (λ j. test j x) ks) ≡ true → Keyed test ks (filter (λ x. not (test k x)) xs) → Keyed test ks (if not b then x ∷ filter (λ x. not (test k x)) xs else filter (λ x. not (test k x)) xs)
    by_test true here rest = rest
    by_test false here rest = (here, rest)

-- so many keys, and so many of each: no more in all
few_of : {A K : Type 0} (test : K → A → Bool) (most : ℕ) (ks : List K) (xs : List A) → Keyed test ks xs → ((k : K) → length (filter (test k) xs) ≤ most) → length xs ≤ length ks * most
few_of test most [] [] a few = omega arith
few_of test most [] (x ∷ xs) a few = absurd cc
few_of test most (k ∷ ks) xs a few =
    let rest = few_of test most ks (filter (λ x. not (test k x)) xs) (keyed_left test k ks xs a) (λ j. omega (arith, fewer (test j) (λ x. not (test k x)) xs, few j)) in
    omega (arith, split_length (test k) xs, few k, rest, suc-mul (length ks) most)

-- an endpoint of a device is one of all
in_device : (n d ep : ℕ) (l : List EndpointInfo) (i : EndpointInfo) → d ≡ n → find (λ x. x.address == ep) l ≡ Some i → list_any (λ (k : ℕ × ℕ). (d == k.0) && (ep == k.1)) (map (λ x. (n, x.address)) l) ≡ true
in_device n d ep [] i same q = absurd cc
in_device n d ep (x ∷ xs) i same q = by_test (x.address == ep) refl q (in_device n d ep xs i same)
  where
    by_test : (b : Bool) → (x.address == ep) ≡ b → (if b then Some x else find (λ y. y.address == ep) xs) ≡ Some i
        → (find (λ y. y.address == ep) xs ≡ Some i → list_any (λ (k : ℕ × ℕ). (d == k.0) && (ep == k.1)) (map (λ y. (n, y.address)) xs) ≡ true)
        → (((d == n) && (ep == x.address)) || list_any (λ (k : ℕ × ℕ). (d == k.0) && (ep == k.1)) (map (λ y. (n, y.address)) xs)) ≡ true
    by_test true is p rest = or_left _ _ (ap₂ (λ a b. a && b) (eq-eqb d n same) (either_way ep x.address ∙ is))
    by_test false is p rest = or_right ((d == n) && (ep == x.address)) _ (rest p)

in_all : (n d ep : ℕ) (setup : Setup) (i : EndpointInfo) → find (λ x. x.address == ep) (option_map_or (λ (x : DeviceSetup). x.config.endpoints) (slice_get setup d) []) ≡ Some i
    → list_any (λ (k : ℕ × ℕ). (n + d == k.0) && (ep == k.1)) (ends_from n setup) ≡ true
in_all n d ep [] i q = absurd cc
in_all n zero ep (device ∷ devices) i q =
    list_any-append (λ (k : ℕ × ℕ). (n + zero == k.0) && (ep == k.1)) (map (λ x. (n, x.address)) device.config.endpoints) (ends_from (suc n) devices)
    ∙ or_left _ _ (in_device n (n + zero) ep device.config.endpoints i (omega arith) q)
in_all n (suc d) ep (device ∷ devices) i q =
    let rest : list_any (λ (k : ℕ × ℕ). (n + suc d == k.0) && (ep == k.1)) (ends_from (suc n) devices) ≡ true =
    let same : suc n + d ≡ n + suc d = omega arith in
    subst (λ m. list_any (λ (k : ℕ × ℕ). (m == k.0) && (ep == k.1)) (ends_from (suc n) devices) ≡ true) same (in_all (suc n) d ep devices i q) in
    list_any-append (λ (k : ℕ × ℕ). (n + suc d == k.0) && (ep == k.1)) (map (λ x. (n, x.address)) device.config.endpoints) (ends_from (suc n) devices)
    ∙ or_right (list_any (λ (k : ℕ × ℕ). (n + suc d == k.0) && (ep == k.1)) (map (λ x. (n, x.address)) device.config.endpoints)) _ rest

-- what is held is at an endpoint that there is
pub held_keyed : {A : Type 0} (setup : Setup) (claims : Claims) (xs : List (At A)) → AllHeld setup claims xs → Keyed (λ (k : ℕ × ℕ) (x : At A). here k.0 k.1 x) (ends_of setup) xs
unfolding info_of
held_keyed setup claims [] held = tt
held_keyed setup claims (x ∷ xs) held =
    let i = interface_there (interface_of setup x.dev x.ep) (λ i. claims x.dev i) x.name held.0 in
    let info = info_there (info_of setup x.dev x.ep) i.0 i.1 in
    let same : 0 + x.dev ≡ x.dev = omega arith in
    (subst (λ m. list_any (λ (k : ℕ × ℕ). (m == k.0) && (x.ep == k.1)) (ends_of setup) ≡ true) same (in_all 0 x.dev x.ep setup info.0 info.1), held_keyed setup claims xs held.1)

-- at most 18 events at each endpoint, and one order
few_at : (setup : Setup) (w : World) (c : Core) (s : Shows setup w c) → IsFine setup → (d e : ℕ) → (length (filter (here d e) s.news) ≤ 18) × (length (filter (here d e) s.orders) ≤ 1)
few_at setup w c s fine d e = by_holder (holder setup w.claims d e) refl
  where
    by_holder : (o : Option ℕ) → holder setup w.claims d e ≡ o → (length (filter (here d e) s.news) ≤ 18) × (length (filter (here d e) s.orders) ≤ 1)
    by_holder None none =
        let os = none_there setup w.claims d e s.orders s.orders_held none in
        let ns = none_there setup w.claims d e s.news s.news_held none in
        (omega (arith, length-map (filter (here d e) s.news) (λ x. x.what), ap length ns), omega (arith, length-map (filter (here d e) s.orders) (λ x. x.what), ap length os))
    by_holder (Some h) holds =
        let k = (known setup w c s fine h d e holds).fit in
        let few = few_at_endpoint (w.endpoints d e) _ _ k.coherent k.short in
        (omega (arith, few.1, length-map (filter (here d e) s.news) (λ x. x.what), length-map (at d e s.news) (λ x. x.event)), omega (arith, few.0, length-map (filter (here d e) s.orders) (λ x. x.what), length-map (at d e s.orders) (λ x. x.errand)))

-- in every core that shows a world: 18 events and one order for each endpoint that there is. With 120 endpoints these are 2,160 and 120
pub few_everywhere : (setup : Setup) (w : World) (c : Core) → Shows setup w c → IsFine setup → (length c.events ≤ length (ends_of setup) * 18) × (length c.orders ≤ length (ends_of setup) * 1)
few_everywhere setup w c s fine = (
  omega (arith, ap length s.news_kept, length-map s.news ring_event, few_of (λ (k : ℕ × ℕ) (x : At Report). here k.0 k.1 x) 18 (ends_of setup) s.news (held_keyed setup w.claims s.news s.news_held) (λ k. (few_at setup w c s fine k.0 k.1).0)),
  omega (arith, ap length s.orders_kept, length-map s.orders ring_order, few_of (λ (k : ℕ × ℕ) (x : At SentErrand). here k.0 k.1 x) 1 (ends_of setup) s.orders (held_keyed setup w.claims s.orders s.orders_held) (λ k. (few_at setup w c s fine k.0 k.1).1)),
)

-- the two lines are as long
pub as_long : (size : ℕ) (xs : List Item) (ys : List KeptTransfer) → AllKept size xs ys → length ys ≡ length xs
as_long size [] [] k = refl
as_long size [] (y ∷ ys) k = absurd k
as_long size (x ∷ xs) [] k = absurd k
as_long size (x ∷ xs) (y ∷ ys) k = ap suc (as_long size xs ys k.1)

-- at most 80 by the line; and at most 85 with what stands between the dequeue place and the line, where that is near
pub room_near : (setup : Setup) (w : World) (c : Core) → Shows setup w c → IsFine setup → (h d e : ℕ) → holder setup w.claims d e ≡ Some h → first_place (c.endpoints d e).line (c.endpoints d e).end ≤ (c.endpoints d e).dequeue + 5
    → ((c.endpoints d e).end ≤ first_place (c.endpoints d e).line (c.endpoints d e).end + 80) × ((c.endpoints d e).end ≤ (c.endpoints d e).dequeue + 85)
room_near setup w c s fine h d e holds near =
    let world_of = s.endpoints h d e holds in
    let short = (known setup w c s fine h d e holds).fit.short in
    ring_fits (c.endpoints d e).line (c.endpoints d e).end (c.endpoints d e).dequeue world_of.row (s.few d e) (omega (arith, short, as_long (packet_size_of setup d e) (w.endpoints d e).line (c.endpoints d e).line world_of.kept)) near

-- it is near wherever the endpoint isn't stale
pub room_fresh : (setup : Setup) (w : World) (c : Core) (s : Shows setup w c) → IsFine setup → (h d e : ℕ) → holder setup w.claims d e ≡ Some h → is_stale (w.endpoints d e).state (w.endpoints d e).errand (errands (at d e s.orders)) ≡ false → (c.endpoints d e).end ≤ (c.endpoints d e).dequeue + 85
room_fresh setup w c s fine h d e holds fresh =
    let le = near_fresh (packet_size_of setup d e) (w.endpoints d e) (errands (at d e s.orders)) (events (at d e s.news)) (c.endpoints d e) (at d e s.orders) (tellings (at d e s.news)) (s.endpoints h d e holds) fresh in
    (room_near setup w c s fine h d e holds (omega (arith, le))).1

-- in every core that shows a world: the line's places, where it begins, and where the controller stands
pub near_everywhere : (setup : Setup) (w : World) (c : Core) → Shows setup w c → IsFine setup → (h d e : ℕ) → holder setup w.claims d e ≡ Some h
    → ((c.endpoints d e).end ≤ first_place (c.endpoints d e).line (c.endpoints d e).end + 80) × (first_place (c.endpoints d e).line (c.endpoints d e).end ≤ (c.endpoints d e).dequeue + 5) × ((c.endpoints d e).dequeue ≤ (c.endpoints d e).end)
near_everywhere setup w c s fine h d e holds =
    let n = s.near h d e holds in
    ((room_near setup w c s fine h d e holds n.near).0, n.near, n.inside)

-- so at most 85 places of its ring are in use, stale or not
pub room_everywhere : (setup : Setup) (w : World) (c : Core) → Shows setup w c → IsFine setup → (h d e : ℕ) → holder setup w.claims d e ≡ Some h → (c.endpoints d e).end ≤ (c.endpoints d e).dequeue + 85
room_everywhere setup w c s fine h d e holds = (room_near setup w c s fine h d e holds (s.near h d e holds).near).1

-- and each served item begins where the controller stands or before
pub served_everywhere : (setup : Setup) (w : World) (c : Core) → Shows setup w c → (h d e : ℕ) → holder setup w.claims d e ≡ Some h → ServedLow (c.endpoints d e).dequeue (w.endpoints d e).line (c.endpoints d e).line
served_everywhere setup w c s h d e holds = near_served (packet_size_of setup d e) (w.endpoints d e) _ _ (c.endpoints d e) _ _ (s.endpoints h d e holds) (s.near h d e holds).before
