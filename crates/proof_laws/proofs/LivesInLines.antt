-- A transfer in progress is the one that is found by its number.
use Rattle.std.proofs.Common.{◌≡◌, ◌∙◌, ◌==◌, ◌+◌, ◌<◌, ◌≤◌, ◌⊎◌, ℕ, Bool, true, false, List, [], ◌∷◌, Option, Some, None, Contains, ap, arith, cond, find, inl, inr, refl, subst, sym}
use Rattle.std.specs.Prelude.{◌&&◌, if◌then◌else◌, is_some, not}
use Rattle.std.specs.Option.{option_and_then, option_map}
use Rattle.std.proofs.lemmas.Bool.{and_parts, cases_lt, eqb-true, not-true, true≢false}
use Rattle.std.proofs.lemmas.Option.{none-some, same_Some}
use Rattle.usb_model.specs.declared.endpoint.Endpoint.{Endpoint}
use Rattle.usb_model.specs.declared.item.Item.{Item}
use Rattle.usb_model.specs.declared.setup.EndpointInfo.{EndpointInfo}
use Rattle.usb_model.specs.declared.step.Step.{Step}
use Rattle.usb_model.specs.Endpoint.{in_progress, is_blank, is_transfer, live_numbers}
use Rattle.usb_model.specs.Laws.Cut.{times}
use Rattle.usb_model.specs.Laws.Places.{InOnePlace, KeepsPlaces, numbers_at, numbers_called}
use Rattle.usb_model.specs.Machine.{Machine, device_of, endpoint_at}
use Rattle.usb_model.specs.Machine.Calls.{Home, home_by, home_in, home_of}
use Rattle.usb_model.specs.Setup.{Setup, endpoints_of, info_of}
use Rattle.usb_model.specs.World.{World, holder, is_its, machine_of, new_world, world_from}
use Rattle.usb_model.specs.World.Journal.{entries}
use Rattle.proof_model.proofs.Lists.Pieces.{same_name}
use Rattle.proof_model.proofs.Lists.Times.{times-cons, times_here}
use Rattle.proof_model.proofs.Work.Lines.{found_it, progress_times}
use Rattle.proof_model.proofs.Work.StepMoves.{IsHome, home_is}
use Rattle.proof_model.proofs.Places.Runs.{keeps_places}
use Rattle.proof_laws.specs.Dues.{IsInProgress}
use Rattle.proof_laws.proofs.ListedNumbers.{behind, front_or_behind, here, nowhere}

-- what is found by a number stands in the line
pub found_stands : (n : ℕ) (line : List Item) (x : Item) → in_progress n line ≡ Some x → Contains line x
unfolding in_progress
found_stands n [] x e = absurd (none-some x e)
found_stands n (y ∷ ys) x e = by_test (is_transfer n y) e (found_stands n ys x)
  where
    by_test : (b : Bool) → (if b then Some y else in_progress n ys) ≡ Some x → (in_progress n ys ≡ Some x → Contains ys x) → Contains (y ∷ ys) x
    by_test true e rest = here y ys x (same_Some y x e)
    by_test false e rest = behind y ys x (rest e)

-- a number that is not blank is among the numbers in progress
pub stands_times : (line : List Item) (x : Item) → is_blank x ≡ false → Contains line x → 1 ≤ times x.n (live_numbers line)
unfolding live_numbers
stands_times [] x lives c = absurd (nowhere x c)
stands_times (y ∷ ys) x lives c = by_front (front_or_behind y ys x c) (stands_times ys x lives)
  where
    by_test : (b : Bool) → 1 ≤ times x.n (live_numbers ys) → 1 ≤ times x.n (if b then live_numbers ys else y.n ∷ live_numbers ys)
    by_test true some = some
    by_test false some = omega (arith, some, times-cons x.n y.n (live_numbers ys))

    by_blank : (b : Bool) → is_blank y ≡ b → b ≡ false → y.n ≡ x.n → 1 ≤ times x.n (if b then live_numbers ys else y.n ∷ live_numbers ys)
    by_blank true is lives same = absurd (true≢false lives)
    by_blank false is lives same = omega (arith, times_here x.n y.n (live_numbers ys) same)

    by_front : (y ≡ x) ⊎ Contains ys x → (Contains ys x → 1 ≤ times x.n (live_numbers ys)) → 1 ≤ times x.n (if is_blank y then live_numbers ys else y.n ∷ live_numbers ys)
    by_front (inl e) rest = by_blank (is_blank y) refl (ap (λ v. is_blank v) e ∙ lives) (ap (λ v. v.n) e)
    by_front (inr c) rest = by_test (is_blank y) (rest c)

-- an item in front of a line, by whether it is the transfer of a number
times_past_front : (n : ℕ) (y : Item) (ys : List Item) → times n (live_numbers ys) ≤ times n (live_numbers (y ∷ ys))
unfolding live_numbers
times_past_front n y ys = by_test (is_blank y)
  where
    by_test : (b : Bool) → times n (live_numbers ys) ≤ times n (if b then live_numbers ys else y.n ∷ live_numbers ys)
    by_test true = omega arith
    by_test false = omega (arith, times-cons n y.n (live_numbers ys))

times_with_front : (n : ℕ) (y : Item) (ys : List Item) → is_transfer n y ≡ true → 1 + times n (live_numbers ys) ≤ times n (live_numbers (y ∷ ys))
unfolding live_numbers
times_with_front n y ys its = by_test (is_blank y) (not-true (is_blank y) parts.1)
  where
    parts : ((y.n == n) ≡ true) × (not (is_blank y) ≡ true)
    parts = and_parts (y.n == n) (not (is_blank y)) its

    by_test : (b : Bool) → b ≡ false → 1 + times n (live_numbers ys) ≤ times n (if b then live_numbers ys else y.n ∷ live_numbers ys)
    by_test true lives = absurd (true≢false lives)
    by_test false lives = omega (arith, times_here n y.n (live_numbers ys) (eqb-true y.n n parts.0))

-- where a number is in progress once, the transfer that has it is found
pub stands_found : (line : List Item) (x : Item) → is_blank x ≡ false → times x.n (live_numbers line) ≤ 1 → Contains line x → in_progress x.n line ≡ Some x
unfolding in_progress
stands_found [] x lives once c = absurd (nowhere x c)
stands_found (y ∷ ys) x lives once c = by_front (front_or_behind y ys x c) (stands_found ys x lives (omega (arith, once, times_past_front x.n y ys)))
  where
    itself : is_transfer x.n x ≡ true
    itself = ap (λ b. b && not (is_blank x)) (same_name x.n) ∙ ap not lives

    by_test : (b : Bool) → is_transfer x.n y ≡ b → Contains ys x → in_progress x.n ys ≡ Some x → (if b then Some y else in_progress x.n ys) ≡ Some x
    by_test true its c rest = absurd (omega (arith, once, times_with_front x.n y ys its, stands_times ys x lives c))
    by_test false other c rest = rest

    by_front : (y ≡ x) ⊎ Contains ys x → (Contains ys x → in_progress x.n ys ≡ Some x) → (if is_transfer x.n y then Some y else in_progress x.n ys) ≡ Some x
    by_front (inl e) rest = ap (λ b. if b then Some y else in_progress x.n ys) (ap (λ v. is_transfer x.n v) e ∙ itself) ∙ ap Some e
    by_front (inr c) rest = by_test (is_transfer x.n y) refl c (rest c)

-- a handle's endpoint is of the device that it opened, and of an interface that it holds
pub record IsOwn (setup : Setup) (h : ℕ) (w : World) (ep : ℕ) (e : Endpoint) : Type 0 where
  pub device : ℕ
  pub opened : (w.names h).device ≡ Some device
  pub held : holder setup w.claims device ep ≡ Some h
  pub same : w.endpoints device ep ≡ e

pub own_at : (setup : Setup) (h : ℕ) (w : World) (ep : ℕ) (e : Endpoint) → endpoint_at (machine_of setup h w) ep ≡ Some e → IsOwn setup h w ep e
unfolding machine_of
own_at setup h w ep e at = by_device (w.names h).device refl at
  where
    by_name : (d g : ℕ) → (w.names h).device ≡ Some d → holder setup w.claims d ep ≡ Some g → (b : Bool) → (g == h) ≡ b → (if b then Some (w.endpoints d ep) else None) ≡ Some e → IsOwn setup h w ep e
    by_name d g opened held true its at = record { device = d; opened = opened; held = held ∙ ap Some (eqb-true g h its); same = same_Some (w.endpoints d ep) e at }
    by_name d g opened held false other at = absurd (none-some e at)

    by_holder : (d : ℕ) → (w.names h).device ≡ Some d → (o : Option ℕ) → holder setup w.claims d ep ≡ o → (if is_its h o then Some (w.endpoints d ep) else None) ≡ Some e → IsOwn setup h w ep e
    by_holder d opened None held at = absurd (none-some e at)
    by_holder d opened (Some g) held at = by_name d g opened held (g == h) refl at

    by_device : (o : Option ℕ) → (w.names h).device ≡ o → option_and_then (λ d. if is_its h (holder setup w.claims d ep) then Some (w.endpoints d ep) else None) o ≡ Some e → IsOwn setup h w ep e
    by_device None opened at = absurd (none-some e at)
    by_device (Some d) opened at = by_holder d opened (holder setup w.claims d ep) refl at

pub at_own : (setup : Setup) (h : ℕ) (w : World) (d ep : ℕ) → (w.names h).device ≡ Some d → holder setup w.claims d ep ≡ Some h → endpoint_at (machine_of setup h w) ep ≡ Some (w.endpoints d ep)
unfolding machine_of
at_own setup h w d ep opened held =
    ap (option_and_then (λ d. if is_its h (holder setup w.claims d ep) then Some (w.endpoints d ep) else None)) opened
    ∙ (ap (λ o. if is_its h o then Some (w.endpoints d ep) else None) held
    ∙ ap (λ b. if b then Some (w.endpoints d ep) else None) (same_name h))

-- the device of that handle
pub device_is : (setup : Setup) (h : ℕ) (w : World) (d : ℕ) → (w.names h).device ≡ Some d → device_of (machine_of setup h w) ≡ d
unfolding machine_of
device_is setup h w d opened = rw opened refl

-- an endpoint whose interface is held is in its device's table
pub is_told : (setup : Setup) (w : World) (d ep h : ℕ) → holder setup w.claims d ep ≡ Some h → is_some (find (λ x. x.address == ep) (endpoints_of setup d)) ≡ true
unfolding info_of
is_told setup w d ep h held = by_info (find (λ x. x.address == ep) (endpoints_of setup d)) held
  where
    by_info : (o : Option EndpointInfo) → option_and_then (λ i. w.claims d i) (option_map (λ x. x.interface) o) ≡ Some h → is_some o ≡ true
    by_info None held = absurd (none-some h held)
    by_info (Some x) held = refl

-- what was found stays found where more endpoints are looked at
found_before : (n a : ℕ) (o : Option Endpoint) (rest : Option Home) → is_some rest ≡ true → is_some (home_in n a o rest) ≡ true
found_before n a None rest some = some
found_before n a (Some e) rest some = by_item (in_progress n e.line)
  where
    by_item : (i : Option Item) → is_some (home_by a e rest i) ≡ true
    by_item None = some
    by_item (Some i) = refl

found_here : (n a : ℕ) (e : Endpoint) (rest : Option Home) (i : Item) → in_progress n e.line ≡ Some i → is_some (home_in n a (Some e) rest) ≡ true
found_here n a e rest i is = ap (λ o. is_some (home_by a e rest o)) is

-- where a transfer of a number is in progress at one of the table's endpoints, the number is found
pub is_home : (m : Machine) (n ep : ℕ) (e : Endpoint) (i : Item) (xs : List EndpointInfo) → endpoint_at m ep ≡ Some e → in_progress n e.line ≡ Some i → is_some (find (λ x. x.address == ep) xs) ≡ true → is_some (home_of m n xs) ≡ true
unfolding home_of
is_home m n ep e i [] at is told = absurd (true≢false (sym told))
is_home m n ep e i (x ∷ xs) at is told = by_test (x.address == ep) refl told (is_home m n ep e i xs at is)
  where
    by_test : (b : Bool) → (x.address == ep) ≡ b → is_some (cond b (Some x) (find (λ x. x.address == ep) xs)) ≡ true → (is_some (find (λ x. x.address == ep) xs) ≡ true → is_some (home_of m n xs) ≡ true)
        → is_some (home_in n x.address (endpoint_at m x.address) (home_of m n xs)) ≡ true
    by_test true its told rest =
        subst (λ o. is_some (home_in n x.address o (home_of m n xs)) ≡ true) (sym (ap (endpoint_at m) (eqb-true x.address ep its) ∙ at))
        (found_here n x.address e (home_of m n xs) i is)
    by_test false other told rest = found_before n x.address (endpoint_at m x.address) (home_of m n xs) (rest told)

module _ (setup : Setup) (steps : List Step) (h : ℕ) where
  abbrev w : World
  w = world_from setup (new_world setup) steps

  abbrev m : Machine
  m = machine_of setup h w

  -- what is in progress at two endpoints of a handle, under one number, is there once and at one endpoint
  pub once_at : (n a b : ℕ) → 1 ≤ times n (numbers_at (endpoint_at m a)) → 1 ≤ times n (numbers_at (endpoint_at m b)) → (times n (numbers_at (endpoint_at m a)) ≤ 1) × (a ≡ b)
  once_at n a b some others = by_order (cases_lt n m.handle.next_number)
    where
      kept : KeepsPlaces setup steps h
      kept = keeps_places setup steps h

      at_home : (p : InOnePlace n m (numbers_called (entries setup steps h))) (ep : ℕ) → 1 ≤ times n (numbers_at (endpoint_at m ep)) → (t : Bool) → (p.home == ep) ≡ t → p.home ≡ ep
      at_home p ep some true is = eqb-true p.home ep is
      at_home p ep some false other = absurd (omega (arith, some, p.nowhere_else ep other))

      by_place : (p : InOnePlace n m (numbers_called (entries setup steps h))) → (times n (numbers_at (endpoint_at m a)) ≤ 1) × (a ≡ b)
      by_place p =
          let same : p.home ≡ a = at_home p a some (p.home == a) refl in
          let there : p.home ≡ b = at_home p b others (p.home == b) refl in
          let few : times n (numbers_at (endpoint_at m p.home)) ≤ 1 = omega (arith, p.once) in
          (subst (λ ep. times n (numbers_at (endpoint_at m ep)) ≤ 1) same few, sym same ∙ there)

      by_order : (n < m.handle.next_number) ⊎ (m.handle.next_number ≤ n) → (times n (numbers_at (endpoint_at m a)) ≤ 1) × (a ≡ b)
      by_order (inl lt) = by_place (kept.given n lt)
      by_order (inr le) = absurd (omega (arith, some, (kept.not_given n le).not_in_progress a))

  -- the number of a transfer in progress was given
  pub was_given : (n a : ℕ) → 1 ≤ times n (numbers_at (endpoint_at m a)) → n < m.handle.next_number
  was_given n a some = by_order (cases_lt n m.handle.next_number)
    where
      by_order : (n < m.handle.next_number) ⊎ (m.handle.next_number ≤ n) → n < m.handle.next_number
      by_order (inl lt) = lt
      by_order (inr le) = absurd (omega (arith, some, ((keeps_places setup steps h).not_given n le).not_in_progress a))

  -- what is found by a number is in progress, and has the number
  pub found_lives : (n : ℕ) (home : Home) → IsHome m n (Some home) → (home.item.n ≡ n) × IsInProgress setup w h home.item
  found_lives n home is =
      let own = own_at setup h w home.ep home.endpoint is.0 in
      let its = and_parts (home.item.n == n) (not (is_blank home.item)) (found_it n home.endpoint.line home.item is.1) in (
        eqb-true home.item.n n its.0,
        record {
          device = own.device;
          ep = home.ep;
          opened = own.opened;
          held = own.held;
          stands = subst (λ (e : Endpoint). Contains e.line home.item) (sym own.same) (found_stands n home.endpoint.line home.item is.1);
          lives = not-true (is_blank home.item) its.1;
        },
      )

  module _ (x : Item) (p : IsInProgress setup w h x) where
    abbrev e : Endpoint
    e = w.endpoints p.device p.ep

    end_is : endpoint_at m p.ep ≡ Some e
    end_is = at_own setup h w p.device p.ep p.opened p.held

    some : 1 ≤ times x.n (numbers_at (endpoint_at m p.ep))
    some = subst (λ o. 1 ≤ times x.n (numbers_at o)) (sym end_is) (stands_times e.line x p.lives p.stands)

    -- its number was given
    pub its_number : x.n < m.handle.next_number
    its_number = was_given x.n p.ep some

    found : in_progress x.n e.line ≡ Some x
    found = stands_found e.line x p.lives (subst (λ o. times x.n (numbers_at o) ≤ 1) end_is (once_at x.n p.ep p.ep some some).0) p.stands

    -- it is found by its number, and nothing else is
    pub lives_found : (home : Home) × (home_of m x.n (endpoints_of setup (device_of m)) ≡ Some home) × (home.item ≡ x)
    lives_found = by_home (home_of m x.n (endpoints_of setup (device_of m))) refl (home_is m x.n (endpoints_of setup (device_of m))) there
      where
        there : is_some (home_of m x.n (endpoints_of setup (device_of m))) ≡ true
        there = is_home m x.n p.ep e x (endpoints_of setup (device_of m)) end_is found
            (subst (λ d. is_some (find (λ (v : EndpointInfo). v.address == p.ep) (endpoints_of setup d)) ≡ true) (sym (device_is setup h w p.device p.opened)) (is_told setup w p.device p.ep h p.held))

        same : (home : Home) → IsHome m x.n (Some home) → home.item ≡ x
        same home is =
            let here : 1 ≤ times x.n (numbers_at (endpoint_at m home.ep)) = subst (λ o. 1 ≤ times x.n (numbers_at o)) (sym is.0) (progress_times x.n home.endpoint.line home.item is.1) in
            let ends : Some e ≡ Some home.endpoint = sym end_is ∙ (ap (endpoint_at m) (once_at x.n p.ep home.ep some here).1 ∙ is.0) in
            let line : in_progress x.n home.endpoint.line ≡ Some x = subst (λ (v : Endpoint). in_progress x.n v.line ≡ Some x) (same_Some e home.endpoint ends) found in
            same_Some home.item x (sym is.1 ∙ line)

        by_home : (o : Option Home) → home_of m x.n (endpoints_of setup (device_of m)) ≡ o → IsHome m x.n o → is_some o ≡ true
            → (home : Home) × (home_of m x.n (endpoints_of setup (device_of m)) ≡ Some home) × (home.item ≡ x)
        by_home None q is none = absurd (true≢false (sym none))
        by_home (Some home) q is one = (home, q, same home is)
