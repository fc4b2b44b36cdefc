-- A controller of which endpoints were made new holds the core with new endpoints.
use Rattle.std.proofs.Common.{◌≡◌, ℕ, Bool, true, false, refl, ap, ap₂, sym, ◌∙◌, List, [], ◌∷◌, Option, Some, None}
use Rattle.std.specs.Prelude.{◌<◌, ◌≤◌, ◌+◌, length, slice_get, slice_index_or, ◌==◌, ◌&&◌, ◌||◌, if◌then◌else◌}
use Rattle.std.specs.List.{find, list_any}
use Rattle.std.specs.Option.{option_map, option_map_or}
use Rattle.std.proofs.lemmas.Bool.{eqb-true}
use Rattle.usb_model.specs.declared.setup.EndpointInfo.{EndpointInfo}
use Rattle.usb_model.specs.Setup.{Setup, endpoint_id, endpoints_of, info_of, interface_of, script_of}
use Rattle.std.proofs.lemmas.List.{take_all}
use Rattle.std.proofs.lemmas.List.Sums.{fold_more}
use Rattle.usb_model.specs.declared.setup.Configuration.{Configuration}
use Rattle.usb_descriptors.specs.Table.{info_at}
use Rattle.usb_tables.specs.Holders.{Holding, IsSetup}
use Rattle.refine_core.proofs.Gone.{endpoints_are}
use Rattle.refine_core.proofs.Ringed.{IsBare, SameRings, rings_renewed}
use Rattle.usb_model.specs.Kept.{KeptEndpoint, new_kept_endpoint}
use Rattle.usb_xhc.specs.Controller.{Controller, slot_changed}
use Rattle.usb_xhc.specs.Slots.{renewed}
use Rattle.refine_world.specs.Known.{NoMove}
use Rattle.refine_world.specs.Shows.{RingEvent, RingOrder}
use Rattle.refine_rings.specs.Holds.{Holds, with_end}
use Rattle.refine_rings.specs.Laws.{HasPlain}
use Rattle.refine_rings.proofs.Renews.{hosts}
use Rattle.refine_core.specs.Renewals.{RenewedAll, RenewedFirst, is_of_interface, renewed_by, renewed_one}
use Rattle.refine_core.proofs.Same.{holds_as}

-- the endpoints, one after the other
new_ends : Setup → ℕ → (ℕ → Bool) → List EndpointInfo → (ℕ → ℕ → KeptEndpoint) → ℕ → ℕ → KeptEndpoint
new_ends setup d test [] ends = ends
new_ends setup d test (x ∷ xs) ends = new_ends setup d test xs (if test x.address then with_end ends d x.address (new_kept_endpoint (script_of setup d x.address)) else ends)

-- an endpoint that is to be renewed: it is of an interface, and no order to go on elsewhere waits for it
pub record IsRenewable (setup : Setup) (orders : List RingOrder) (d e : ℕ) : Type 0 where
  pub interface : ℕ
  pub there : interface_of setup d e ≡ Some interface
  pub still : NoMove d e orders

-- are held
renews_each : (setup : Setup) (gone : ℕ → Bool) (orders : List RingOrder) (events : List RingEvent) (posted d : ℕ) (test : ℕ → Bool) → HasPlain setup → ((e : ℕ) → test e ≡ true → IsRenewable setup orders d e)
    → (xs : List EndpointInfo) (k : Controller) (ends : ℕ → ℕ → KeptEndpoint) → Holds setup k gone ends orders events posted → Holds setup (renewed_by k d test xs) gone (new_ends setup d test xs ends) orders events posted
unfolding new_ends
renews_each setup gone orders events posted d test plain can [] k ends is = is
renews_each setup gone orders events posted d test plain can (x ∷ xs) k ends is =
    renews_each setup gone orders events posted d test plain can xs _ _ (by_test (test x.address) refl)
  where
    by_test : (b : Bool) → test x.address ≡ b
        → Holds setup (if b then slot_changed k d (λ s. renewed s x.address) else k) gone (if b then with_end ends d x.address (new_kept_endpoint (script_of setup d x.address)) else ends) orders events posted
    by_test true passes =
        let it = can x.address passes in
        (hosts setup k gone ends orders events posted d x.address it.interface plain is it.there).renews it.still
    by_test false passes = is

-- each by itself: new, if it passes and is listed
new_end : (setup : Setup) (d : ℕ) (test : ℕ → Bool) (xs : List EndpointInfo) (ends : ℕ → ℕ → KeptEndpoint) (dev e : ℕ)
    → new_ends setup d test xs ends dev e ≡ (if (d == dev) && (test e && list_any (λ x. x.address == e) xs) then new_kept_endpoint (script_of setup dev e) else ends dev e)
unfolding new_ends
new_end setup d test [] ends dev e = by_tests (d == dev) (test e)
  where
    by_tests : (a b : Bool) → ends dev e ≡ (if a && (b && false) then new_kept_endpoint (script_of setup dev e) else ends dev e)
    by_tests true true = refl
    by_tests true false = refl
    by_tests false b = refl
new_end setup d test (x ∷ xs) ends dev e =
    new_end setup d test xs _ dev e ∙ by_tests (d == dev) refl (x.address == e) refl (test x.address) refl (test e) refl (list_any (λ y. y.address == e) xs)
  where
    fresh : KeptEndpoint
    fresh = new_kept_endpoint (script_of setup dev e)

    this : Bool → KeptEndpoint
    this t = (if t then with_end ends d x.address (new_kept_endpoint (script_of setup d x.address)) else ends) dev e

    elsewhere : (t : Bool) → ((d == dev) && (x.address == e)) ≡ false → this t ≡ ends dev e
    elsewhere true is = ap (λ (c : Bool). if c then new_kept_endpoint (script_of setup d x.address) else ends dev e) is
    elsewhere false is = refl

    same : (d == dev) ≡ true → (x.address == e) ≡ true → this true ≡ fresh
    same device address =
        ap₂ (λ (p q : Bool). if p && q then new_kept_endpoint (script_of setup d x.address) else ends dev e) device address
        ∙ ap₂ (λ (m n : ℕ). new_kept_endpoint (script_of setup m n)) (eqb-true d dev device) (eqb-true x.address e address)

    alike : (x.address == e) ≡ true → (t v : Bool) → test x.address ≡ t → test e ≡ v → t ≡ v
    alike address t v passes is = sym passes ∙ ap test (eqb-true x.address e address) ∙ is

    by_tests : (a : Bool) → (d == dev) ≡ a → (b : Bool) → (x.address == e) ≡ b → (t : Bool) → test x.address ≡ t → (v : Bool) → test e ≡ v → (u : Bool)
        → (if a && (v && u) then fresh else this t) ≡ (if a && (v && (b || u)) then fresh else ends dev e)
    by_tests false device b address t passes v is u = elsewhere t (ap (λ (c : Bool). c && (x.address == e)) device)
    by_tests true device false address t passes true is true = refl
    by_tests true device false address t passes true is false = elsewhere t (ap₂ (λ (p q : Bool). p && q) device address)
    by_tests true device false address t passes false is u = elsewhere t (ap₂ (λ (p q : Bool). p && q) device address)
    by_tests true device true address t passes true is true = refl
    by_tests true device true address t passes true is false = ap this (alike address t true passes is) ∙ same device address
    by_tests true device true address t passes false is u = ap this (alike address t false passes is)

-- the whole
pub renews_all : (setup : Setup) (k : Controller) (gone : ℕ → Bool) (ends : ℕ → ℕ → KeptEndpoint) (orders : List RingOrder) (events : List RingEvent) (posted d : ℕ) (test : ℕ → Bool) → HasPlain setup
    → ((e : ℕ) → test e ≡ true → IsRenewable setup orders d e) → Holds setup k gone ends orders events posted
    → Holds setup (renewed_by k d test (endpoints_of setup d)) gone (λ dev e. if (d == dev) && test e then new_kept_endpoint (script_of setup dev e) else ends dev e) orders events posted
unfolding info_of
renews_all setup k gone ends orders events posted d test plain can is =
    holds_as setup (renewed_by k d test (endpoints_of setup d)) gone gone (new_ends setup d test (endpoints_of setup d) ends) _ orders events posted (λ x. refl)
    (λ dev e. new_end setup d test (endpoints_of setup d) ends dev e ∙ ap (λ (b : Bool). if (d == dev) && b then new_kept_endpoint (script_of setup dev e) else ends dev e) (listed e (test e) refl))
    (renews_each setup gone orders events posted d test plain can (endpoints_of setup d) k ends is)
  where
    any_found : (xs : List EndpointInfo) (e : ℕ) (x : EndpointInfo) → find (λ y. y.address == e) xs ≡ Some x → list_any (λ y. y.address == e) xs ≡ true
    any_found [] e x found = absurd cc
    any_found (y ∷ ys) e x found = by_first (y.address == e) found (any_found ys e x)
      where
        by_first : (b : Bool) → (if b then Some y else find (λ z. z.address == e) ys) ≡ Some x → (find (λ z. z.address == e) ys ≡ Some x → list_any (λ z. z.address == e) ys ≡ true) → (b || list_any (λ z. z.address == e) ys) ≡ true
        by_first true here rest = refl
        by_first false here rest = rest here

    in_list : (e i : ℕ) (o : Option EndpointInfo) → find (λ y. y.address == e) (endpoints_of setup d) ≡ o → option_map (λ y. y.interface) o ≡ Some i → list_any (λ y. y.address == e) (endpoints_of setup d) ≡ true
    in_list e i None found there = absurd cc
    in_list e i (Some x) found there = any_found (endpoints_of setup d) e x found

    listed : (e : ℕ) (b : Bool) → test e ≡ b → (test e && list_any (λ y. y.address == e) (endpoints_of setup d)) ≡ test e
    listed e true passes =
        let it = can e passes in
        ap (λ (b : Bool). test e && b) (in_list e it.interface _ refl it.there) ∙ by_true (test e)
      where
        by_true : (b : Bool) → (b && true) ≡ b
        by_true true = refl
        by_true false = refl
    listed e false passes = ap (λ (b : Bool). b && list_any (λ y. y.address == e) (endpoints_of setup d)) passes ∙ sym passes

-- one more of the list
pub renewed_more : (v : Holding) (old k now : Controller) (d : ℕ) (test : Setup → ℕ → Bool) (xs : List EndpointInfo) (n : ℕ) (x : EndpointInfo) (b : Bool) → n < length xs → x ≡ slice_index_or xs n x → ((setup : Setup) → IsSetup v setup → b ≡ test setup x.address)
    → (b ≡ true → now ≡ slot_changed k d (λ s. renewed s x.address)) → (b ≡ false → now ≡ k) → RenewedFirst v old k d test xs n → RenewedFirst v old now d test xs (n + 1)
renewed_more v old k now d test xs n x b within here passes passed failed first setup set =
    by_test b refl ∙ ap (λ (t : Bool). if t then slot_changed k d (λ s. renewed s x.address) else k) (passes setup set)
    ∙ ap₂ (renewed_one d (test setup)) (first setup set) here ∙ sym (fold_more (renewed_one d (test setup)) old xs n x within)
  where
    by_test : (t : Bool) → b ≡ t → now ≡ (if b then slot_changed k d (λ s. renewed s x.address) else k)
    by_test true is = passed is ∙ ap (λ (t : Bool). if t then slot_changed k d (λ s. renewed s x.address) else k) (sym is)
    by_test false is = failed is ∙ ap (λ (t : Bool). if t then slot_changed k d (λ s. renewed s x.address) else k) (sym is)

-- all of it
pub renewed_all : (v : Holding) (old k : Controller) (d : ℕ) (test : Setup → ℕ → Bool) (config : Configuration) (xs : List EndpointInfo) (n : ℕ) → slice_get v.configs d ≡ Some config → xs ≡ config.endpoints → length xs ≤ n
    → RenewedFirst v old k d test xs n → RenewedAll v old k d test
renewed_all v old k d test config xs n there same past first setup set =
    first setup set
    ∙ ap (renewed_by old d (test setup)) (take_all n xs past ∙ same ∙ ap (λ (o : Option Configuration). option_map_or (λ (c : Configuration). c.endpoints) o []) (sym there) ∙ endpoints_are v setup d set)

-- an endpoint's interface, as the configuration says it
pub of_interface : (v : Holding) (setup : Setup) (d i e : ℕ) (config : Configuration) → IsSetup v setup → slice_get v.configs d ≡ Some config → option_map_or (λ x. x.interface == i) (info_at config e) false ≡ is_of_interface setup d i e
unfolding info_of
of_interface v setup d i e config set there =
    ap (λ (l : List EndpointInfo). option_map_or (λ x. x.interface == i) (find (λ x. x.address == e) l) false) (ap (λ (o : Option Configuration). option_map_or (λ (c : Configuration). c.endpoints) o []) (sym there) ∙ endpoints_are v setup d set)
    ∙ by_info (find (λ x. x.address == e) (endpoints_of setup d))
  where
    by_info : (o : Option EndpointInfo) → option_map_or (λ x. x.interface == i) o false ≡ option_map_or (λ k. k == i) (option_map (λ x. x.interface) o) false
    by_info None = refl
    by_info (Some x) = refl

-- rings in which no item is are as they were
pub rings_renewed_by : (base : Controller) (d : ℕ) (test : ℕ → Bool) → ((e : ℕ) → test e ≡ true → IsBare base d (endpoint_id e)) → (xs : List EndpointInfo) (k : Controller) → SameRings base k → SameRings base (renewed_by k d test xs)
rings_renewed_by base d test bare [] k same = same
rings_renewed_by base d test bare (x ∷ xs) k same = rings_renewed_by base d test bare xs (if test x.address then slot_changed k d (λ s. renewed s x.address) else k) (by_test (test x.address) refl)
  where
    by_test : (b : Bool) → test x.address ≡ b → SameRings base (if b then slot_changed k d (λ s. renewed s x.address) else k)
    by_test true passes = λ dev id. rings_renewed k d x.address (λ r is. bare x.address passes r (sym (same d (endpoint_id x.address)) ∙ is)) dev id ∙ same dev id
    by_test false passes = same
