-- Where the transfer of a number is in progress.
use Rattle.std.proofs.Common.{◌≡◌, ℕ, zero, suc, ◌+◌, ◌<◌, Bool, true, false, cond, eq-eqb, refl, ap, sym, subst, ◌∙◌, arith, List, [], ◌∷◌, length, Option, Some, None, lt-ltb, drop, drop_of_length-le, ◌≤◌}
use Rattle.std.specs.Prelude.{nat_lt, not, ◌&&◌, ◌==◌, if◌then◌else◌, position, slice_get, slice_index_or, option_map}
use Rattle.std.specs.List.{position_or_len}
use Rattle.std.specs.Option.{option_and_then, option_map_or, unwrap_or}
use Rattle.std.proofs.lemmas.Option.{same_Some, slice_get-map}
use Rattle.usb_model.specs.declared.setup.Configuration.{Configuration}
use Rattle.usb_model.specs.declared.setup.DeviceSetup.{DeviceSetup}
use Rattle.usb_tables.specs.Holders.{device_of as device_at}
use Rattle.std.proofs.lemmas.Bool.{ltb-true}
use Rattle.std.proofs.lemmas.List.Quantifiers.{position-Some}
use Rattle.usb_model.specs.declared.setup.EndpointInfo.{EndpointInfo}
use Rattle.usb_model.specs.Setup.{Setup, endpoints_of}
use Rattle.usb_model.specs.World.{holder, is_its}
use Rattle.usb_model.specs.Kept.{KeptEndpoint, KeptTransfer}
use Rattle.usb_tables.specs.declared.transfer.Transfer.{Transfer as InFlight}
use Rattle.usb_tables.specs.TransfersInFlight.{is_number, line_at}
use Rattle.refine_world.specs.Shows.{Core}
use Rattle.refine_world.specs.Calls.{device_of, home_by, home_in, is_kept_it, kept_home, kept_in_progress, own_kept}
use Rattle.refine_core.specs.State.{AllItems, IsItem, Keeps, State}
use Rattle.refine_core.specs.Steps.{InLine, IsHome, IsInLine}
use Rattle.refine_core.specs.Works.{IsAt}
use Rattle.refine_core.proofs.Transfers.{end_at}

module _ {P : Type 0} (name : Option ℕ) (e n : ℕ) where
  -- an item is the transfer of the number where its kept one is
  number_is : (x : Option (InFlight P)) (y : KeptTransfer) → IsItem name e x y → is_number n x ≡ is_kept_it n y
  number_is None y is = by_number (y.n == n)
    where
      by_number : (b : Bool) → false ≡ (b && not y.blank)
      by_number true = sym (ap not is)
      by_number false = refl
  number_is (Some t) y is = ap (λ k. k == n) is.number ∙ by_number (y.n == n)
    where
      by_number : (b : Bool) → b ≡ (b && not y.blank)
      by_number true = sym (ap not is.live)
      by_number false = refl

  -- the first of the number is the first kept one
  pub first_kept : (xs : List (Option (InFlight P))) (ys : List KeptTransfer) (i : ℕ) → AllItems name e xs ys → i < length xs → is_number n (slice_index_or xs i None) ≡ true → ((k : ℕ) → k < i → is_number n (slice_index_or xs k None) ≡ false)
      → (y : KeptTransfer) × (slice_get ys i ≡ Some y) × (kept_in_progress n ys ≡ Some y) × (is_kept_it n y ≡ true)
  unfolding kept_in_progress
  first_kept [] ys i all within here before = absurd (omega (arith, within))
  first_kept (x ∷ xs) [] i all within here before = absurd all
  first_kept (x ∷ xs) (y ∷ ys) zero all within here before =
      let it : is_kept_it n y ≡ true = sym (number_is x y all.0) ∙ here in
      (y, refl, ap (λ b. if b then Some y else kept_in_progress n ys) it, it)
  first_kept (x ∷ xs) (y ∷ ys) (suc i) all within here before =
      let rest = first_kept xs ys i all.1 (omega (arith, within)) here (λ k lt. before (suc k) (omega (arith, lt))) in
      let other : is_kept_it n y ≡ false = sym (number_is x y all.0) ∙ before 0 (omega arith) in
      (rest.0, rest.1, ap (λ b. if b then Some y else kept_in_progress n ys) other ∙ rest.2, rest.3)

  -- where none is, none is kept
  pub none_kept : (xs : List (Option (InFlight P))) (ys : List KeptTransfer) → AllItems name e xs ys → ((k : ℕ) → k < length xs → is_number n (slice_index_or xs k None) ≡ false) → kept_in_progress n ys ≡ None
  unfolding kept_in_progress
  none_kept [] [] all none = refl
  none_kept [] (y ∷ ys) all none = absurd all
  none_kept (x ∷ xs) [] all none = absurd all
  none_kept (x ∷ xs) (y ∷ ys) all none =
      let other : is_kept_it n y ≡ false = sym (number_is x y all.0) ∙ none 0 (omega arith) in
      ap (λ b. if b then Some y else kept_in_progress n ys) other ∙ none_kept xs ys all.1 (λ k lt. none (suc k) (omega (arith, lt)))

-- where nothing passes, each is refused
pub passes_none : {A : Type 0} (p : A → Bool) (xs : List A) (z : A) → position p xs ≡ None → (k : ℕ) → k < length xs → p (slice_index_or xs k z) ≡ false
passes_none p [] z none k within = absurd (omega (arith, within))
passes_none p (x ∷ xs) z none k within = by_first (p x) refl k within (λ ends i lt. passes_none p xs z ends i lt)
  where
    len : ℕ
    len = position_or_len p xs

    Ends : Bool → Type 0
    Ends b = cond (nat_lt (cond (not b) (1 + len) 0) (suc (length xs))) (Some (cond (not b) (1 + len) 0)) None ≡ None

    none_behind : Ends false → (b : Bool) → nat_lt len (length xs) ≡ b → position p xs ≡ None
    none_behind ends true is =
        let inside : nat_lt (1 + len) (suc (length xs)) ≡ true = lt-ltb (1 + len) (suc (length xs)) (omega (arith, ltb-true len (length xs) is)) in
        let some : ◌≡◌ {A = Option ℕ} (Some (1 + len)) None = ap (λ (b : Bool). cond b (Some (1 + len)) None) (sym inside) ∙ ends in
        absurd cc
    none_behind ends false is = ap (λ (b : Bool). cond b (Some len) None) is

    by_first : (b : Bool) → p x ≡ b → (i : ℕ) → i < suc (length xs) → (position p xs ≡ None → (j : ℕ) → j < length xs → p (slice_index_or xs j z) ≡ false) → p (slice_index_or (x ∷ xs) i z) ≡ false
    by_first true is i lt rest =
        let inside : nat_lt 0 (suc (length xs)) ≡ true = lt-ltb 0 (suc (length xs)) (omega arith) in
        let some : ◌≡◌ {A = Option ℕ} (Some 0) None = ap (λ (t : Bool). cond t (Some 0) None) (sym inside) ∙ subst Ends is none in
        absurd cc
    by_first false is zero lt rest = is
    by_first false is (suc i) lt rest = rest (none_behind (subst Ends is none) (nat_lt len (length xs)) refl) i (omega (arith, lt))

-- the endpoint that a name holds is its own
own_is : (setup : Setup) (c : Core) (h d e : ℕ) → holder setup c.claims d e ≡ Some h → own_kept setup c h d e ≡ Some (c.endpoints d e)
own_is setup c h d e holds = ap (λ (b : Bool). if b then Some (c.endpoints d e) else None) (ap (is_its h) holds ∙ eq-eqb h h refl)

-- and one that it doesn't hold has none of its transfers
pub not_held : (setup : Setup) (c : Core) (h n d e : ℕ) → is_its h (holder setup c.claims d e) ≡ false → InLine setup c h n d e None
not_held setup c h n d e other = ap (λ (b : Bool). option_and_then (λ (x : KeptEndpoint). kept_in_progress n x.line) (if b then Some (c.endpoints d e) else None)) other

module _ {P : Type 0} where
  -- the first of the number in the line of transfers in flight is the one that is in progress
  pub in_line : (setup : Setup) (s : State P) (c : Core) (h n d e : ℕ) (o : Option ℕ) → IsAt setup s c h d e → position (is_number n) (line_at s.flights d e) ≡ o → InLine setup c h n d e o
  in_line setup s c h n d e None at is =
      ap (λ (x : Option KeptEndpoint). option_and_then (λ (b : KeptEndpoint). kept_in_progress n b.line) x) (own_is setup c h d e at.holds)
      ∙ none_kept (Some h) e n (line_at s.flights d e) (c.endpoints d e).line (end_at setup s c h d e at).line (passes_none (is_number n) (line_at s.flights d e) None is)
  in_line setup s c h n d e (Some item) at is =
      let found = position-Some (is_number n) (line_at s.flights d e) item None is in
      let first = first_kept (Some h) e n (line_at s.flights d e) (c.endpoints d e).line item (end_at setup s c h d e at).line found.0 found.1 found.2 in
      record { kept = first.0; holds = at.holds; there = first.1; first = first.2; its = first.3 }

-- of a name's endpoints: the first one hasn't got it
pub home_behind : (setup : Setup) (c : Core) (h n d : ℕ) (x : EndpointInfo) (xs : List EndpointInfo) → (c.names h).device ≡ Some d → InLine setup c h n d x.address None → kept_home setup c h n (x ∷ xs) ≡ kept_home setup c h n xs
unfolding kept_home
home_behind setup c h n d x xs device none =
    ap (λ (o : Option ℕ). home_in n x.address (option_and_then (λ dev. own_kept setup c h dev x.address) o) (kept_home setup c h n xs)) device
    ∙ by_own (own_kept setup c h d x.address) none
  where
    by_own : (o : Option KeptEndpoint) → option_and_then (λ (b : KeptEndpoint). kept_in_progress n b.line) o ≡ None → home_in n x.address o (kept_home setup c h n xs) ≡ kept_home setup c h n xs
    by_own None is = refl
    by_own (Some b) is = ap (λ (y : Option KeptTransfer). home_by x.address b (kept_home setup c h n xs) y) is

-- or it has
pub home_here : (setup : Setup) (c : Core) (h n d item : ℕ) (x : EndpointInfo) (xs : List EndpointInfo) → (c.names h).device ≡ Some d → (is : IsInLine setup c h n d x.address item)
    → kept_home setup c h n (x ∷ xs) ≡ Some (record { ep = x.address; endpoint = c.endpoints d x.address; kept = is.kept })
unfolding kept_home
home_here setup c h n d item x xs device is =
    ap (λ (o : Option ℕ). home_in n x.address (option_and_then (λ dev. own_kept setup c h dev x.address) o) (kept_home setup c h n xs)) device
    ∙ ap (λ (o : Option KeptEndpoint). home_in n x.address o (kept_home setup c h n xs)) (own_is setup c h d x.address is.holds)
    ∙ ap (λ (y : Option KeptTransfer). home_by x.address (c.endpoints d x.address) (kept_home setup c h n xs) y) is.first

-- a name that isn't open has none
pub home_closed : (setup : Setup) (c : Core) (h n : ℕ) (xs : List EndpointInfo) → (c.names h).device ≡ None → kept_home setup c h n xs ≡ None
unfolding kept_home
home_closed setup c h n [] closed = refl
home_closed setup c h n (x ∷ xs) closed =
    ap (λ (o : Option ℕ). home_in n x.address (option_and_then (λ dev. own_kept setup c h dev x.address) o) (kept_home setup c h n xs)) closed ∙ home_closed setup c h n xs closed

-- what stands from an index on
from_here : {A : Type 0} (xs : List A) (i : ℕ) (x : A) → slice_get xs i ≡ Some x → drop i xs ≡ x ∷ drop (suc i) xs
from_here [] i x there = absurd cc
from_here (y ∷ ys) zero x there = ap (λ (z : _). z ∷ ys) (same_Some y x there)
from_here (y ∷ ys) (suc i) x there = from_here ys i x there

-- nor one whose device has no endpoints
pub home_nowhere : (setup : Setup) (c : Core) (h n d : ℕ) → (c.names h).device ≡ Some d → endpoints_of setup d ≡ [] → kept_home setup c h n (endpoints_of setup (device_of c h)) ≡ None
unfolding kept_home
home_nowhere setup c h n d device none = ap (λ (o : Option ℕ). kept_home setup c h n (endpoints_of setup (unwrap_or o 0))) device ∙ ap (kept_home setup c h n) none

-- the endpoints among which a transfer is looked for, from an index on: those before haven't got it
abbrev pub Searched : Setup → Core → (h n : ℕ) → List EndpointInfo → ℕ → Type 0
Searched setup c h n xs i = kept_home setup c h n (drop i xs) ≡ kept_home setup c h n xs

-- nor has this one
pub searched_on : (setup : Setup) (c : Core) (h n d i : ℕ) (x : EndpointInfo) (xs : List EndpointInfo) → (c.names h).device ≡ Some d → slice_get xs i ≡ Some x → InLine setup c h n d x.address None → Searched setup c h n xs i → Searched setup c h n xs (i + 1)
searched_on setup c h n d i x xs device there none so_far =
    let next : i + 1 ≡ suc i = omega arith in
    ap (λ (k : ℕ). kept_home setup c h n (drop k xs)) next ∙ sym (home_behind setup c h n d x (drop (suc i) xs) device none) ∙ ap (kept_home setup c h n) (sym (from_here xs i x there)) ∙ so_far

-- this one has it
pub searched_here : (setup : Setup) (c : Core) (h n d i item : ℕ) (x : EndpointInfo) (xs : List EndpointInfo) → (c.names h).device ≡ Some d → endpoints_of setup d ≡ xs → slice_get xs i ≡ Some x → IsInLine setup c h n d x.address item
    → Searched setup c h n xs i → IsHome setup c h n d x.address item
searched_here setup c h n d i item x xs device all there is so_far = record {
  device = device;
  line = is;
  home = ap (kept_home setup c h n) all ∙ sym so_far ∙ ap (kept_home setup c h n) (from_here xs i x there) ∙ home_here setup c h n d item x (drop (suc i) xs) device is;
}

-- none has it
pub searched_all : (setup : Setup) (c : Core) (h n d i : ℕ) (xs : List EndpointInfo) → (c.names h).device ≡ Some d → endpoints_of setup d ≡ xs → length xs ≤ i → Searched setup c h n xs i → kept_home setup c h n (endpoints_of setup (device_of c h)) ≡ None
unfolding kept_home
searched_all setup c h n d i xs device all past so_far =
    ap (λ (o : Option ℕ). kept_home setup c h n (endpoints_of setup (unwrap_or o 0))) device ∙ ap (kept_home setup c h n) all ∙ sym so_far ∙ ap (kept_home setup c h n) (drop_of_length-le xs past)

module _ {P : Type 0} where
  -- the device that a name has open
  pub device_is : (setup : Setup) (s : State P) (c : Core) (h : ℕ) (o : Option ℕ) → Keeps setup s c → o ≡ device_at s.claims h → (c.names h).device ≡ o
  device_is setup s c h o keeps is = (keeps.named h).device ∙ sym is

  -- a device's endpoints, by its configuration
  pub endpoints_are : (setup : Setup) (s : State P) (c : Core) (d : ℕ) (x : Configuration) → Keeps setup s c → slice_get s.claims.configs d ≡ Some x → endpoints_of setup d ≡ x.endpoints
  endpoints_are setup s c d x keeps is = by_device (slice_get setup d) refl (sym (slice_get-map (λ (v : DeviceSetup). v.config) setup d) ∙ ap (λ (l : List Configuration). slice_get l d) keeps.set ∙ is)
    where
      by_device : (o : Option DeviceSetup) → slice_get setup d ≡ o → option_map (λ (v : DeviceSetup). v.config) o ≡ Some x → endpoints_of setup d ≡ x.endpoints
      by_device None there same = absurd cc
      by_device (Some v) there same = ap (λ (o : Option DeviceSetup). option_map_or (λ (z : DeviceSetup). z.config.endpoints) o []) there ∙ ap (λ (z : Configuration). z.endpoints) (same_Some v.config x same)

  -- of a device that isn't there none
  pub endpoints_none : (setup : Setup) (s : State P) (c : Core) (d : ℕ) → Keeps setup s c → slice_get s.claims.configs d ≡ None → endpoints_of setup d ≡ []
  endpoints_none setup s c d keeps is = by_device (slice_get setup d) refl (sym (slice_get-map (λ (v : DeviceSetup). v.config) setup d) ∙ ap (λ (l : List Configuration). slice_get l d) keeps.set ∙ is)
    where
      by_device : (o : Option DeviceSetup) → slice_get setup d ≡ o → option_map (λ (v : DeviceSetup). v.config) o ≡ None → endpoints_of setup d ≡ []
      by_device None there same = ap (λ (o : Option DeviceSetup). option_map_or (λ (z : DeviceSetup). z.config.endpoints) o []) there
      by_device (Some v) there same = absurd cc

-- what is read at an index stands there
pub stands_there : {A : Type 0} (xs : List A) (i : ℕ) (x : A) → i < length xs → x ≡ slice_index_or xs i x → slice_get xs i ≡ Some x
stands_there [] i x within is = absurd (omega (arith, within))
stands_there (y ∷ ys) zero x within is = ap (λ (z : _). Some z) (sym is)
stands_there (y ∷ ys) (suc i) x within is = stands_there ys i x (omega (arith, within)) is
