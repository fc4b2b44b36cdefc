-- Where a transfer that is asked to end is found, and what comes of the ask.
use Rattle.std.proofs.Common.{◌≡◌, ℕ, ◌==◌, Bool, true, false, ◌&&◌, ◌||◌, is_some, List, [], ◌∷◌, Option, Some, None, option_map, refl, sym, ap, ◌∙◌}
use Rattle.std.specs.Prelude.{if◌then◌else◌}
use Rattle.std.specs.List.{find}
use Rattle.std.specs.Option.{unwrap_or}
use Rattle.usb_model.specs.declared.refused.Refused.TheVariants.{NotFound}
use Rattle.usb_model.specs.declared.reply.Reply.TheVariants as reply
use Rattle.usb_model.specs.declared.setup.EndpointInfo.{EndpointInfo}
use Rattle.usb_model.specs.declared.endpoint.Endpoint.{Endpoint}
use Rattle.usb_model.specs.declared.item.Ask.{Ask}
use Rattle.usb_model.specs.declared.item.Item.{Item}
use Rattle.usb_model.specs.Setup.{Setup, endpoints_of}
use Rattle.usb_model.specs.Endpoint.{in_progress}
use Rattle.usb_model.specs.Machine.{Machine, device_of, endpoint_at, says, refused_if}
use Rattle.usb_model.specs.Machine.Calls.{Home, home_by, home_in, home_of, ask_in_progress, ask_effect}
use Rattle.usb_model.specs.Endpoint.{has_in_progress}
use Rattle.reference.specs.Asked.{Asks}
use Rattle.reference.proofs.Steps.{end_there, none_there}

-- the address where a search ends
abbrev pub found : Machine → ℕ → ℕ → List EndpointInfo → Option ℕ
found m n dev infos = option_map (λ x. x.address) (find (λ x. has_in_progress n (m.endpoints dev x.address)) infos)

-- an endpoint without the transfer is no home
no_home : (n ep : ℕ) (o : Option Endpoint) (rest : Option Home) → has_in_progress n o ≡ false → home_in n ep o rest ≡ rest
no_home n ep None rest e = refl
no_home n ep (Some endpoint) rest e = by_item (in_progress n endpoint.line) e
  where
    by_item : (o : Option Item) → is_some o ≡ false → home_by ep endpoint rest o ≡ rest
    by_item None q = refl
    by_item (Some x) q = absurd cc

-- a handle that is closed has no home for it
pub closed_has_none : (m : Machine) (n : ℕ) (infos : List EndpointInfo) → m.handle.device ≡ None → home_of m n infos ≡ None
unfolding home_of
closed_has_none m n [] closed = refl
closed_has_none m n (x ∷ infos) closed = rw (none_there m x.address closed) (closed_has_none m n infos closed)

-- where the search finds nothing there is no home
pub nowhere : (m : Machine) (n dev : ℕ) (infos : List EndpointInfo) → m.handle.device ≡ Some dev → found m n dev infos ≡ None → home_of m n infos ≡ None
unfolding home_of
nowhere m n dev [] opened e = refl
nowhere m n dev (x ∷ infos) opened e = by_test (nowhere m n dev infos opened) (has_in_progress n (m.endpoints dev x.address)) refl e
  where
    by_test : (found m n dev infos ≡ None → home_of m n infos ≡ None) → (b : Bool) → has_in_progress n (m.endpoints dev x.address) ≡ b
        → option_map (λ y. y.address) (if b then Some x else find (λ y. has_in_progress n (m.endpoints dev y.address)) infos) ≡ None
        → home_in n x.address (endpoint_at m x.address) (home_of m n infos) ≡ None
    by_test rest true q none = absurd cc
    by_test rest false q none = rw (end_there m dev x.address (m.endpoints dev x.address) opened refl) (no_home n x.address (m.endpoints dev x.address) (home_of m n infos) q ∙ rest none)

-- what it finds has the transfer
pub found_has : (m : Machine) (n dev : ℕ) (infos : List EndpointInfo) (ep : ℕ) → found m n dev infos ≡ Some ep → has_in_progress n (m.endpoints dev ep) ≡ true
found_has m n dev [] ep e = absurd cc
found_has m n dev (x ∷ infos) ep e = by_test (found_has m n dev infos ep) (has_in_progress n (m.endpoints dev x.address)) refl e
  where
    by_test : (found m n dev infos ≡ Some ep → has_in_progress n (m.endpoints dev ep) ≡ true) → (b : Bool) → has_in_progress n (m.endpoints dev x.address) ≡ b
        → option_map (λ y. y.address) (if b then Some x else find (λ y. has_in_progress n (m.endpoints dev y.address)) infos) ≡ Some ep
        → has_in_progress n (m.endpoints dev ep) ≡ true
    by_test rest true q some = let same : x.address ≡ ep = cc in rw (← same) q
    by_test rest false q some = rest some

-- and is its home
pub is_home : (m : Machine) (n dev : ℕ) (infos : List EndpointInfo) (ep : ℕ) (e : Endpoint) (item : Item) → m.handle.device ≡ Some dev → found m n dev infos ≡ Some ep → m.endpoints dev ep ≡ Some e
    → in_progress n e.line ≡ Some item → home_of m n infos ≡ Some (record { ep = ep; endpoint = e; item = item })
unfolding home_of
is_home m n dev [] ep e item opened some there it = absurd cc
is_home m n dev (x ∷ infos) ep e item opened some there it = by_test (λ q. is_home m n dev infos ep e item opened q there it) (has_in_progress n (m.endpoints dev x.address)) refl some
  where
    by_test : (found m n dev infos ≡ Some ep → home_of m n infos ≡ Some (record { ep = ep; endpoint = e; item = item })) → (b : Bool) → has_in_progress n (m.endpoints dev x.address) ≡ b
        → option_map (λ y. y.address) (if b then Some x else find (λ y. has_in_progress n (m.endpoints dev y.address)) infos) ≡ Some ep
        → home_in n x.address (endpoint_at m x.address) (home_of m n infos) ≡ Some (record { ep = ep; endpoint = e; item = item })
    by_test rest true q at = let same : x.address ≡ ep = cc in rw (same, end_there m dev ep (Some e) opened there, it)
    by_test rest false q at = rw (end_there m dev x.address (m.endpoints dev x.address) opened refl) (no_home n x.address (m.endpoints dev x.address) (home_of m n infos) q ∙ rest at)

-- the endpoints where it is sought are those of the device that the handle opened
sought_at : (setup : Setup) (m : Machine) (n dev : ℕ) → m.handle.device ≡ Some dev → home_of m n (endpoints_of setup (device_of m)) ≡ home_of m n (endpoints_of setup dev)
sought_at setup m n dev opened = ap (λ o. home_of m n (endpoints_of setup (unwrap_or o 0))) opened

-- an ask for what has no home is refused
pub asks_nothing : (setup : Setup) (m : Machine) (n : ℕ) (ask : Ask) (timed : Bool) → home_of m n (endpoints_of setup (device_of m)) ≡ None → ask_effect setup m n ask timed ≡ says m (reply.Refused NotFound)
unfolding ask_effect ask_in_progress
asks_nothing setup m n ask timed e = rw e

-- as is one of a closed handle
pub closed_asks_nothing : (setup : Setup) (m : Machine) (n : ℕ) (ask : Ask) (timed : Bool) → m.handle.device ≡ None → ask_effect setup m n ask timed ≡ says m (reply.Refused NotFound)
closed_asks_nothing setup m n ask timed closed = asks_nothing setup m n ask timed (closed_has_none m n (endpoints_of setup (device_of m)) closed)

-- and one where the search finds nothing
pub vain_search : (setup : Setup) (m : Machine) (n dev : ℕ) (ask : Ask) (timed : Bool) → m.handle.device ≡ Some dev → found m n dev (endpoints_of setup dev) ≡ None → ask_effect setup m n ask timed ≡ says m (reply.Refused NotFound)
vain_search setup m n dev ask timed opened e = asks_nothing setup m n ask timed (sought_at setup m n dev opened ∙ nowhere m n dev (endpoints_of setup dev) opened e)

-- the search doesn't end at an endpoint that isn't the handle's
pub no_end_found : (m : Machine) (n dev : ℕ) (infos : List EndpointInfo) (ep : ℕ) → found m n dev infos ≡ Some ep → m.endpoints dev ep ≡ None → ⊥
no_end_found m n dev infos ep e none = apart (sym (ap (has_in_progress n) none) ∙ found_has m n dev infos ep e)
  where
    apart : false ≡ true → ⊥
    apart q = cc

-- nor at one where the transfer isn't in progress
pub no_item_found : (m : Machine) (n dev : ℕ) (infos : List EndpointInfo) (ep : ℕ) (e : Endpoint) → found m n dev infos ≡ Some ep → m.endpoints dev ep ≡ Some e → in_progress n e.line ≡ None → ⊥
no_item_found m n dev infos ep e some there none = apart (sym (ap (has_in_progress n) there ∙ ap is_some none) ∙ found_has m n dev infos ep some)
  where
    apart : false ≡ true → ⊥
    apart q = cc

-- what the search found is asked, or not
abbrev IsFound : Setup → Machine → ℕ → ℕ → ℕ → Endpoint → Item → Type 0
IsFound setup m n dev ep e item = (m.handle.device ≡ Some dev) × (found m n dev (endpoints_of setup dev) ≡ Some ep) × (m.endpoints dev ep ≡ Some e) × (in_progress n e.line ≡ Some item)

-- whether an ask of it would be in vain
abbrev pub is_in_vain : Item → Bool → Bool
is_in_vain item timed = is_some item.ask || (timed && (item.request.timeout == 0))

home_found : (setup : Setup) (m : Machine) (n dev ep : ℕ) (e : Endpoint) (item : Item) → IsFound setup m n dev ep e item → home_of m n (endpoints_of setup (device_of m)) ≡ Some (record { ep = ep; endpoint = e; item = item })
home_found setup m n dev ep e item f = sought_at setup m n dev f.0 ∙ is_home m n dev (endpoints_of setup dev) ep e item f.0 f.1 f.2 f.3

-- an ask is refused that comes second, or for want of a timeout
pub asks_in_vain : (setup : Setup) (m : Machine) (n dev ep : ℕ) (e : Endpoint) (item : Item) (ask : Ask) (timed : Bool) → m.handle.device ≡ Some dev → found m n dev (endpoints_of setup dev) ≡ Some ep
    → m.endpoints dev ep ≡ Some e → in_progress n e.line ≡ Some item → is_in_vain item timed ≡ true → ask_effect setup m n ask timed ≡ says m (reply.Refused NotFound)
unfolding ask_effect ask_in_progress refused_if
asks_in_vain setup m n dev ep e item ask timed opened some there it test = rw (home_found setup m n dev ep e item (opened, some, there, it), test)

-- else it is kept
pub asks_it : (setup : Setup) (m : Machine) (n dev ep : ℕ) (e : Endpoint) (item : Item) (ask : Ask) (timed : Bool) → m.handle.device ≡ Some dev → found m n dev (endpoints_of setup dev) ≡ Some ep
    → m.endpoints dev ep ≡ Some e → in_progress n e.line ≡ Some item → is_in_vain item timed ≡ false → Asks setup m dev n ask timed ep
unfolding ask_effect ask_in_progress refused_if
asks_it setup m n dev ep e item ask timed opened some there it test x found_there =
    let same : x ≡ e = cc in
    rw (home_found setup m n dev ep e item (opened, some, there, it), test, opened, same)
