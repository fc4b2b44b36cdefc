-- Who holds an endpoint, and whether all of a name's are quiet.
use Rattle.std.proofs.Common.{◌≡◌, ℕ, ◌==◌, Bool, true, false, not, inl, inr, List, [], ◌∷◌, length, Option, Some, None, option_map, refl, ap, sym, ◌∙◌, subst}
use Rattle.std.specs.Prelude.{◌≢◌, if◌then◌else◌, is_none, option_and_then, unwrap_or}
use Rattle.std.specs.List.{AllByRecursion, find, list_any, list_all}
use Rattle.std.proofs.lemmas.Bool.{eqb-true, eqb-false, ne_eqb, and_parts, and_from, or_parts, or_from, not-true}
use Rattle.usb_model.specs.declared.errand.Errand.{Errand}
use Rattle.usb_model.specs.declared.item.Item.{Item}
use Rattle.usb_model.specs.declared.setup.EndpointInfo.{EndpointInfo}
use Rattle.usb_model.specs.declared.result.InCallback.{InCallback}
use Rattle.usb_model.specs.declared.result.TransferResult.{TransferResult}
use Rattle.usb_model.specs.declared.shared.Tagged.{Tagged}
use Rattle.usb_model.specs.Setup.{Setup, endpoints_of, info_of, interface_of}
use Rattle.usb_model.specs.Machine.{is_result_at, is_callback_at, is_quiet, are_quiet}
use Rattle.usb_model.specs.World.{World, holder, is_its, own_endpoint, machine_of}
use Rattle.usb_model.specs.World.Shared.{pieces_of}
use Rattle.proof_model.proofs.Lists.Pieces.{same_name}
use Rattle.proof_laws.specs.Holders.{HoldsEndpoint, NobodyHolds, IsQuiet, AreQuiet}

-- who holds the interface of an endpoint is its holder
pub holder_is : (setup : Setup) (w : World) (h dev ep : ℕ) → HoldsEndpoint setup w h dev ep → holder setup w.claims dev ep ≡ Some h
holder_is setup w h dev ep x = ap (option_and_then (λ i. w.claims dev i)) x.within ∙ x.holds

-- and the other way round
pub holds_it : (setup : Setup) (w : World) (h dev ep : ℕ) → holder setup w.claims dev ep ≡ Some h → HoldsEndpoint setup w h dev ep
holds_it setup w h dev ep e = by_interface (interface_of setup dev ep) refl e
  where
    by_interface : (o : Option ℕ) → interface_of setup dev ep ≡ o → option_and_then (λ i. w.claims dev i) o ≡ Some h → HoldsEndpoint setup w h dev ep
    by_interface None is e = absurd cc
    by_interface (Some i) is e = record { i = i; within = is; holds = e }

-- an endpoint without a holder is held by nobody
pub nobody_holds : (setup : Setup) (w : World) (dev ep : ℕ) → holder setup w.claims dev ep ≡ None → NobodyHolds setup w dev ep
nobody_holds setup w dev ep e = by_interface (interface_of setup dev ep) refl e
  where
    by_interface : (o : Option ℕ) → interface_of setup dev ep ≡ o → option_and_then (λ i. w.claims dev i) o ≡ None → NobodyHolds setup w dev ep
    by_interface None is e = inl is
    by_interface (Some i) is e = inr (i, is, e)

-- and the other way round
pub no_holder : (setup : Setup) (w : World) (dev ep : ℕ) → NobodyHolds setup w dev ep → holder setup w.claims dev ep ≡ None
no_holder setup w dev ep (inl none) = ap (option_and_then (λ i. w.claims dev i)) none
no_holder setup w dev ep (inr x) = ap (option_and_then (λ i. w.claims dev i)) x.1 ∙ x.2

-- a holder sees its endpoint
own_seen : (setup : Setup) (w : World) (h dev ep : ℕ) → HoldsEndpoint setup w h dev ep → own_endpoint setup h w dev ep ≡ Some (w.endpoints dev ep)
own_seen setup w h dev ep x =
    ap (λ o. if is_its h o then Some (w.endpoints dev ep) else None) (holder_is setup w h dev ep x) ∙ rw (same_name h) refl

-- an empty line, by its test
no_items : (line : List Item) → (length line == 0) ≡ true → line ≡ []
no_items [] e = refl
no_items (x ∷ xs) e = absurd (cc (eqb-true (length (x ∷ xs)) 0 e))

-- no errand, by its test
no_errand : (o : Option Errand) → is_none o ≡ true → o ≡ None
no_errand None e = refl
no_errand (Some x) e = absurd cc

-- each result of the name's is of another endpoint
abbrev ResultsElsewhere : ℕ → ℕ → List (Tagged TransferResult) → Type 0
ResultsElsewhere h ep xs = AllByRecursion (λ x. x.name ≡ h → x.piece.request.ep ≢ ep) xs

-- each callback is
abbrev CallbacksElsewhere : ℕ → List InCallback → Type 0
CallbacksElsewhere ep xs = AllByRecursion (λ x. x.request.ep ≢ ep) xs

-- where no result of the name's passes the test
no_result : (h ep : ℕ) (xs : List (Tagged TransferResult)) → list_any (is_result_at ep) (pieces_of h xs) ≡ false → ResultsElsewhere h ep xs
no_result h ep [] e = tt
no_result h ep (x ∷ xs) e = by_test (x.name == h) refl e (no_result h ep xs)
  where
    by_test : (b : Bool) → (x.name == h) ≡ b → list_any (is_result_at ep) (if b then x.piece ∷ pieces_of h xs else pieces_of h xs) ≡ false
        → (list_any (is_result_at ep) (pieces_of h xs) ≡ false → ResultsElsewhere h ep xs) → ResultsElsewhere h ep (x ∷ xs)
    by_test true is e rest = let p = or_parts (x.piece.request.ep == ep) (list_any (is_result_at ep) (pieces_of h xs)) e in (λ its. eqb-false x.piece.request.ep ep p.0, rest p.1)
    by_test false is e rest = (λ its. absurd (eqb-false x.name h is its), rest e)

-- and the other way round
result_none : (h ep : ℕ) (xs : List (Tagged TransferResult)) → ResultsElsewhere h ep xs → list_any (is_result_at ep) (pieces_of h xs) ≡ false
result_none h ep [] all = refl
result_none h ep (x ∷ xs) all = by_test (x.name == h) refl (result_none h ep xs all.1)
  where
    by_test : (b : Bool) → (x.name == h) ≡ b → list_any (is_result_at ep) (pieces_of h xs) ≡ false → list_any (is_result_at ep) (if b then x.piece ∷ pieces_of h xs else pieces_of h xs) ≡ false
    by_test true is rest = or_from (x.piece.request.ep == ep) (list_any (is_result_at ep) (pieces_of h xs)) (ne_eqb x.piece.request.ep ep (all.0 (eqb-true x.name h is))) rest
    by_test false is rest = rest

-- where no callback passes the test
no_callback : (ep : ℕ) (xs : List InCallback) → list_any (is_callback_at ep) xs ≡ false → CallbacksElsewhere ep xs
no_callback ep [] e = tt
no_callback ep (x ∷ xs) e = let p = or_parts (x.request.ep == ep) (list_any (is_callback_at ep) xs) e in (eqb-false x.request.ep ep p.0, no_callback ep xs p.1)

-- and the other way round
callback_none : (ep : ℕ) (xs : List InCallback) → CallbacksElsewhere ep xs → list_any (is_callback_at ep) xs ≡ false
callback_none ep [] all = refl
callback_none ep (x ∷ xs) all = or_from (x.request.ep == ep) (list_any (is_callback_at ep) xs) (ne_eqb x.request.ep ep all.0) (callback_none ep xs all.1)

-- nothing is under way at an endpoint that is quiet
rests_there : (setup : Setup) (w : World) (h dev ep : ℕ) → is_quiet (machine_of setup h w) ep (Some (w.endpoints dev ep)) ≡ true → IsQuiet w h dev ep
unfolding machine_of
rests_there setup w h dev ep e =
    let a = and_parts (length (w.endpoints dev ep).line == 0) _ e in
    let b = and_parts (is_none (w.endpoints dev ep).errand) _ a.1 in
    let c = and_parts (not (list_any (is_result_at ep) (pieces_of h w.results))) _ b.1 in
    record {
      line = no_items (w.endpoints dev ep).line a.0;
      errand = no_errand (w.endpoints dev ep).errand b.0;
      results = no_result h ep w.results (not-true _ c.0);
      callbacks = no_callback ep (w.names h).in_callbacks (not-true _ c.1);
    }

-- and the other way round
quiet_there : (setup : Setup) (w : World) (h dev ep : ℕ) → IsQuiet w h dev ep → is_quiet (machine_of setup h w) ep (Some (w.endpoints dev ep)) ≡ true
unfolding machine_of
quiet_there setup w h dev ep x =
    rw (x.line, x.errand, result_none h ep w.results x.results, callback_none ep (w.names h).in_callbacks x.callbacks) refl

-- an endpoint that has an interface is among those that all pass a test, and passes it
found_passes : (test : EndpointInfo → Bool) (ep i : ℕ) (xs : List EndpointInfo) → list_all test xs ≡ true → option_map (λ x. x.interface) (find (λ x. x.address == ep) xs) ≡ Some i
    → (x : EndpointInfo) × (x.address ≡ ep) × (test x ≡ true)
found_passes test ep i [] all found = absurd cc
found_passes test ep i (x ∷ xs) all found = by_test (x.address == ep) refl found (found_passes test ep i xs p.1)
  where
    p : (test x ≡ true) × (list_all test xs ≡ true)
    p = and_parts (test x) (list_all test xs) all

    by_test : (b : Bool) → (x.address == ep) ≡ b → option_map (λ x. x.interface) (if b then Some x else find (λ x. x.address == ep) xs) ≡ Some i
        → (option_map (λ x. x.interface) (find (λ x. x.address == ep) xs) ≡ Some i → (x : EndpointInfo) × (x.address ≡ ep) × (test x ≡ true))
        → (x : EndpointInfo) × (x.address ≡ ep) × (test x ≡ true)
    by_test true is q rest = (x, eqb-true x.address ep is, p.0)
    by_test false is q rest = rest q

-- all pass a test that each passes
all_pass : (test : EndpointInfo → Bool) (xs : List EndpointInfo) → ((x : EndpointInfo) → test x ≡ true) → list_all test xs ≡ true
all_pass test [] each = refl
all_pass test (x ∷ xs) each = and_from (test x) (list_all test xs) (each x) (all_pass test xs each)

-- whether a name's endpoint of this address is quiet
abbrev is_own_quiet : Setup → World → ℕ → ℕ → ℕ → Bool
is_own_quiet setup w h dev ep = is_quiet (machine_of setup h w) ep (own_endpoint setup h w dev ep)

-- whether all are, at a device
abbrev are_own_quiet : Setup → World → ℕ → ℕ → Bool
are_own_quiet setup w h dev = list_all (λ x. is_own_quiet setup w h dev x.address) (endpoints_of setup dev)

-- that is what a machine with that device asks
are_quiet_is : (setup : Setup) (w : World) (h dev : ℕ) → (w.names h).device ≡ Some dev → are_quiet setup (machine_of setup h w) (λ x. true) ≡ are_own_quiet setup w h dev
unfolding machine_of
are_quiet_is setup w h dev opened =
    ap (λ o. list_all (λ x. is_quiet (machine_of setup h w) x.address (option_and_then (λ d. own_endpoint setup h w d x.address) o)) (endpoints_of setup (unwrap_or o 0))) opened

-- where the test says so, nothing is under way at the name's endpoints
pub all_quiet : (setup : Setup) (w : World) (h dev : ℕ) → (w.names h).device ≡ Some dev → are_quiet setup (machine_of setup h w) (λ x. true) ≡ true → AreQuiet setup w h dev
unfolding info_of
all_quiet setup w h dev opened e ep x =
    let f = found_passes (λ k. is_own_quiet setup w h dev k.address) ep x.i (endpoints_of setup dev) (sym (are_quiet_is setup w h dev opened) ∙ e) x.within in
    let q : is_own_quiet setup w h dev ep ≡ true = subst (λ k. is_own_quiet setup w h dev k ≡ true) f.1 f.2 in
    rests_there setup w h dev ep (sym (ap (is_quiet (machine_of setup h w) ep) (own_seen setup w h dev ep x)) ∙ q)

-- and the other way round
pub quiet_all : (setup : Setup) (w : World) (h dev : ℕ) → (w.names h).device ≡ Some dev → AreQuiet setup w h dev → are_quiet setup (machine_of setup h w) (λ x. true) ≡ true
quiet_all setup w h dev opened all = are_quiet_is setup w h dev opened ∙ all_pass (λ x. is_own_quiet setup w h dev x.address) (endpoints_of setup dev) (λ x. each x.address)
  where
    each : (ep : ℕ) → is_own_quiet setup w h dev ep ≡ true
    each ep = by_holder (holder setup w.claims dev ep) refl
      where
        by_test : (g : ℕ) → holder setup w.claims dev ep ≡ Some g → (b : Bool) → (g == h) ≡ b → is_quiet (machine_of setup h w) ep (if b then Some (w.endpoints dev ep) else None) ≡ true
        by_test g is true its = quiet_there setup w h dev ep (all ep (holds_it setup w h dev ep (is ∙ ap (λ k. Some k) (eqb-true g h its))))
        by_test g is false its = refl

        by_holder : (o : Option ℕ) → holder setup w.claims dev ep ≡ o → is_quiet (machine_of setup h w) ep (if is_its h o then Some (w.endpoints dev ep) else None) ≡ true
        by_holder None is = refl
        by_holder (Some g) is = by_test g is (g == h) refl
