-- What isn't quiet: it is found exactly where not all is quiet.
use Rattle.std.proofs.Common.{◌≡◌, ℕ, Bool, true, false, not, ◌&&◌, ◌||◌, List, [], ◌∷◌, Option, Some, None, ap, sym, ◌∙◌, cond}
use Rattle.std.specs.List.{find, list_all}
use Rattle.std.specs.Option.{option_and_then, option_map_or, unwrap_or}
use Rattle.usb_model.specs.declared.refusal.Obstacle.{Obstacle}
use Rattle.usb_model.specs.declared.refusal.Obstacle.TheVariants as obstacle
use Rattle.usb_model.specs.declared.setup.EndpointInfo.{EndpointInfo}
use Rattle.usb_model.specs.Machine.{Machine, device_of, endpoint_at, is_quiet}
use Rattle.usb_model.specs.Machine.Calls.{busy_at, quiet_facts}
use Rattle.usb_model.specs.Setup.{Setup, endpoints_of}

-- whether an endpoint is meant, and isn't quiet
abbrev pub is_unquiet : Machine → (EndpointInfo → Bool) → EndpointInfo → Bool
is_unquiet m test x = test x && not (is_quiet m x.address (endpoint_at m x.address))

-- among these endpoints one is found that isn't quiet, or all that are meant are
pub found_or_quiet : (m : Machine) (test : EndpointInfo → Bool) (infos : List EndpointInfo) (o : Option EndpointInfo) → find (is_unquiet m test) infos ≡ o
    → list_all (λ x. not (test x) || is_quiet m x.address (endpoint_at m x.address)) infos ≡ option_map_or (λ x. false) o true
found_or_quiet m test [] o e = ap (λ p. option_map_or (λ x. false) p true) e
found_or_quiet m test (x ∷ infos) o e = by_test (found_or_quiet m test infos o) (test x) (is_quiet m x.address (endpoint_at m x.address)) e
  where
    by_test : (find (is_unquiet m test) infos ≡ o → list_all (λ y. not (test y) || is_quiet m y.address (endpoint_at m y.address)) infos ≡ option_map_or (λ y. false) o true)
        → (b q : Bool) → cond (b && not q) (Some x) (find (is_unquiet m test) infos) ≡ o
        → ((not b || q) && list_all (λ y. not (test y) || is_quiet m y.address (endpoint_at m y.address)) infos) ≡ option_map_or (λ y. false) o true
    by_test rest false q found = rest found
    by_test rest true true found = rest found
    by_test rest true false found = ap (λ p. option_map_or (λ y. false) p true) found

-- of a handle that opened a device
module _ (setup : Setup) (m : Machine) (dev : ℕ) (test : EndpointInfo → Bool) (opened : m.handle.device ≡ Some dev) where
  -- the endpoints that are looked through are those of its device
  found_there : (o : Option EndpointInfo) → o ≡ find (λ x. test x && not (is_quiet m x.address (m.endpoints dev x.address))) (endpoints_of setup dev) → find (is_unquiet m test) (endpoints_of setup (device_of m)) ≡ o
  found_there o e =
      ap (λ (p : Option ℕ). find (λ x. test x && not (is_quiet m x.address (option_and_then (λ d. m.endpoints d x.address) p))) (endpoints_of setup (unwrap_or p 0))) opened ∙ sym e

  -- where none is found all is quiet
  pub all_quiet : None ≡ find (λ x. test x && not (is_quiet m x.address (m.endpoints dev x.address))) (endpoints_of setup dev) → (quiet_facts setup m test).quiet ≡ true
  all_quiet e = found_or_quiet m test (endpoints_of setup (device_of m)) None (found_there None e)

  -- where one is found not all is, and what is in the way there is told
  pub not_quiet : (x : EndpointInfo) → Some x ≡ find (λ y. test y && not (is_quiet m y.address (m.endpoints dev y.address))) (endpoints_of setup dev) → (quiet_facts setup m test).quiet ≡ false
  not_quiet x e = found_or_quiet m test (endpoints_of setup (device_of m)) (Some x) (found_there (Some x) e)

  pub obstacle_told : (x : EndpointInfo) (o : Obstacle) → Some x ≡ find (λ y. test y && not (is_quiet m y.address (m.endpoints dev y.address))) (endpoints_of setup dev)
      → o ≡ busy_at m x.address (m.endpoints dev x.address) → o ≡ (quiet_facts setup m test).obstacle
  obstacle_told x o e told =
      told
      ∙ ap (λ (p : Option ℕ). busy_at m x.address (option_and_then (λ d. m.endpoints d x.address) p)) (sym opened)
      ∙ ap (λ (p : Option EndpointInfo). option_map_or (λ y. busy_at m y.address (endpoint_at m y.address)) p obstacle.Numbers) (sym (found_there (Some x) e))
