-- A name resets its device: the step of the core.
use Rattle.std.proofs.Common.{◌≡◌, ℕ, Bool, true, false, refl, ap, sym, subst, ◌∙◌, List, [], ◌∷◌, Option, Some, None, ◌⊎◌, inl, inr, eq-eqb}
use Rattle.std.specs.Prelude.{is_some, not, ◌&&◌, ◌==◌, if◌then◌else◌}
use Rattle.std.specs.List.{list_any}
use Rattle.std.specs.Option.{option_and_then, unwrap_or}
use Rattle.std.proofs.lemmas.Bool.{eqb-true}
use Rattle.usb_model.specs.declared.effect.Change.TheVariants.{Renews}
use Rattle.usb_model.specs.declared.refused.Refused.{Refused as Why}
use Rattle.usb_model.specs.declared.refused.Refused.TheVariants.{Busy, HeldElsewhere, NoDevice, NotFound}
use Rattle.usb_model.specs.declared.reply.Reply.TheVariants.{Done, Refused}
use Rattle.usb_model.specs.declared.step.Step.TheVariants.{Reset}
use Rattle.usb_model.specs.Setup.{Setup, endpoint_id, endpoints_of, interface_of, interfaces_of, script_of}
use Rattle.usb_model.specs.World.{Claims, World, holder, is_its, is_others}
use Rattle.usb_tables.specs.Holders.{device_of, others_hold, owner_of}
use Rattle.usb_model.specs.Kept.{KeptEndpoint, new_kept_endpoint}
use Rattle.usb_xhc.specs.Controller.{Controller}
use Rattle.refine_world.specs.Calls as calling
use Rattle.refine_world.specs.Calls.{are_quiet, is_gone, is_open, reset_core, rests, step_core}
use Rattle.refine_world.specs.Shows.{Core, Shows}
use Rattle.refine_world.specs.Steps.{rested}
use Rattle.refine_rings.specs.Holds.{HoldsCore}
use Rattle.refine_core.specs.Handles.{AreQuiet, IsLeft, StaysHeld, StaysLeft, first_why, gone_in, says}
use Rattle.refine_core.specs.Renewals.{RenewedAll, is_held_by, renewed_by}
use Rattle.refine_core.specs.State.{Keeps, State}
use Rattle.refine_core.specs.Steps.{DoesCoreStep}
use Rattle.refine_core.proofs.Freed.{holder_device, its_is, named_still}
use Rattle.refine_core.proofs.Gone.{gone_is, interfaces_are}
use Rattle.refine_core.proofs.Moves.{still_idle}
use Rattle.refine_core.proofs.Quiet.{all_left}
use Rattle.refine_core.proofs.Refusals.{accepted_is, refused_is}
use Rattle.refine_core.proofs.Renewals.{IsRenewable, renews_all, rings_renewed_by}
use Rattle.refine_core.proofs.Rested.{bare_left, keeps_rested}
use Rattle.refine_core.proofs.Ringed.{IsBare, SameRings, rings_as}
use Rattle.refine_core.proofs.Same.{holds_as}

-- the tests of the core
abbrev reset_tests : Setup → Core → ℕ → List (Bool × Why)
reset_tests setup c h = (not (is_open c h), NotFound) ∷ (is_gone c h, NoDevice) ∷ (not (are_quiet setup c h (λ x. true)), Busy) ∷ (calling.others_hold setup c h, HeldElsewhere) ∷ []

-- an endpoint that is a name's has an interface
held_interface : (setup : Setup) (claims : Claims) (h d e : ℕ) → holder setup claims d e ≡ Some h → (i : ℕ) × (interface_of setup d e ≡ Some i)
held_interface setup claims h d e holds = by_interface (interface_of setup d e) refl holds
  where
    by_interface : (o : Option ℕ) → interface_of setup d e ≡ o → option_and_then (λ k. claims d k) o ≡ Some h → (i : ℕ) × (interface_of setup d e ≡ Some i)
    by_interface None is held = absurd cc
    by_interface (Some i) is held = (i, is)

module _ {P : Type 0} where
  -- a reset's tests, by what the parts say
  reset_first : (setup : Setup) (w : World) (s : State P) (c : Core) (h d : ℕ) (a b : Bool) → Keeps setup s c → Shows setup w c → device_of s.claims h ≡ Some d → gone_in s.controller d ≡ a → b ≡ are_quiet setup c h (λ x. true)
      → first_why (reset_tests setup c h) ≡ (if a then Some NoDevice else if not b then Some Busy else if others_hold s.claims h d then Some HeldElsewhere else None)
  reset_first setup w s c h d a b keeps shows device gone quiet =
      ap (λ (o : Option ℕ). if not (is_some o) then Some NotFound else if c.gone (unwrap_or o 0) then Some NoDevice else if not (are_quiet setup c h (λ x. true)) then Some Busy
      else if list_any (λ i. is_others h (c.claims (unwrap_or o 0) i)) (interfaces_of setup (unwrap_or o 0)) then Some HeldElsewhere else None)
      ((keeps.named h).device ∙ device)
      ∙ ap (λ (x : Bool). if x then Some NoDevice else if not (are_quiet setup c h (λ x. true)) then Some Busy else if list_any (λ i. is_others h (c.claims d i)) (interfaces_of setup d) then Some HeldElsewhere else None) (sym (gone_is setup w s c d keeps shows) ∙ gone)
      ∙ ap (λ (x : Bool). if a then Some NoDevice else if not x then Some Busy else if list_any (λ i. is_others h (c.claims d i)) (interfaces_of setup d) then Some HeldElsewhere else None) (sym quiet)
      ∙ ap (λ (f : ℕ → Option ℕ). if a then Some NoDevice else if not b then Some Busy else if list_any (λ i. is_others h (f i)) (interfaces_of setup d) then Some HeldElsewhere else None) owners
      ∙ ap (λ (l : List ℕ). if a then Some NoDevice else if not b then Some Busy else if list_any (λ i. is_others h (owner_of s.claims d i)) l then Some HeldElsewhere else None) (sym (interfaces_are s.claims setup d keeps.set))
    where
      owners : ◌≡◌ {A = ℕ → Option ℕ} (λ i. c.claims d i) (λ i. owner_of s.claims d i)
      owners = λ j. λ i. keeps.claimed d i j

  -- no device is open
  pub resets_none : (s : State P) (h : ℕ) → device_of s.claims h ≡ None → DoesCoreStep s (Reset h) (says h (Refused NotFound)) s
  unfolding step_core reset_core
  resets_none s h none setup w c keeps shows =
      refused_is setup s c h (reset_tests setup c h) (rests setup c h (c.names h) (Reset h) (Renews (calling.device_of c h))) NotFound keeps
      (ap (λ (o : Option ℕ). first_why ((not (is_some o), NotFound) ∷ (is_gone c h, NoDevice) ∷ (not (are_quiet setup c h (λ x. true)), Busy) ∷ (calling.others_hold setup c h, HeldElsewhere) ∷ [])) ((keeps.named h).device ∙ none))

  -- the device is gone
  pub resets_gone : (s : State P) (h d : ℕ) → device_of s.claims h ≡ Some d → gone_in s.controller d ≡ true → DoesCoreStep s (Reset h) (says h (Refused NoDevice)) s
  unfolding step_core reset_core
  resets_gone s h d device gone setup w c keeps shows =
      refused_is setup s c h (reset_tests setup c h) (rests setup c h (c.names h) (Reset h) (Renews (calling.device_of c h))) NoDevice keeps
      (reset_first setup w s c h d true (are_quiet setup c h (λ x. true)) keeps shows device gone refl)

  -- something is under way
  pub resets_busy : (s : State P) (h d : ℕ) → device_of s.claims h ≡ Some d → gone_in s.controller d ≡ false → AreQuiet s h d None false → DoesCoreStep s (Reset h) (says h (Refused Busy)) s
  unfolding step_core reset_core
  resets_busy s h d device still busy setup w c keeps shows =
      refused_is setup s c h (reset_tests setup c h) (rests setup c h (c.names h) (Reset h) (Renews (calling.device_of c h))) Busy keeps
      (reset_first setup w s c h d false false keeps shows device still (busy setup c keeps ((keeps.named h).device ∙ device)))

  -- another holds an interface
  pub resets_others : (s : State P) (h d : ℕ) → device_of s.claims h ≡ Some d → gone_in s.controller d ≡ false → AreQuiet s h d None true → others_hold s.claims h d ≡ true → DoesCoreStep s (Reset h) (says h (Refused HeldElsewhere)) s
  unfolding step_core reset_core
  resets_others s h d device still quiet others setup w c keeps shows =
      refused_is setup s c h (reset_tests setup c h) (rests setup c h (c.names h) (Reset h) (Renews (calling.device_of c h))) HeldElsewhere keeps
      (reset_first setup w s c h d false true keeps shows device still (quiet setup c keeps ((keeps.named h).device ∙ device))
      ∙ ap (λ (b : Bool). if b then Some HeldElsewhere else None) others)

  -- its endpoints that the name holds are made new
  pub resets_now : (s : State P) (h d : ℕ) (k : Controller) → device_of s.claims h ≡ Some d → gone_in s.controller d ≡ false → AreQuiet s h d None true → others_hold s.claims h d ≡ false
      → RenewedAll s.claims s.controller k d (λ setup e. is_held_by setup s.claims h d e) → DoesCoreStep s (Reset h) (says h Done) (record s { controller = k })
  unfolding step_core reset_core
  resets_now s h d k device still quiet none renewed setup w c keeps shows =
      accepted_is setup (record s { controller = k }) c h (reset_tests setup c h) (rests setup c h (c.names h) (Reset h) (Renews (calling.device_of c h))) (says h Done)
      (reset_first setup w s c h d false true keeps shows device still all ∙ ap (λ (b : Bool). if b then Some HeldElsewhere else None) none) (
        refl,
        keeps_rested setup s s.claims k c after rings keeps (record {
          configs = refl;
          held = held;
          claimed = keeps.claimed;
          named = named_still s.claims c.names h (λ g. (keeps.named g).device);
          results = refl;
          ends = λ x e i there. by_end x e i there (is_its h (holder setup c.claims x e)) refl;
        }),
      )
    where
      after : Core
      after = rested setup h (c.names h) (Reset h) (Renews (calling.device_of c h)) c

      all : true ≡ are_quiet setup c h (λ x. true)
      all = quiet setup c keeps ((keeps.named h).device ∙ device)

      -- whose an endpoint is, by the tables
      holders : (x e : ℕ) → is_held_by setup s.claims h x e ≡ is_its h (holder setup c.claims x e)
      holders x e = sym (ap (λ (f : Claims). is_its h (holder setup f x e)) same_claims)
        where
          same_claims : ◌≡◌ {A = Claims} (λ y i. c.claims y i) (λ y i. owner_of s.claims y i)
          same_claims = λ j. λ (y i : ℕ). keeps.claimed y i j

      left : (x e i : ℕ) → interface_of setup x e ≡ Some i → holder setup c.claims x e ≡ Some h → IsLeft (c.endpoints x e)
      left x e i there holds = all_left setup c h x e i None (sym all) (holder_device setup w s c h x e keeps shows holds) holds there (λ j is. absurd cc)

      fresh : (e : ℕ) → is_held_by setup s.claims h d e ≡ true → IsRenewable setup c.orders d e
      fresh e its =
          let holds : holder setup c.claims d e ≡ Some h = its_is h (holder setup c.claims d e) (sym (holders d e) ∙ its) in
          let there = held_interface setup c.claims h d e holds in
          record { interface = there.0; there = there.1; still = still_idle setup w c h d e keeps.fine shows holds (left d e there.0 there.1 holds).errand }

      same : (x e : ℕ) → (if (d == x) && is_held_by setup s.claims h d e then new_kept_endpoint (script_of setup x e) else c.endpoints x e) ≡ after.endpoints x e
      same x e = by_tests (d == x) refl (is_its h (holder setup c.claims x e)) refl
        where
          -- an endpoint of the name is of its device
          of_device : is_its h (holder setup c.claims x e) ≡ true → d ≡ x
          of_device its =
              let is : (c.names h).device ≡ Some x = holder_device setup w s c h x e keeps shows (its_is h (holder setup c.claims x e) its) in
              let both : Some d ≡ Some x = sym ((keeps.named h).device ∙ device) ∙ is in
              cc

          by_tests : (a : Bool) → (d == x) ≡ a → (b : Bool) → is_its h (holder setup c.claims x e) ≡ b
              → (if a && is_held_by setup s.claims h d e then new_kept_endpoint (script_of setup x e) else c.endpoints x e) ≡ (if b then new_kept_endpoint (script_of setup x e) else c.endpoints x e)
          by_tests true here b its = ap (λ (v : Bool). if v then new_kept_endpoint (script_of setup x e) else c.endpoints x e) (ap (λ (n : ℕ). is_held_by setup s.claims h n e) (eqb-true d x here) ∙ holders x e ∙ its)
          by_tests false here true its =
              let other : true ≡ false = sym (eq-eqb d x (of_device its)) ∙ here in
              absurd cc
          by_tests false here false its = refl

      bare : (e : ℕ) → is_held_by setup s.claims h d e ≡ true → IsBare s.controller d (endpoint_id e)
      bare e its =
          let holds : holder setup c.claims d e ≡ Some h = its_is h (holder setup c.claims d e) (sym (holders d e) ∙ its) in
          let there = held_interface setup c.claims h d e holds in
          bare_left setup s c d e there.0 keeps there.1 (left d e there.0 there.1 holds).line

      rings : SameRings s.controller k
      rings = rings_as s.controller (renewed_by s.controller d (is_held_by setup s.claims h d) (endpoints_of setup d)) k
          (rings_renewed_by s.controller d (is_held_by setup s.claims h d) bare (endpoints_of setup d) s.controller (λ x id. refl)) (renewed setup keeps.set)

      held : HoldsCore setup k after
      held = subst (λ (z : Controller). HoldsCore setup z after) (sym (renewed setup keeps.set))
          (holds_as setup (renewed_by s.controller d (is_held_by setup s.claims h d) (endpoints_of setup d)) c.gone c.gone _ after.endpoints c.orders c.events c.posted (λ x. refl) same
          (renews_all setup s.controller c.gone c.endpoints c.orders c.events c.posted d (is_held_by setup s.claims h d) keeps.plain fresh keeps.held))

      by_end : (x e i : ℕ) → interface_of setup x e ≡ Some i → (b : Bool) → is_its h (holder setup c.claims x e) ≡ b → StaysHeld setup c after x e ⊎ StaysLeft c after x e
      by_end x e i there true its = inr (record {
        was = left x e i there (its_is h (holder setup c.claims x e) its);
        is = subst (λ (z : KeptEndpoint). IsLeft z) (sym (ap (λ (b : Bool). if b then new_kept_endpoint (script_of setup x e) else c.endpoints x e) its)) (record { line = refl; errand = refl });
      })
      by_end x e i there false its = inl (record {
        endpoint = ap (λ (b : Bool). if b then new_kept_endpoint (script_of setup x e) else c.endpoints x e) its;
        holder = refl;
      })
