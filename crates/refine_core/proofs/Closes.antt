-- A name closes its device, or gives an interface back: the steps of the core.
use Rattle.std.proofs.Common.{◌≡◌, ℕ, Bool, true, false, refl, ap, ap₂, sym, subst, subst₂, ◌∙◌, List, [], ◌∷◌, Option, Some, None, Result, Ok, Err, is_some}
use Rattle.std.specs.Prelude.{◌==◌, ◌&&◌, not, OnOk, if◌then◌else◌}
use Rattle.std.specs.Option.{option_map_or, unwrap_or}
use Rattle.std.proofs.lemmas.Bool.{and_parts, eqb-true}
use Rattle.usb_model.specs.declared.effect.Change.TheVariants.{Drops, Frees}
use Rattle.usb_model.specs.declared.refused.Refused.{Refused as Why}
use Rattle.usb_model.specs.declared.refused.Refused.TheVariants.{Busy, NotFound}
use Rattle.usb_model.specs.declared.reply.Reply.{Reply}
use Rattle.usb_model.specs.declared.reply.Reply.TheVariants.{Done, Refused}
use Rattle.usb_model.specs.declared.step.Step.TheVariants.{Close, Release}
use Rattle.usb_model.specs.Setup.{Setup}
use Rattle.usb_model.specs.World.{claims_after, is_its}
use Rattle.usb_tables.specs.Holders.{Holding, answer_of, close_refusal, device_of, owner_of, release_refusal}
use Rattle.refine_world.specs.Shows.{Core}
use Rattle.refine_world.specs.Steps.{rested}
use Rattle.refine_world.specs.Calls as calling
use Rattle.refine_world.specs.Calls.{are_quiet, close_core, holds, is_open, release_core, rests, step_core}
use Rattle.refine_core.specs.Handles.{AreQuiet, first_why, reply_to, says}
use Rattle.refine_core.specs.State.{Keeps, State}
use Rattle.refine_core.specs.Steps.{DoesCoreStep}
use Rattle.refine_core.proofs.Freed.{freed_end, holder_device, named_after, named_still}
use Rattle.refine_core.proofs.Quiet.{all_left}
use Rattle.refine_core.proofs.Refusals.{accepted_is, refused_is}
use Rattle.refine_core.proofs.Rested.{keeps_rested}

-- the tests of the core
abbrev close_tests : Setup → Core → ℕ → List (Bool × Why)
close_tests setup c h = (not (is_open c h), NotFound) ∷ (not (are_quiet setup c h (λ x. true)), Busy) ∷ []

abbrev release_tests : Setup → Core → ℕ → ℕ → List (Bool × Why)
release_tests setup c h i = (not (is_open c h && holds c h i), NotFound) ∷ (not (are_quiet setup c h (λ x. x.interface == i)), Busy) ∷ []

module _ {P : Type 0} where
  -- a close's tests, by what the parts say
  close_first : (setup : Setup) (s : State P) (c : Core) (h : ℕ) (o : Option ℕ) (b : Bool) → Keeps setup s c → device_of s.claims h ≡ o → b ≡ are_quiet setup c h (λ x. true)
      → first_why (close_tests setup c h) ≡ (if not (is_some o) then Some NotFound else if not b then Some Busy else None)
  close_first setup s c h o b keeps device quiet =
      ap₂ (λ (x : Option ℕ) (y : Bool). if not (is_some x) then Some NotFound else if not y then Some Busy else None) ((keeps.named h).device ∙ device) (sym quiet)

  -- no device is open
  pub closes_none : (s : State P) (h : ℕ) → device_of s.claims h ≡ None → DoesCoreStep s (Close h) (says h (Refused NotFound)) s
  unfolding step_core close_core
  closes_none s h none setup w c keeps shows =
      refused_is setup s c h (close_tests setup c h) (rests setup c h (record (c.names h) { device = None }) (Close h) Frees) NotFound keeps (close_first setup s c h None (are_quiet setup c h (λ x. true)) keeps none refl)

  -- something is under way
  pub closes_busy : (s : State P) (h d : ℕ) → device_of s.claims h ≡ Some d → AreQuiet s h d None false → DoesCoreStep s (Close h) (says h (Refused Busy)) s
  unfolding step_core close_core
  closes_busy s h d device busy setup w c keeps shows =
      refused_is setup s c h (close_tests setup c h) (rests setup c h (record (c.names h) { device = None }) (Close h) Frees) Busy keeps (close_first setup s c h (Some d) false keeps device (busy setup c keeps ((keeps.named h).device ∙ device)))

  -- it is closed
  closes_now : (s : State P) (h d : ℕ) (v : Holding) → device_of s.claims h ≡ Some d → AreQuiet s h d None true → ((g : ℕ) → device_of v g ≡ (if h == g then None else device_of s.claims g))
      → ((x k : ℕ) → owner_of v x k ≡ claims_after h (λ y j. owner_of s.claims y j) Frees x k) → v.configs ≡ s.claims.configs → DoesCoreStep s (Close h) (says h Done) (record s { claims = v })
  unfolding step_core close_core
  closes_now s h d v device quiet devices owners configs setup w c keeps shows =
      accepted_is setup (record s { claims = v }) c h (close_tests setup c h) (rests setup c h (record (c.names h) { device = None }) (Close h) Frees) (says h Done) (close_first setup s c h (Some d) true keeps device all) (
        refl,
        keeps_rested setup s v s.controller c after (λ x id. refl) keeps (record {
          configs = configs;
          held = keeps.held;
          claimed = λ x k. ap (λ (o : Option ℕ). if is_its h o then None else o) (keeps.claimed x k) ∙ sym (owners x k);
          named = named_after v c.names (device_of s.claims) h None (λ g. (keeps.named g).device) devices;
          results = refl;
          ends = λ x e k there. freed_end setup c after h x e k refl true refl there (λ t held.
              all_left setup c h x e k None (sym all) (holder_device setup w s c h x e keeps shows held) held there (λ j is. absurd cc));
        }),
      )
    where
      after : Core
      after = rested setup h (record (c.names h) { device = None }) (Close h) Frees c

      all : true ≡ are_quiet setup c h (λ x. true)
      all = quiet setup c keeps ((keeps.named h).device ∙ device)

  pub closes : (now s : State P) (h d : ℕ) (v : Holding) (r : Result (Unit {0}) Why) (reply : Reply) → s ≡ now → device_of s.claims h ≡ Some d → AreQuiet now h d None true → r ≡ answer_of (close_refusal s.claims h)
      → OnOk r ((g : ℕ) → device_of v g ≡ (if h == g then None else device_of s.claims g)) → OnOk r ((x k : ℕ) → owner_of v x k ≡ claims_after h (λ y j. owner_of s.claims y j) Frees x k)
      → v.configs ≡ s.claims.configs → reply ≡ reply_to r → DoesCoreStep now (Close h) (says h reply) (record s { claims = v })
  closes now s h d v r reply same device quiet is devices owners configs replied =
      subst₂ (λ (x : State P) (y : Reply). DoesCoreStep x (Close h) (says h y) (record s { claims = v })) same (sym replied)
      (by_answer r (is ∙ ap (λ (o : Option ℕ). answer_of (if is_some o then None else Some NotFound)) device) devices owners)
    where
      by_answer : (x : Result (Unit {0}) Why) → x ≡ Ok tt → OnOk x ((g : ℕ) → device_of v g ≡ (if h == g then None else device_of s.claims g)) → OnOk x ((y k : ℕ) → owner_of v y k ≡ claims_after h (λ z j. owner_of s.claims z j) Frees y k)
          → DoesCoreStep s (Close h) (says h (reply_to x)) (record s { claims = v })
      by_answer (Ok t) said gives frees = closes_now s h d v device (subst (λ (x : State P). AreQuiet x h d None true) (sym same) quiet) gives frees configs
      by_answer (Err why) said gives frees = absurd cc

  -- a release's tests, by what the parts say
  release_first : (setup : Setup) (s : State P) (c : Core) (h i d : ℕ) (a b : Bool) → Keeps setup s c → device_of s.claims h ≡ Some d → is_its h (owner_of s.claims d i) ≡ a → b ≡ are_quiet setup c h (λ x. x.interface == i)
      → first_why (release_tests setup c h i) ≡ (if not a then Some NotFound else if not b then Some Busy else None)
  release_first setup s c h i d a b keeps device its quiet =
      ap₂ (λ (x y : Bool). if not x then Some NotFound else if not y then Some Busy else None) holding (sym quiet)
    where
      is : (c.names h).device ≡ Some d
      is = (keeps.named h).device ∙ device

      holding : (is_open c h && holds c h i) ≡ a
      holding = ap (λ (o : Option ℕ). is_some o && is_its h (c.claims (unwrap_or o 0) i)) is ∙ ap (is_its h) (keeps.claimed d i) ∙ its

  -- no device is open
  pub releases_none : (s : State P) (h i : ℕ) → device_of s.claims h ≡ None → DoesCoreStep s (Release h i) (says h (Refused NotFound)) s
  unfolding step_core release_core
  releases_none s h i none setup w c keeps shows =
      refused_is setup s c h (release_tests setup c h i) (rests setup c h (c.names h) (Release h i) (Drops (calling.device_of c h) i)) NotFound keeps
      (ap (λ (o : Option ℕ). if not (is_some o && holds c h i) then Some NotFound else if not (are_quiet setup c h (λ x. x.interface == i)) then Some Busy else None) ((keeps.named h).device ∙ none))

  -- the interface isn't the name's
  pub releases_others : (s : State P) (h i d : ℕ) → device_of s.claims h ≡ Some d → is_its h (owner_of s.claims d i) ≡ false → DoesCoreStep s (Release h i) (says h (Refused NotFound)) s
  unfolding step_core release_core
  releases_others s h i d device other setup w c keeps shows =
      refused_is setup s c h (release_tests setup c h i) (rests setup c h (c.names h) (Release h i) (Drops (calling.device_of c h) i)) NotFound keeps
      (release_first setup s c h i d false (are_quiet setup c h (λ x. x.interface == i)) keeps device other refl)

  -- something is under way
  pub releases_busy : (s : State P) (h i d : ℕ) → device_of s.claims h ≡ Some d → is_its h (owner_of s.claims d i) ≡ true → AreQuiet s h d (Some i) false → DoesCoreStep s (Release h i) (says h (Refused Busy)) s
  unfolding step_core release_core
  releases_busy s h i d device its busy setup w c keeps shows =
      refused_is setup s c h (release_tests setup c h i) (rests setup c h (c.names h) (Release h i) (Drops (calling.device_of c h) i)) Busy keeps
      (release_first setup s c h i d true false keeps device its (busy setup c keeps ((keeps.named h).device ∙ device)))

  -- it is released
  releases_now : (s : State P) (h i d : ℕ) (v : Holding) → device_of s.claims h ≡ Some d → is_its h (owner_of s.claims d i) ≡ true → AreQuiet s h d (Some i) true → v.opened ≡ s.claims.opened
      → ((dev x k : ℕ) → device_of s.claims h ≡ Some dev → owner_of v x k ≡ claims_after h (λ y j. owner_of s.claims y j) (Drops dev i) x k) → v.configs ≡ s.claims.configs → DoesCoreStep s (Release h i) (says h Done) (record s { claims = v })
  unfolding step_core release_core
  releases_now s h i d v device its quiet devices owners configs setup w c keeps shows =
      accepted_is setup (record s { claims = v }) c h (release_tests setup c h i) (rests setup c h (c.names h) (Release h i) (Drops (calling.device_of c h) i)) (says h Done) (release_first setup s c h i d true true keeps device its all) (
        refl,
        keeps_rested setup s v s.controller c after (λ x id. refl) keeps (record {
          configs = configs;
          held = keeps.held;
          claimed = λ x k.
              ap (λ (o : Option ℕ). if ((unwrap_or o 0 == x) && (i == k)) && is_its h (c.claims x k) then None else c.claims x k) is
              ∙ ap (λ (o : Option ℕ). if ((d == x) && (i == k)) && is_its h o then None else o) (keeps.claimed x k) ∙ sym (owners d x k device);
          named = named_still v c.names h (λ g. (keeps.named g).device ∙ ap (λ (l : List (Option ℕ)). device_of (record v { opened = l }) g) (sym devices));
          results = refl;
          ends = λ x e k there. freed_end setup c after h x e k refl ((calling.device_of c h == x) && (i == k)) refl there (λ both held.
              all_left setup c h x e k (Some i) (sym all) (holder_device setup w s c h x e keeps shows held) held there (λ j one.
              let same : i ≡ k = eqb-true i k (and_parts (calling.device_of c h == x) (i == k) both).1 in
              let asked : i ≡ j = cc in
              sym same ∙ asked));
        }),
      )
    where
      after : Core
      after = rested setup h (c.names h) (Release h i) (Drops (calling.device_of c h) i) c

      is : (c.names h).device ≡ Some d
      is = (keeps.named h).device ∙ device

      all : true ≡ are_quiet setup c h (λ x. x.interface == i)
      all = quiet setup c keeps is

  pub releases : (now s : State P) (h i d : ℕ) (v : Holding) (r : Result (Unit {0}) Why) (reply : Reply) → s ≡ now → device_of s.claims h ≡ Some d → is_its h (owner_of s.claims d i) ≡ true → AreQuiet now h d (Some i) true → r ≡ answer_of (release_refusal s.claims h i)
      → v.opened ≡ s.claims.opened → OnOk r ((dev x k : ℕ) → device_of s.claims h ≡ Some dev → owner_of v x k ≡ claims_after h (λ y j. owner_of s.claims y j) (Drops dev i) x k)
      → v.configs ≡ s.claims.configs → reply ≡ reply_to r → DoesCoreStep now (Release h i) (says h reply) (record s { claims = v })
  releases now s h i d v r reply same device its quiet is devices owners configs replied =
      subst₂ (λ (x : State P) (y : Reply). DoesCoreStep x (Release h i) (says h y) (record s { claims = v })) same (sym replied)
      (by_answer r (is ∙ ap (λ (o : Option ℕ). answer_of (if option_map_or (λ dev. is_its h (owner_of s.claims dev i)) o false then None else Some NotFound)) device ∙ ap (λ (b : Bool). answer_of (if b then None else Some NotFound)) its) owners)
    where
      by_answer : (x : Result (Unit {0}) Why) → x ≡ Ok tt → OnOk x ((dev y k : ℕ) → device_of s.claims h ≡ Some dev → owner_of v y k ≡ claims_after h (λ z j. owner_of s.claims z j) (Drops dev i) y k)
          → DoesCoreStep s (Release h i) (says h (reply_to x)) (record s { claims = v })
      by_answer (Ok t) said drops = releases_now s h i d v device its (subst (λ (x : State P). AreQuiet x h d (Some i) true) (sym same) quiet) devices drops configs
      by_answer (Err why) said drops = absurd cc
