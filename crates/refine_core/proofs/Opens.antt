-- A name opens a device: the step of the core.
use Rattle.std.proofs.Common.{◌≡◌, ℕ, Bool, true, false, refl, ap, sym, subst, subst₂, ◌∙◌, Option, Some, None, Result, Ok, Err, is_some}
use Rattle.std.specs.Prelude.{List, [], ◌∷◌, ◌==◌, not, OnOk, OnErr, if◌then◌else◌}
use Rattle.usb_model.specs.declared.effect.Change.TheVariants.{Frees}
use Rattle.usb_model.specs.declared.refused.Refused.{Refused as Why}
use Rattle.usb_model.specs.declared.refused.Refused.TheVariants.{Busy, NoDevice, NotFound}
use Rattle.usb_model.specs.declared.reply.Reply.{Reply}
use Rattle.usb_model.specs.declared.reply.Reply.TheVariants.{Done, Refused}
use Rattle.usb_model.specs.declared.step.Step.TheVariants.{Open}
use Rattle.usb_model.specs.Setup.{Setup, is_device}
use Rattle.usb_model.specs.World.{is_its, World, claims_after}
use Rattle.usb_tables.specs.Holders.{Holding, answer_of, device_of, has_device, open_refusal, owner_of}
use Rattle.refine_world.specs.Shows.{Core, Shows}
use Rattle.refine_world.specs.Steps.{rested}
use Rattle.refine_world.specs.Calls.{is_open, open_core, rests, step_core}
use Rattle.refine_core.proofs.Refusals.{accepted_is, refused_is}
use Rattle.refine_core.specs.Handles.{first_why, gone_in, reply_to, says}
use Rattle.refine_core.specs.State.{Keeps, State}
use Rattle.refine_core.specs.Steps.{DoesCoreStep}
use Rattle.refine_core.proofs.Freed.{freed_end, holder_device, named_after}
use Rattle.refine_core.proofs.Gone.{device_is, gone_device, gone_is}
use Rattle.refine_core.proofs.Rested.{keeps_rested}

-- the tests of the core
abbrev open_tests : Setup → Core → ℕ → ℕ → List (Bool × Why)
open_tests setup c h dev = (not (is_device setup dev), NotFound) ∷ (c.gone dev, NoDevice) ∷ (is_open c h, Busy) ∷ []

module _ {P : Type 0} where
  -- the device is gone
  pub opens_gone : (s : State P) (h dev : ℕ) → gone_in s.controller dev ≡ true → DoesCoreStep s (Open h dev) (says h (Refused NoDevice)) s
  unfolding step_core open_core
  opens_gone s h dev left setup w c keeps shows =
      let gone : c.gone dev ≡ true = sym (gone_is setup w s c dev keeps shows) ∙ left in
      let device : is_device setup dev ≡ true = gone_device setup w c dev shows gone in
      rw (device, gone) (refl, keeps)

  -- else it is refused for what the tables say
  open_first : (setup : Setup) (w : World) (s : State P) (c : Core) (h dev : ℕ) → gone_in s.controller dev ≡ false → Keeps setup s c → Shows setup w c
      → first_why (open_tests setup c h dev) ≡ open_refusal s.claims h dev
  open_first setup w s c h dev still keeps shows =
      ap (λ (b : Bool). if not (is_device setup dev) then Some NotFound else if b then Some NoDevice else if is_open c h then Some Busy else None) (sym (gone_is setup w s c dev keeps shows) ∙ still)
      ∙ ap (λ (b : Bool). if not b then Some NotFound else if is_open c h then Some Busy else None) (sym (device_is s.claims setup dev keeps.set))
      ∙ ap (λ (o : Option ℕ). if not (has_device s.claims dev) then Some NotFound else if is_some o then Some Busy else None) (keeps.named h).device

  opens_refused : (s : State P) (h dev : ℕ) (why : Why) → gone_in s.controller dev ≡ false → open_refusal s.claims h dev ≡ Some why → DoesCoreStep s (Open h dev) (says h (Refused why)) s
  unfolding step_core open_core
  opens_refused s h dev why still refused setup w c keeps shows = refused_is setup s c h (open_tests setup c h dev) (rests setup c h (record (c.names h) { device = Some dev }) (Open h dev) Frees) why keeps (open_first setup w s c h dev still keeps shows ∙ refused)

  -- or opened
  opens_now : (s : State P) (h dev : ℕ) (v : Holding) → gone_in s.controller dev ≡ false → open_refusal s.claims h dev ≡ None → ((g : ℕ) → device_of v g ≡ (if h == g then Some dev else device_of s.claims g))
      → ((d i : ℕ) → owner_of v d i ≡ claims_after h (λ x k. owner_of s.claims x k) Frees d i) → v.configs ≡ s.claims.configs → DoesCoreStep s (Open h dev) (says h Done) (record s { claims = v })
  unfolding step_core open_core
  opens_now s h dev v still accepted devices owners configs setup w c keeps shows =
      accepted_is setup (record s { claims = v }) c h (open_tests setup c h dev) (rests setup c h (record (c.names h) { device = Some dev }) (Open h dev) Frees) (says h Done) (open_first setup w s c h dev still keeps shows ∙ accepted) (
        refl,
        keeps_rested setup s v s.controller c after (λ x id. refl) keeps (record {
          configs = configs;
          held = keeps.held;
          claimed = λ d i. ap (λ (o : Option ℕ). if is_its h o then None else o) (keeps.claimed d i) ∙ sym (owners d i);
          named = named_after v c.names (device_of s.claims) h (Some dev) (λ g. (keeps.named g).device) devices;
          results = refl;
          ends = λ d e i there. freed_end setup c after h d e i refl true refl there (λ t holds.
              let both : None ≡ Some d = sym closed ∙ holder_device setup w s c h d e keeps shows holds in
              absurd cc);
        }),
      )
    where
      after : Core
      after = rested setup h (record (c.names h) { device = Some dev }) (Open h dev) Frees c

      not_open : (a : Bool) (o : Option ℕ) → (if not a then Some NotFound else if is_some o then Some Busy else None) ≡ None → o ≡ None
      not_open true None is = refl
      not_open true (Some x) is = absurd cc
      not_open false o is = absurd cc

      closed : (c.names h).device ≡ None
      closed = (keeps.named h).device ∙ not_open (has_device s.claims dev) (device_of s.claims h) accepted

  -- either of them
  pub opens : (now s : State P) (h dev : ℕ) (v : Holding) (r : Result (Unit {0}) Why) (reply : Reply) → s ≡ now → gone_in now.controller dev ≡ false → r ≡ answer_of (open_refusal s.claims h dev)
      → OnOk r ((g : ℕ) → device_of v g ≡ (if h == g then Some dev else device_of s.claims g)) → OnOk r ((d i : ℕ) → owner_of v d i ≡ claims_after h (λ x k. owner_of s.claims x k) Frees d i)
      → v.configs ≡ s.claims.configs → OnErr r (v ≡ s.claims) → reply ≡ reply_to r → DoesCoreStep now (Open h dev) (says h reply) (record s { claims = v })
  opens now s h dev v r reply same still is devices owners configs kept replied =
      subst₂ (λ (x : State P) (y : Reply). DoesCoreStep x (Open h dev) (says h y) (record s { claims = v })) same (sym replied) (by_answer (open_refusal s.claims h dev) refl r is devices owners kept)
    where
      stands : gone_in s.controller dev ≡ false
      stands = ap (λ (x : State P). gone_in x.controller dev) same ∙ still

      by_answer : (o : Option Why) → open_refusal s.claims h dev ≡ o → (x : Result (Unit {0}) Why) → x ≡ answer_of o → OnOk x ((g : ℕ) → device_of v g ≡ (if h == g then Some dev else device_of s.claims g))
          → OnOk x ((d i : ℕ) → owner_of v d i ≡ claims_after h (λ y k. owner_of s.claims y k) Frees d i) → OnErr x (v ≡ s.claims) → DoesCoreStep s (Open h dev) (says h (reply_to x)) (record s { claims = v })
      by_answer None none (Ok t) said gives frees stays = opens_now s h dev v stands none gives frees configs
      by_answer None none (Err why) said gives frees stays = absurd cc
      by_answer (Some y) refused (Ok t) said gives frees stays = absurd cc
      by_answer (Some y) refused (Err why) said gives frees stays =
          let one : y ≡ why = cc in
          subst (λ (k : Holding). DoesCoreStep s (Open h dev) (says h (Refused why)) (record s { claims = k })) (sym stays) (opens_refused s h dev why stands (refused ∙ ap (λ (z : Why). Some z) one))
