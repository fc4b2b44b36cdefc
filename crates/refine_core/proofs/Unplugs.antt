-- A device is unplugged: the step of the core.
use Rattle.std.proofs.Common.{◌≡◌, ℕ, Bool, true, false, refl, ap, sym, subst₂, ◌∙◌, eq-eqb, ne_eqb, inl}
use Rattle.std.specs.Prelude.{◌||◌, ◌&&◌, ◌==◌, not, if◌then◌else◌}
use Rattle.std.proofs.lemmas.Bool.{eqb-true}
use Rattle.usb_model.specs.declared.refused.Refused.TheVariants.{NoDevice, NotFound}
use Rattle.usb_model.specs.declared.reply.Reply.TheVariants.{Done, Refused}
use Rattle.usb_model.specs.declared.step.Step.TheVariants.{Unplug}
use Rattle.usb_model.specs.Machine.Turns.{gone_after}
use Rattle.usb_model.specs.Setup.{Setup, is_device}
use Rattle.usb_tables.specs.Holders.{has_device}
use Rattle.usb_xhc.specs.Controller.{Controller, slot_changed}
use Rattle.refine_world.specs.Shows.{Core}
use Rattle.refine_world.specs.Calls.{step_core, unplug_core}
use Rattle.refine_rings.proofs.Unplugs.{unplugs}
use Rattle.refine_core.specs.Handles.{gone_in, nobody_says}
use Rattle.refine_core.specs.State.{State}
use Rattle.refine_core.specs.Steps.{DoesCoreStep}
use Rattle.refine_core.proofs.Amid.{keeps_as}
use Rattle.refine_core.proofs.Gone.{device_is, gone_is}
use Rattle.refine_core.proofs.Rested.{keeps_rested}
use Rattle.refine_core.proofs.Ringed.{rings_changed}

-- a device that isn't there, or is gone, stays as it is
stays_gone : (setup : Setup) (gone : ℕ → Bool) (dev d : ℕ) → (is_device setup dev ≡ true → gone dev ≡ true) → gone_after setup gone (Unplug dev) d ≡ gone d
stays_gone setup gone dev d left = by_gone (gone d) refl (dev == d) refl (is_device setup dev) refl
  where
    by_gone : (a : Bool) → gone d ≡ a → (b : Bool) → (dev == d) ≡ b → (t : Bool) → is_device setup dev ≡ t → (a || (b && t)) ≡ a
    by_gone true is b same t there = refl
    by_gone false is false same t there = refl
    by_gone false is true same false there = refl
    by_gone false is true same true there =
        let both : false ≡ true = sym is ∙ ap gone (sym (eqb-true dev d same)) ∙ left there in
        absurd cc

module _ {P : Type 0} where
  -- there is no such device
  pub unplugs_none : (s : State P) (dev : ℕ) → has_device s.claims dev ≡ false → DoesCoreStep s (Unplug dev) (nobody_says (Refused NotFound)) s
  unfolding step_core unplug_core
  unplugs_none s dev none setup w c keeps shows =
      let device : is_device setup dev ≡ false = sym (device_is s.claims setup dev keeps.set) ∙ none in (
        ap (λ (b : Bool). nobody_says (if not b then Refused NotFound else if c.gone dev then Refused NoDevice else Done)) (sym device),
        keeps_as setup s c _ (record {
          names = λ h. refl;
          claims = λ d i. refl;
          gone = λ d. sym (stays_gone setup c.gone dev d (λ there. absurd (cc (there, device))));
          endpoints = λ d e. refl;
          orders = refl;
          events = refl;
          posted = refl;
          results = refl;
        }) keeps,
      )

  -- it is gone
  pub unplugs_gone : (s : State P) (dev : ℕ) → has_device s.claims dev ≡ true → gone_in s.controller dev ≡ true → DoesCoreStep s (Unplug dev) (nobody_says (Refused NoDevice)) s
  unfolding step_core unplug_core
  unplugs_gone s dev there left setup w c keeps shows =
      let device : is_device setup dev ≡ true = sym (device_is s.claims setup dev keeps.set) ∙ there in
      let gone : c.gone dev ≡ true = sym (gone_is setup w s c dev keeps shows) ∙ left in (
        rw (device, gone) refl,
        keeps_as setup s c _ (record {
          names = λ h. refl;
          claims = λ d i. refl;
          gone = λ d. sym (stays_gone setup c.gone dev d (λ x. gone));
          endpoints = λ d e. refl;
          orders = refl;
          events = refl;
          posted = refl;
          results = refl;
        }) keeps,
      )

  -- it is unplugged
  unplugs_it : (s : State P) (dev : ℕ) → has_device s.claims dev ≡ true → gone_in s.controller dev ≡ false → DoesCoreStep s (Unplug dev) (nobody_says Done) (record s { controller = slot_changed s.controller dev (λ x. record x { gone = true }) })
  unfolding step_core unplug_core
  unplugs_it s dev there still setup w c keeps shows =
      let device : is_device setup dev ≡ true = sym (device_is s.claims setup dev keeps.set) ∙ there in
      let gone : c.gone dev ≡ false = sym (gone_is setup w s c dev keeps shows) ∙ still in (
        rw (device, gone) refl,
        keeps_rested setup s s.claims (slot_changed s.controller dev (λ x. record x { gone = true })) c after (rings_changed s.controller dev (λ x. record x { gone = true }) (λ x at id. refl)) keeps (record {
          configs = refl;
          held = unplugs setup s.controller c.gone after.gone c.endpoints c.orders c.events c.posted dev keeps.held (rw (gone, eq-eqb dev dev refl, device) refl) others;
          claimed = keeps.claimed;
          named = λ g. record { device = (keeps.named g).device; number = refl; callbacks = refl };
          results = refl;
          ends = λ d e i at. inl (record { endpoint = refl; holder = refl });
        }),
      )
    where
      after : Core
      after = record c { gone = λ d. gone_after setup c.gone (Unplug dev) d }

      others : (other : ℕ) → (other ≡ dev → ⊥) → gone_after setup c.gone (Unplug dev) other ≡ c.gone other
      others other apart = rw (ne_eqb dev other (λ same. apart (sym same))) (by_gone (c.gone other))
        where
          by_gone : (b : Bool) → (b || false) ≡ b
          by_gone true = refl
          by_gone false = refl

  pub unplugs_now : (now s : State P) (dev : ℕ) (k : Controller) → s ≡ now → has_device now.claims dev ≡ true → gone_in now.controller dev ≡ false → k ≡ slot_changed s.controller dev (λ x. record x { gone = true })
      → DoesCoreStep now (Unplug dev) (nobody_says Done) (record s { controller = k })
  unplugs_now now s dev k same there still is =
      subst₂ (λ (x : State P) (y : Controller). DoesCoreStep x (Unplug dev) (nobody_says Done) (record s { controller = y })) same (sym is)
      (unplugs_it s dev (ap (λ (x : State P). has_device x.claims dev) same ∙ there) (ap (λ (x : State P). gone_in x.controller dev) same ∙ still))
