-- A transfer of a name is asked to end, where it was found.
use Rattle.std.proofs.Common.{ap, ◌≡◌, ℕ, Some, None, Option, Bool, true, false, not, refl, sym, subst, ◌∙◌}
use Rattle.std.specs.Prelude.{is_some, ◌&&◌, ◌||◌, ◌==◌}
use Rattle.usb_model.specs.declared.item.Ask.{Ask}
use Rattle.usb_model.specs.declared.refused.Refused.TheVariants.{NotFound}
use Rattle.usb_model.specs.declared.reply.Reply.TheVariants.{Done, Refused}
use Rattle.usb_model.specs.Setup.{Setup}
use Rattle.refine_world.specs.Shows.{Core}
use Rattle.refine_core.specs.State.{IsState, Keeps, State}
use Rattle.refine_core.specs.Steps.{AskedAt, AsksToEnd, CanAsk, IsHome}
use Rattle.refine_core.proofs.Askable.{askable_is, asked_once, can_ask, its_live}
use Rattle.refine_core.proofs.Asks.{asked_before, asks_now, none_to_ask}
use Rattle.refine_core.proofs.Held.{held_interface}
use Rattle.std.specs.Option.{unwrap_or}
use Rattle.usb_model.specs.Setup.{endpoints_of}
use Rattle.refine_world.specs.Calls.{kept_home}
use Rattle.usb_core.specs.Homes.{HomeIs, can_expire, expires_now, is_askable}
use Rattle.usb_core.specs.declared.ask.Home.{Home}

module _ {P : Type 0} where
  -- what the search for a transfer answers
  abbrev pub Homes : State P → (h n : ℕ) → Option Home → Type 0
  Homes s h n o = (setup : Setup) (c : Core) → Keeps setup s c → HomeIs setup c h n o

  -- there is none
  pub ask_none : (s : State P) (h n : ℕ) (why : Ask) (timed : Bool) (o : Option Home) → o ≡ None → Homes s h n o → AsksToEnd s s h n why timed (Refused NotFound)
  ask_none s h n why timed o none homes = λ setup w c step keeps shows no_order no_news.
      none_to_ask setup s c h n why timed step keeps (subst (λ (x : Option Home). HomeIs setup c h n x) none (homes setup c keeps))

  -- where it is
  home_at : (s : State P) (h n : ℕ) (o : Option Home) (x : Home) → o ≡ Some x → Homes s h n o → (setup : Setup) (c : Core) → Keeps setup s c → IsHome setup c h n x.dev x.ep x.item
  home_at s h n o x some homes setup c keeps = subst (λ (y : Option Home). HomeIs setup c h n y) some (homes setup c keeps)

  -- it was asked before, or has no time
  pub ask_refused : (s : State P) (h n : ℕ) (why : Ask) (timed : Bool) (o : Option Home) (x : Home) (b : Bool) → o ≡ Some x → Homes s h n o → b ≡ is_askable s x.dev x.ep x.item timed → b ≡ false → AsksToEnd s s h n why timed (Refused NotFound)
  ask_refused s h n why timed o x b some homes test is = λ setup w c step keeps shows no_order no_news.
      let home = home_at s h n o x some homes setup c keeps in
      asked_before setup s c h n x.dev x.ep x.item why timed step home keeps
      (not_false (is_some home.line.kept.ask || (timed && (home.line.kept.request.timeout == 0))) (sym (askable_is setup s c h n x.dev x.ep x.item timed keeps home.line) ∙ sym test ∙ is))
    where
      not_false : (t : Bool) → not t ≡ false → t ≡ true
      not_false true e = refl
      not_false false e = absurd cc

  -- it can be asked
  pub ask_safely : (s : State P) (h n : ℕ) (o : Option Home) (x : Home) → o ≡ Some x → Homes s h n o → IsState s → CanAsk s x.dev x.ep x.item
  ask_safely s h n o x some homes is =
      let home = home_at s h n o x some homes is.0 is.2.0 is.2.1 in
      can_ask is.0 is.1 s is.2.0 h n x.dev x.ep x.item is.2.1 is.2.2 home.line

  -- it is asked
  pub asks_it : (old new : State P) (h n : ℕ) (why : Ask) (timed : Bool) (o : Option Home) (x : Home) (b : Bool) → o ≡ Some x → Homes old h n o → b ≡ is_askable old x.dev x.ep x.item timed → b ≡ true
      → AskedAt old new x.dev x.ep x.item why → AsksToEnd old new h n why timed Done
  asks_it old new h n why timed o x b some homes test is asks = λ setup w c step keeps shows no_order no_news.
      let home = home_at old h n o x some homes setup c keeps in
      let interface = held_interface setup c.claims x.dev x.ep h home.line.holds in
      asks_now setup old new c h n x.dev x.ep x.item why timed step home no_order no_news (record { keeps = keeps; interface = interface.0; there = interface.1; holds = home.line.holds })
      (its_live n home.line.kept home.line.its) (asked_once setup w old c h n x.dev x.ep x.item keeps shows home.line)
      (not_true (is_some home.line.kept.ask || (timed && (home.line.kept.request.timeout == 0))) (sym (askable_is setup old c h n x.dev x.ep x.item timed keeps home.line) ∙ sym test ∙ is)) asks
    where
      not_true : (t : Bool) → not t ≡ true → t ≡ false
      not_true true e = absurd cc
      not_true false e = refl

  -- whether it can expire is read off the transfer in flight
  pub expires_at : (s : State P) (h n : ℕ) (o : Option Home) (x : Home) (b : Bool) → o ≡ Some x → Homes s h n o → b ≡ is_askable s x.dev x.ep x.item true → (setup : Setup) (c : Core) → Keeps setup s c → b ≡ expires_now setup c h n
  expires_at s h n o x b some homes test setup c keeps =
      let home = home_at s h n o x some homes setup c keeps in
      test ∙ askable_is setup s c h n x.dev x.ep x.item true keeps home.line
      ∙ sym (ap (λ (dev : Option ℕ). can_expire (kept_home setup c h n (endpoints_of setup (unwrap_or dev 0)))) home.device ∙ ap can_expire home.home)
