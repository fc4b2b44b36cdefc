-- A transfer is asked to end, and Stop is ordered where no errand is outstanding.
use Rattle.std.proofs.Common.{◌≡◌, ℕ, zero, suc, Bool, true, false, refl, ap, ap₂, sym, subst, ◌∙◌, arith, List, [], ◌∷◌, append-nil, map, Option, Some, None}
use Rattle.std.specs.Prelude.{not, is_some, ◌&&◌, ◌||◌, ◌==◌, if◌then◌else◌, slice_get, slice_set}
use Rattle.std.specs.Option.{option_map, unwrap_or}
use Rattle.usb_model.specs.declared.entry.Entry.{Entry}
use Rattle.usb_model.specs.declared.errand.Errand.{Errand}
use Rattle.usb_model.specs.declared.errand.Errand.TheVariants.{Stop}
use Rattle.usb_model.specs.declared.item.Ask.{Ask}
use Rattle.usb_model.specs.declared.item.Ask.TheVariants as ask
use Rattle.usb_model.specs.declared.refused.Refused.TheVariants.{NotFound}
use Rattle.usb_model.specs.declared.reply.Reply.{Reply}
use Rattle.usb_model.specs.declared.reply.Reply.TheVariants.{Done, Refused}
use Rattle.usb_model.specs.declared.step.Step.{Step}
use Rattle.usb_model.specs.declared.step.Step.TheVariants.{Cancel, Expire}
use Rattle.usb_model.specs.Machine.Turns.{takes_news, takes_order}
use Rattle.usb_model.specs.Setup.{Setup, endpoints_of}
use Rattle.usb_model.specs.World.Shared.{past_first}
use Rattle.usb_model.specs.Kept.{KeptEndpoint, KeptTransfer, SentErrand}
use Rattle.usb_model.specs.Events.{errand_of, posts}
use Rattle.usb_model.specs.Joins.{asked, kept_ask}
use Rattle.usb_tables.specs.Orders.{ordered, with_ask}
use Rattle.usb_tables.specs.Outstanding.{sent_at}
use Rattle.refine_world.specs.Shows.{Core}
use Rattle.refine_world.specs.Steps.{handle_work, worked}
use Rattle.refine_world.specs.Calls.{KeptHome, ask_core, device_of, is_kept_it, kept_home, step_core}
use Rattle.refine_core.specs.State.{Keeps, State, in_ring}
use Rattle.refine_core.specs.Steps.{AskedAt, AsksToEnd, DoesCoreStep, Is, IsHome, amid}
use Rattle.refine_core.specs.Works.{Asks, IsAt, Posts, with_kept}
use Rattle.refine_core.proofs.Amid.{keeps_as, posts_amid, rests_amid}
use Rattle.refine_core.proofs.Same.{put_same}
use Rattle.refine_core.proofs.Transfers.{end_at}

module _ (n : ℕ) (why : Ask) where
  -- the ask of the transfer of this number
  kept_asks : (y : KeptTransfer) → is_kept_it n y ≡ true → kept_ask n why y ≡ record y { ask = Some why }
  kept_asks y it = by_tests (y.n == n) (not y.blank) it
    where
      by_tests : (a b : Bool) → (a && b) ≡ true → (if b && a then record y { ask = Some why } else y) ≡ record y { ask = Some why }
      by_tests true true is = refl
      by_tests true false is = absurd cc
      by_tests false b is = absurd cc

  -- another stays as it is
  kept_stays : (y : KeptTransfer) → is_kept_it n y ≡ false → kept_ask n why y ≡ y
  kept_stays y other = by_tests (y.n == n) (not y.blank) other
    where
      by_tests : (a b : Bool) → (a && b) ≡ false → (if b && a then record y { ask = Some why } else y) ≡ y
      by_tests true true is = absurd cc
      by_tests true false is = refl
      by_tests false true is = refl
      by_tests false false is = refl

  -- a line without it
  all_stay : (ys : List KeptTransfer) → ((j : ℕ) (x : KeptTransfer) → slice_get ys j ≡ Some x → is_kept_it n x ≡ false) → map (kept_ask n why) ys ≡ ys
  all_stay [] none = refl
  all_stay (y ∷ ys) none = ap₂ (λ (x : KeptTransfer) (xs : List KeptTransfer). x ∷ xs) (kept_stays y (none 0 y refl)) (all_stay ys (λ j x there. none (suc j) x there))

  -- a line where it stands once
  pub asks_one : (ys : List KeptTransfer) (item : ℕ) (y : KeptTransfer) → slice_get ys item ≡ Some y → is_kept_it n y ≡ true → ((j : ℕ) (x : KeptTransfer) → slice_get ys j ≡ Some x → is_kept_it n x ≡ true → item ≡ j)
      → map (kept_ask n why) ys ≡ slice_set ys item (record y { ask = Some why })
  asks_one [] item y there it once = absurd cc
  asks_one (x ∷ xs) zero y there it once =
      let same : x ≡ y = cc in
      ap₂ (λ (z : KeptTransfer) (zs : List KeptTransfer). z ∷ zs) (ap (kept_ask n why) same ∙ kept_asks y it)
      (all_stay xs (λ j z in_xs. by_test z j in_xs (is_kept_it n z) refl))
    where
      by_test : (z : KeptTransfer) (j : ℕ) → slice_get xs j ≡ Some z → (b : Bool) → is_kept_it n z ≡ b → is_kept_it n z ≡ false
      by_test z j in_xs true is = absurd (omega (arith, once (suc j) z in_xs is))
      by_test z j in_xs false is = is
  asks_one (x ∷ xs) (suc item) y there it once =
      ap₂ (λ (z : KeptTransfer) (zs : List KeptTransfer). z ∷ zs) (by_test (is_kept_it n x) refl)
      (asks_one xs item y there it (λ j z in_xs its. omega (arith, once (suc j) z in_xs its)))
    where
      by_test : (b : Bool) → is_kept_it n x ≡ b → kept_ask n why x ≡ x
      by_test true is = absurd (omega (arith, once 0 x refl is))
      by_test false is = kept_stays x is

module _ {P : Type 0} where
  -- the ask, and the order of an errand if there is one, are those of the core
  pub asks_done : (setup : Setup) (old mid new : State P) (c : Core) (h n d e item : ℕ) (why : Ask) (step : Step) (o : Option Errand) (x : KeptTransfer) → takes_order step ≡ false → takes_news step ≡ false
      → IsAt setup old c h d e → slice_get (c.endpoints d e).line item ≡ Some x → is_kept_it n x ≡ true → x.blank ≡ false
      → ((j : ℕ) (z : KeptTransfer) → slice_get (c.endpoints d e).line j ≡ Some z → is_kept_it n z ≡ true → item ≡ j)
      → Asks old mid h d e item why → asked c.posted (c.endpoints d e) n why ≡ ordered o c.posted (with_ask n why (c.endpoints d e)) Done []
      → (o ≡ None → new ≡ mid) → ((errand : Errand) → o ≡ Some errand → Posts mid new h d e errand)
      → Keeps setup new (worked h (c.names h) d e step (handle_work (asked c.posted (c.endpoints d e) n why)) c)
  asks_done setup old mid new c h n d e item why step o x no_order no_news at there it live once asks is none post =
      subst (λ a. Keeps setup new (worked h (c.names h) d e step (handle_work a) c)) (sym is) (by_order o none post)
    where
      b : KeptEndpoint
      b = with_ask n why (c.endpoints d e)

      asked_line : map (kept_ask n why) (c.endpoints d e).line ≡ slice_set (c.endpoints d e).line item (record x { ask = Some why })
      asked_line = asks_one n why (c.endpoints d e).line item x there it once

      between : Keeps setup mid (amid h d e step b [] c)
      between = keeps_as setup mid (with_kept d e (record (c.endpoints d e) { line = slice_set (c.endpoints d e).line item (record x { ask = Some why }) }) c) (amid h d e step b [] c)
          (record {
            names = λ g. refl;
            claims = λ dev i. refl;
            gone = λ dev. refl;
            endpoints = λ dev ep. put_same c.endpoints d e (record (c.endpoints d e) { line = slice_set (c.endpoints d e).line item (record x { ask = Some why }) }) b
                (ap (λ (l : List KeptTransfer). record (c.endpoints d e) { line = l }) (sym asked_line)) dev ep;
            orders = ap (λ (t : Bool). past_first t c.orders) (sym no_order);
            events = ap (λ (t : Bool). past_first t c.events) (sym no_news);
            posted = refl;
            results = sym (append-nil c.results);
          })
          (asks setup c x at there live)

      by_order : (p : Option Errand) → (p ≡ None → new ≡ mid) → ((errand : Errand) → p ≡ Some errand → Posts mid new h d e errand)
          → Keeps setup new (worked h (c.names h) d e step (handle_work (ordered p c.posted b Done [])) c)
      by_order None same ordering = subst (λ (s : State P). Keeps setup s (worked h (c.names h) d e step (handle_work (ordered None c.posted b Done [])) c)) (sym (same refl)) (rests_amid setup mid c h d e step b Done [] between)
      by_order (Some errand) same ordering =
          posts_amid setup mid new c h d e step b errand Done [] (record { keeps = between; interface = at.interface; there = at.there; holds = at.holds }) (ordering errand refl)

  -- the errand that is outstanding is the core's
  errand_is : (setup : Setup) (s : State P) (c : Core) (h d e : ℕ) (sent : Option Errand) → IsAt setup s c h d e → sent ≡ option_map (λ x. x.errand) (sent_at s.outstanding d e) → errand_of (c.endpoints d e).errand ≡ sent
  errand_is setup s c h d e sent at is = sym (is ∙ ap (option_map (λ x. x.errand)) (end_at setup s c h d e at).errand ∙ by_errand (c.endpoints d e).errand)
    where
      by_errand : (o : Option SentErrand) → option_map (λ x. x.errand) (option_map in_ring o) ≡ errand_of o
      by_errand None = refl
      by_errand (Some x) = refl

  -- the ask of a transfer at its place, and the order of a Stop if there is one
  pub asked_at : (old mid new : State P) (d e item : ℕ) (why : Ask) (sent o : Option Errand) → ((h : ℕ) → Asks old mid h d e item why) → sent ≡ option_map (λ x. x.errand) (sent_at old.outstanding d e)
      → ((next n : ℕ) (why : Ask) (b : KeptEndpoint) → errand_of b.errand ≡ sent → asked next b n why ≡ ordered o next (with_ask n why b) Done [])
      → (o ≡ None → new ≡ mid) → ((errand : Errand) → o ≡ Some errand → (h : ℕ) → Posts mid new h d e errand) → AskedAt old new d e item why
  asked_at old mid new d e item why sent o asks outstanding ordering none post setup c h n step y no_order no_news at there it live once =
      asks_done setup old mid new c h n d e item why step o y no_order no_news at there it live once (asks h)
      (ordering c.posted n why (c.endpoints d e) (errand_is setup old c h d e sent at outstanding)) none (λ errand is. post errand is h)

  -- a name's transfer that isn't in progress can't be asked
  pub none_to_ask : (setup : Setup) (old : State P) (c : Core) (h n : ℕ) (why : Ask) (timed : Bool) (step : Step) → Keeps setup old c → kept_home setup c h n (endpoints_of setup (device_of c h)) ≡ None
      → Is setup (ask_core c h step n why timed (kept_home setup c h n (endpoints_of setup (device_of c h)))) (record { owner = Some h; reply = Refused NotFound }) old
  unfolding ask_core
  none_to_ask setup old c h n why timed step keeps none =
      subst (λ (o : Option KeptHome). Is setup (ask_core c h step n why timed o) (record { owner = Some h; reply = Refused NotFound }) old) (sym none) (refl, keeps)

  -- nor one that was asked before, or that has no time
  pub asked_before : (setup : Setup) (old : State P) (c : Core) (h n d e item : ℕ) (why : Ask) (timed : Bool) (step : Step) (is : IsHome setup c h n d e item) → Keeps setup old c
      → (is_some is.line.kept.ask || (timed && (is.line.kept.request.timeout == 0))) ≡ true
      → Is setup (ask_core c h step n why timed (kept_home setup c h n (endpoints_of setup (device_of c h)))) (record { owner = Some h; reply = Refused NotFound }) old
  unfolding ask_core
  asked_before setup old c h n d e item why timed step is keeps refused =
      subst (λ (o : Option KeptHome). Is setup (ask_core c h step n why timed o) (record { owner = Some h; reply = Refused NotFound }) old)
      (sym (ap (λ (dev : Option ℕ). kept_home setup c h n (endpoints_of setup (unwrap_or dev 0))) is.device ∙ is.home))
      (rw refused (refl, keeps))

  -- any other can
  pub asks_now : (setup : Setup) (old new : State P) (c : Core) (h n d e item : ℕ) (why : Ask) (timed : Bool) (step : Step) (is : IsHome setup c h n d e item) → takes_order step ≡ false → takes_news step ≡ false
      → IsAt setup old c h d e → is.line.kept.blank ≡ false → ((j : ℕ) (z : KeptTransfer) → slice_get (c.endpoints d e).line j ≡ Some z → is_kept_it n z ≡ true → item ≡ j)
      → (is_some is.line.kept.ask || (timed && (is.line.kept.request.timeout == 0))) ≡ false → AskedAt old new d e item why
      → Is setup (ask_core c h step n why timed (kept_home setup c h n (endpoints_of setup (device_of c h)))) (record { owner = Some h; reply = Done }) new
  unfolding ask_core
  asks_now setup old new c h n d e item why timed step is no_order no_news at live once taken asks =
      subst (λ (x : Option KeptHome). Is setup (ask_core c h step n why timed x) (record { owner = Some h; reply = Done }) new)
      (sym (ap (λ (dev : Option ℕ). kept_home setup c h n (endpoints_of setup (unwrap_or dev 0))) is.device ∙ is.home))
      (rw taken (ap entry_of (said (is_some (c.endpoints d e).errand)), keeps))
    where
      entry_of : Reply → Entry
      entry_of r = record { owner = Some h; reply = r }

      b : KeptEndpoint
      b = record (c.endpoints d e) { line = map (kept_ask n why) (c.endpoints d e).line }

      said : (t : Bool) → Done ≡ (if t then record { reply = Done; endpoint = b; orders = []; results = [] } else posts b Stop c.posted Done []).reply
      said true = refl
      said false = refl

      its_device : device_of c h ≡ d
      its_device = ap (λ (dev : Option ℕ). unwrap_or dev 0) is.device

      keeps : Keeps setup new (worked h (c.names h) (device_of c h) e step (handle_work (asked c.posted (c.endpoints d e) n why)) c)
      keeps = subst (λ (dev : ℕ). Keeps setup new (worked h (c.names h) dev e step (handle_work (asked c.posted (c.endpoints d e) n why)) c)) (sym its_device)
          (asks setup c h n step is.line.kept no_order no_news at is.line.there is.line.its live once)

  -- a transfer is cancelled
  pub cancels : (old new : State P) (h n : ℕ) (reply : Reply) → AsksToEnd old new h n ask.Cancel false reply → DoesCoreStep old (Cancel h n) (record { owner = Some h; reply = reply }) new
  unfolding step_core
  cancels old new h n reply asks = λ setup w c keeps shows. asks setup w c (Cancel h n) keeps shows refl refl

  -- its time is over
  pub expires : (old new : State P) (h n : ℕ) (reply : Reply) → AsksToEnd old new h n ask.Time true reply → DoesCoreStep old (Expire h n) (record { owner = Some h; reply = reply }) new
  unfolding step_core
  expires old new h n reply asks = λ setup w c keeps shows. asks setup w c (Expire h n) keeps shows refl refl
