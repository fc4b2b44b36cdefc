-- The halt of an endpoint is cleared: the step of the core.
use Rattle.std.proofs.Common.{◌≡◌, ℕ, Bool, true, false, refl, ap, ap₂, sym, subst, subst₂, ◌∙◌, arith, ◌<◌, ◌≤◌, List, [], ◌∷◌, length, append-nil, Option, Some, None, eq-eqb, ne_eqb}
use Rattle.std.specs.Prelude.{◌==◌, not, slice_set, if◌then◌else◌}
use Rattle.std.specs.Option.{option_and_then, unwrap_or}
use Rattle.usb_model.specs.declared.refused.Refused.{Refused as Why}
use Rattle.usb_model.specs.declared.refused.Refused.TheVariants.{Busy, NoDevice, NotFound}
use Rattle.usb_model.specs.declared.reply.Reply.TheVariants.{Done, Refused}
use Rattle.usb_model.specs.declared.step.Step.TheVariants.{ClearHalt}
use Rattle.usb_model.specs.Setup.{Setup, endpoint_id}
use Rattle.usb_model.specs.World.{World, is_its}
use Rattle.usb_model.specs.World.Shared.{pieces_of}
use Rattle.usb_model.specs.Kept.{KeptEndpoint}
use Rattle.usb_tables.specs.Holders.{device_of}
use Rattle.usb_device.specs.Pipe.{cleared, pipe_at}
use Rattle.usb_xhc.specs.Controller.{Controller, slot_changed}
use Rattle.usb_tables.specs.TransfersInFlight.{line_at}
use Rattle.refine_world.specs.Shows.{Core, Shows}
use Rattle.refine_world.specs.Steps.{handle_work, worked}
use Rattle.refine_world.specs.Calls as calling
use Rattle.refine_world.specs.Calls.{calls, clear_core, is_gone, kept_at, own_kept, step_core, unhalted}
use Rattle.refine_rings.proofs.Ends.{here}
use Rattle.refine_rings.proofs.Renews.{hosts}
use Rattle.refine_core.specs.Handles.{first_why, gone_in, says}
use Rattle.refine_core.specs.State.{Keeps, KeepsEnd, State}
use Rattle.refine_core.specs.Steps.{DoesCoreStep, Is, amid}
use Rattle.refine_core.specs.Works.{IsAt, IsHolder, with_kept}
use Rattle.refine_core.proofs.Amid.{keeps_as, rests_amid}
use Rattle.refine_core.proofs.Buffers.{buffers_same}
use Rattle.refine_core.proofs.Changed.{keeps_with, name_still}
use Rattle.refine_core.proofs.Freed.{its_is}
use Rattle.refine_core.proofs.Gone.{gone_is}
use Rattle.refine_core.proofs.Held.{holder_is, is_at}
use Rattle.refine_core.proofs.EndpointQueues.{with_other}
use Rattle.refine_core.proofs.Lines.{as_many}
use Rattle.refine_core.proofs.Refusals.{accepted_is, refused_is}
use Rattle.refine_core.proofs.Ringed.{rings_changed}
use Rattle.refine_core.proofs.Transfers.{end_at}

-- the controller behind it
abbrev pub unhalted_by : Controller → ℕ → ℕ → Controller
unhalted_by k d e = slot_changed k d (λ s. record s { pipes = slice_set s.pipes (endpoint_id e) (cleared (pipe_at s.pipes e)) })

-- the tests of the core, at an endpoint that is the name's
abbrev halt_tests : Core → ℕ → KeptEndpoint → List (Bool × Why)
halt_tests c h b = (is_gone c h, NoDevice) ∷ (not (length b.line == 0), Busy) ∷ []

module _ {P : Type 0} where
  -- no device is open
  pub halts_none : (s : State P) (h e : ℕ) → device_of s.claims h ≡ None → DoesCoreStep s (ClearHalt h e) (says h (Refused NotFound)) s
  unfolding step_core clear_core
  halts_none s h e none setup w c keeps shows =
      subst (λ (o : Option KeptEndpoint). Is setup (clear_core setup c h e o) (says h (Refused NotFound)) s) (sym (ap (λ (o : Option ℕ). option_and_then (λ dev. own_kept setup c h dev e) o) ((keeps.named h).device ∙ none))) (refl, keeps)

  -- the endpoint isn't the name's
  pub halts_others : (s : State P) (h d e : ℕ) (o : Option ℕ) → device_of s.claims h ≡ Some d → IsHolder s d e o → is_its h o ≡ false → DoesCoreStep s (ClearHalt h e) (says h (Refused NotFound)) s
  unfolding step_core clear_core
  halts_others s h d e o device held other setup w c keeps shows =
      subst (λ (x : Option KeptEndpoint). Is setup (clear_core setup c h e x) (says h (Refused NotFound)) s)
      (sym (ap (λ (x : Option ℕ). option_and_then (λ dev. own_kept setup c h dev e) x) ((keeps.named h).device ∙ device)
      ∙ ap (λ (b : Bool). if b then Some (c.endpoints d e) else None) (ap (is_its h) (holder_is setup s c d e o keeps held) ∙ other))) (refl, keeps)

  -- what is the name's
  mine_at : (setup : Setup) (s : State P) (c : Core) (h d e : ℕ) (o : Option ℕ) → Keeps setup s c → IsHolder s d e o → is_its h o ≡ true → IsAt setup s c h d e
  mine_at setup s c h d e o keeps held its = is_at setup s c h d e keeps (λ u set. sym (its_is h o its) ∙ held u set)

  kept_is : (setup : Setup) (s : State P) (c : Core) (h d e : ℕ) → IsAt setup s c h d e → device_of s.claims h ≡ Some d → kept_at setup c h e ≡ Some (c.endpoints d e)
  kept_is setup s c h d e at device =
      ap (λ (x : Option ℕ). option_and_then (λ dev. own_kept setup c h dev e) x) ((at.keeps.named h).device ∙ device)
      ∙ ap (λ (b : Bool). if b then Some (c.endpoints d e) else None) (ap (is_its h) at.holds ∙ eq-eqb h h refl)

  gone_of : (setup : Setup) (w : World) (s : State P) (c : Core) (h d : ℕ) → Keeps setup s c → Shows setup w c → device_of s.claims h ≡ Some d → is_gone c h ≡ gone_in s.controller d
  gone_of setup w s c h d keeps shows device = ap (λ (o : Option ℕ). c.gone (unwrap_or o 0)) ((keeps.named h).device ∙ device) ∙ sym (gone_is setup w s c d keeps shows)

  -- the device is gone
  pub halts_gone : (s : State P) (h d e : ℕ) (o : Option ℕ) → device_of s.claims h ≡ Some d → IsHolder s d e o → is_its h o ≡ true → gone_in s.controller d ≡ true → DoesCoreStep s (ClearHalt h e) (says h (Refused NoDevice)) s
  unfolding step_core clear_core
  halts_gone s h d e o device held its left setup w c keeps shows =
      let at = mine_at setup s c h d e o keeps held its in
      subst (λ (x : Option KeptEndpoint). Is setup (clear_core setup c h e x) (says h (Refused NoDevice)) s) (sym (kept_is setup s c h d e at device))
      (refused_is setup s c h (halt_tests c h (c.endpoints d e)) (calls c h (c.names h) (calling.device_of c h) e (ClearHalt h e) (unhalted (c.endpoints d e))) NoDevice keeps
      (ap (λ (b : Bool). if b then Some NoDevice else first_why ((not (length (c.endpoints d e).line == 0), Busy) ∷ [])) (gone_of setup w s c h d keeps shows device ∙ left)))

  -- the tests, where it isn't
  halt_first : (setup : Setup) (w : World) (s : State P) (c : Core) (h d e : ℕ) → IsAt setup s c h d e → Shows setup w c → device_of s.claims h ≡ Some d → gone_in s.controller d ≡ false
      → first_why (halt_tests c h (c.endpoints d e)) ≡ (if not (length (line_at s.flights d e) == 0) then Some Busy else None)
  halt_first setup w s c h d e at shows device still =
      ap₂ (λ (b : Bool) (n : ℕ). if b then Some NoDevice else if not (n == 0) then Some Busy else None) (gone_of setup w s c h d at.keeps shows device ∙ still)
      (sym (as_many (Some h) e (line_at s.flights d e) (c.endpoints d e).line (end_at setup s c h d e at).line))

  -- a transfer is in the line
  pub halts_busy : (s : State P) (h d e : ℕ) (o : Option ℕ) → device_of s.claims h ≡ Some d → IsHolder s d e o → is_its h o ≡ true → gone_in s.controller d ≡ false → 0 < length (line_at s.flights d e) → DoesCoreStep s (ClearHalt h e) (says h (Refused Busy)) s
  unfolding step_core clear_core
  halts_busy s h d e o device held its still some setup w c keeps shows =
      let at = mine_at setup s c h d e o keeps held its in
      let busy : (length (line_at s.flights d e) == 0) ≡ false = ne_eqb (length (line_at s.flights d e)) 0 (λ none. omega (arith, some, none)) in
      subst (λ (x : Option KeptEndpoint). Is setup (clear_core setup c h e x) (says h (Refused Busy)) s) (sym (kept_is setup s c h d e at device))
      (refused_is setup s c h (halt_tests c h (c.endpoints d e)) (calls c h (c.names h) (calling.device_of c h) e (ClearHalt h e) (unhalted (c.endpoints d e))) Busy keeps
      (halt_first setup w s c h d e at shows device still ∙ ap (λ (b : Bool). if not b then Some Busy else None) busy))

  -- the core behind it
  cleared_core : (setup : Setup) (s : State P) (c : Core) (h d e : ℕ) → IsAt setup s c h d e → Keeps setup (record s { controller = unhalted_by s.controller d e }) (worked h (c.names h) d e (ClearHalt h e) (handle_work (unhalted (c.endpoints d e))) c)
  cleared_core setup s c h d e at = rests_amid setup new c h d e (ClearHalt h e) b Done [] (keeps_as setup new after (amid h d e (ClearHalt h e) b [] c)
      (record {
        names = λ g. refl;
        claims = λ dev i. refl;
        gone = λ dev. refl;
        endpoints = λ dev ep. refl;
        orders = refl;
        events = refl;
        posted = refl;
        results = sym (append-nil c.results);
      })
      (keeps_with setup s new c after h d e at
      (record { claims = refl; lanes = at.keeps.lanes; keyed = at.keeps.keyed; cells = at.keeps.cells; lines = λ dev ep other. refl; sent = λ dev ep other. refl })
      (record {
        same = refl;
        others = λ dev ep other. with_other c.endpoints d e b dev ep other;
        mine = subst (λ (x : KeptEndpoint). KeepsEnd new (Some h) d e x) (sym (here c.endpoints d e b)) (record { line = end.line; errand = end.errand });
        buffers = buffers_same s new refl refl (rings_changed s.controller d (λ v. record v { pipes = slice_set v.pipes (endpoint_id e) (cleared (pipe_at v.pipes e)) }) (λ v there id. refl)) at.keeps.buffers;
        held = (hosts setup s.controller c.gone c.endpoints c.orders c.events c.posted d e at.interface at.keeps.plain at.keeps.held at.there).clears;
        named = λ g. name_still s new g (c.names g) (pieces_of g c.results) refl refl (at.keeps.named g);
        ended = at.keeps.ended;
        ended_plain = at.keeps.ended_plain;
      })))
    where
      new : State P
      new = record s { controller = unhalted_by s.controller d e }

      b : KeptEndpoint
      b = record (c.endpoints d e) { device_halted = false }

      after : Core
      after = with_kept d e b c

      end : KeepsEnd s (Some h) d e (c.endpoints d e)
      end = end_at setup s c h d e at

  -- it is cleared
  halts_it : (s : State P) (h d e : ℕ) (o : Option ℕ) → device_of s.claims h ≡ Some d → IsHolder s d e o → is_its h o ≡ true → gone_in s.controller d ≡ false → length (line_at s.flights d e) ≡ 0
      → DoesCoreStep s (ClearHalt h e) (says h Done) (record s { controller = unhalted_by s.controller d e })
  unfolding step_core clear_core
  halts_it s h d e o device held its still none setup w c keeps shows =
      let at = mine_at setup s c h d e o keeps held its in
      let new : State P = record s { controller = unhalted_by s.controller d e } in
      let idle : (length (line_at s.flights d e) == 0) ≡ true = eq-eqb (length (line_at s.flights d e)) 0 none in
      subst (λ (x : Option KeptEndpoint). Is setup (clear_core setup c h e x) (says h Done) new) (sym (kept_is setup s c h d e at device))
      (accepted_is setup new c h (halt_tests c h (c.endpoints d e)) (calls c h (c.names h) (calling.device_of c h) e (ClearHalt h e) (unhalted (c.endpoints d e))) (says h Done)
      (halt_first setup w s c h d e at shows device still ∙ ap (λ (b : Bool). if not b then Some Busy else None) idle)
      (refl, subst (λ (dev : ℕ). Keeps setup new (worked h (c.names h) dev e (ClearHalt h e) (handle_work (unhalted (c.endpoints d e))) c)) (sym (ap (λ (x : Option ℕ). unwrap_or x 0) ((keeps.named h).device ∙ device))) (cleared_core setup s c h d e at)))

  pub halts_now : (now s : State P) (h d e : ℕ) (o : Option ℕ) (k : Controller) → s ≡ now → device_of now.claims h ≡ Some d → IsHolder now d e o → is_its h o ≡ true → gone_in now.controller d ≡ false → length (line_at now.flights d e) ≤ 0
      → k ≡ unhalted_by s.controller d e → DoesCoreStep now (ClearHalt h e) (says h Done) (record s { controller = k })
  halts_now now s h d e o k same device held its still none is =
      subst₂ (λ (x : State P) (y : Controller). DoesCoreStep x (ClearHalt h e) (says h Done) (record s { controller = y })) same (sym is)
      (halts_it s h d e o (ap (λ (x : State P). device_of x.claims h) same ∙ device) (subst (λ (x : State P). IsHolder x d e o) (sym same) held) its
      (ap (λ (x : State P). gone_in x.controller d) same ∙ still) (ap (λ (x : State P). length (line_at x.flights d e)) same ∙ omega (arith, none)))
