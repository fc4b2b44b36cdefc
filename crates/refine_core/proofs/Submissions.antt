-- A submission that is accepted is the core's.
use Rattle.std.proofs.Common.{◌≡◌, ℕ, ◌+◌, Bool, true, false, refl, ap, sym, subst, ◌∙◌, append-nil, Some}
use Rattle.std.specs.Prelude.{◌==◌, if◌then◌else◌}
use Rattle.usb_model.specs.declared.entry.Entry.{Entry}
use Rattle.usb_model.specs.declared.handle.Handle.{Handle}
use Rattle.usb_model.specs.declared.refused.Refused.{Refused}
use Rattle.usb_model.specs.declared.reply.Reply.TheVariants as reply
use Rattle.usb_model.specs.declared.request.Request.{Request}
use Rattle.usb_model.specs.declared.step.Step.{Step}
use Rattle.usb_model.specs.declared.step.Step.TheVariants.{Submit}
use Rattle.usb_model.specs.Machine.Turns.{takes_news, takes_order}
use Rattle.usb_model.specs.Setup.{Setup, packet_size_of}
use Rattle.usb_model.specs.World.Shared.{past_first}
use Rattle.proof_model.proofs.Lists.Pieces.{same_name}
use Rattle.usb_model.specs.Joins.{joined}
use Rattle.usb_tables.specs.Tds.{Tds}
use Rattle.usb_tables.specs.HandleStates.{number_of}
use Rattle.refine_world.specs.Shows.{Core}
use Rattle.refine_world.specs.Steps.{Stepped}
use Rattle.refine_world.specs.Calls.{calls, joins, step_core}
use Rattle.refine_rings.specs.Holds.{with_end}
use Rattle.refine_core.specs.State.{Keeps, State}
use Rattle.refine_core.specs.Steps.{Is}
use Rattle.refine_core.specs.Submissions.{Admits, RefusesIt, submits}
use Rattle.refine_core.specs.Works.{IsAt, Starts, with_kept}
use Rattle.refine_core.proofs.Amid.{SameCore, keeps_as, own_name}

-- a core with another handle in the place of one
abbrev pub with_handle : ℕ → Handle → Core → Core
with_handle h handle c = record c { names = λ g. if h == g then handle else c.names g }

module _ {P : Type 0} where
  -- own handle
  pub own_handle : (setup : Setup) (s : State P) (c : Core) (h : ℕ) → Keeps setup s c → Keeps setup s (with_handle h (c.names h) c)
  own_handle setup s c h keeps = keeps_as setup s c (with_handle h (c.names h) c)
      (record { names = own_name c.names h; claims = λ d i. refl; gone = λ d. refl; endpoints = λ d e. refl; orders = refl; events = refl; posted = refl; results = refl }) keeps

  -- step: any that takes nothing from the rings. s: the parts before it; amid: with what is left of the handle
  pub submit_is : (setup : Setup) (s amid new : State P) (c : Core) (h d n : ℕ) (request : Request) (tds : Tds) (handle : Handle) (step : Step) (round : ℕ) → takes_order step ≡ false → takes_news step ≡ false → Admits setup s c h d request tds
      → handle.next_number ≡ (c.names h).next_number → Keeps setup amid (with_handle h handle c) → Starts amid new h d request.ep request round → n ≡ number_of s.callers h
      → Is setup (submits setup c h request handle step round) (record { owner = Some h; reply = reply.Number n }) new
  submit_is setup s amid new c h d n request tds handle step round no_order no_news admits number keeps starts given = (
    ap entry_of (given ∙ sym (admits.at.keeps.named h).number) ∙ sym (ap (λ (t : Stepped). t.entry) taken),
    subst (λ (t : Stepped). Keeps setup new t.core) (sym taken) (keeps_as setup new before after same (starts setup mid at admits.short)),
  )
    where
      e : ℕ
      e = request.ep

      mid : Core
      mid = with_handle h handle c

      next : ℕ
      next = (c.names h).next_number

      size : ℕ
      size = packet_size_of setup d e

      accepted : Stepped
      accepted = calls c h (record handle { next_number = next + 1 }) d e step (joins size (c.endpoints d e) next request round)

      taken : submits setup c h request handle step round ≡ accepted
      taken = admits.takes handle step round

      entry_of : ℕ → Entry
      entry_of k = record { owner = Some h; reply = reply.Number k }

      at : IsAt setup amid mid h d e
      at = record { keeps = keeps; interface = admits.at.interface; there = admits.at.there; holds = admits.at.holds }

      before : Core
      before = record (with_kept d e (joined size (mid.endpoints d e) (mid.names h).next_number request round) mid) { names = λ g. if h == g then record (mid.names h) { next_number = (mid.names h).next_number + 1 } else mid.names g }

      after : Core
      after = accepted.core

      own : mid.names h ≡ handle
      own = ap (λ (b : Bool). if b then handle else c.names h) (same_name h)

      own_number : (mid.names h).next_number ≡ next
      own_number = ap (λ (x : Handle). x.next_number) own ∙ number

      named : (g : ℕ) (b : Bool) → (if b then record (mid.names h) { next_number = (mid.names h).next_number + 1 } else if b then handle else c.names g) ≡ (if b then record handle { next_number = next + 1 } else c.names g)
      named g true = λ i. record (own i) { next_number = own_number i + 1 }
      named g false = refl

      same : SameCore before after
      same = record {
        names = λ g. named g (h == g);
        claims = λ dev i. refl;
        gone = λ dev. refl;
        endpoints = λ dev ep. ap (λ (k : ℕ). with_end c.endpoints d e (joined size (c.endpoints d e) k request round) dev ep) own_number;
        orders = sym (append-nil (past_first (takes_order step) c.orders) ∙ ap (λ (b : Bool). past_first b c.orders) no_order);
        events = sym (append-nil (past_first (takes_news step) c.events) ∙ ap (λ (b : Bool). past_first b c.events) no_news);
        posted = refl;
        results = sym (append-nil c.results);
      }

  -- one that is refused
  pub submit_refused : (setup : Setup) (s : State P) (c : Core) (h : ℕ) (request : Request) (why : Refused) (handle : Handle) (step : Step) (round : ℕ) → Keeps setup s c → RefusesIt setup c h request why
      → Is setup (submits setup c h request handle step round) (record { owner = Some h; reply = reply.Refused why }) s
  submit_refused setup s c h request why handle step round keeps refused = (
    sym (ap (λ (t : Stepped). t.entry) (refused handle step round)),
    subst (λ (t : Stepped). Keeps setup s t.core) (sym (refused handle step round)) keeps,
  )

  -- a submission of its own, accepted
  pub submits_new : (setup : Setup) (old new : State P) (c : Core) (h d n : ℕ) (request : Request) (tds : Tds) → Keeps setup old c → Admits setup old c h d request tds → Starts old new h d request.ep request 0 → n ≡ number_of old.callers h
      → Is setup (step_core setup c (Submit h request)) (record { owner = Some h; reply = reply.Number n }) new
  unfolding step_core
  submits_new setup old new c h d n request tds keeps admits starts given =
      submit_is setup old old new c h d n request tds (c.names h) (Submit h request) 0 refl refl admits refl (own_handle setup old c h keeps) starts given

  -- and refused
  pub refuses_new : (setup : Setup) (s : State P) (c : Core) (h : ℕ) (request : Request) (why : Refused) → Keeps setup s c → RefusesIt setup c h request why
      → Is setup (step_core setup c (Submit h request)) (record { owner = Some h; reply = reply.Refused why }) s
  unfolding step_core
  refuses_new setup s c h request why keeps refused = submit_refused setup s c h request why (c.names h) (Submit h request) 0 keeps refused
