-- The end of an errand is handled.
use Rattle.std.proofs.Common.{Bool, List, None, Option, Some, [], append-nil, ap, ap₂, arith, false, map, refl, subst, sym, true, ℕ, ◌++◌, ◌∙◌, ◌≡◌}
use Rattle.std.specs.Prelude.{drop, ◌==◌, if◌then◌else◌}
use Rattle.std.proofs.lemmas.Option.{same_Some}
use Rattle.usb_model.specs.declared.endpoint.EndpointState.TheVariants.{Halted, Running, Stopped}
use Rattle.usb_model.specs.declared.errand.Errand.{Errand}
use Rattle.usb_model.specs.declared.errand.Errand.TheVariants as errands
use Rattle.usb_model.specs.declared.reply.Reply.{Reply}
use Rattle.usb_model.specs.declared.reply.Reply.TheVariants.{Settled}
use Rattle.usb_model.specs.declared.result.TransferResult.{TransferResult}
use Rattle.usb_model.specs.declared.shared.Tagged.{Tagged}
use Rattle.usb_model.specs.declared.step.Step.TheVariants.{Deliver}
use Rattle.usb_model.specs.Requests.{is_unsupported}
use Rattle.usb_model.specs.Setup.{Setup, interface_of, kind_of}
use Rattle.usb_model.specs.World.Shared.{past_first, tagged}
use Rattle.usb_model.specs.Kept.{KeptEndpoint, SentErrand}
use Rattle.usb_model.specs.Events.{Handled, errand_of}
use Rattle.usb_model.specs.Settlements.{kept_blanked, settle, withdrawn_results}
use Rattle.usb_tables.specs.declared.ended.Settlement.{Settlement}
use Rattle.usb_tables.specs.Settlements.{goes_on, line_by, results_by}
use Rattle.usb_device.specs.Pipe.{pipe_at}
use Rattle.usb_xhc.specs.Context.{Context}
use Rattle.refine_world.specs.Known.{KnowsCompletion, NoMove}
use Rattle.refine_world.specs.Shows.{Core, RingEvent}
use Rattle.refine_world.specs.Steps.{Stepped, complete_at, completion_work, deliver_core, deliver_first, delivers, handle_work, works}
use Rattle.refine_world.proofs.Bounds.{few_everywhere}
use Rattle.refine_world.proofs.Numbers.{few_places}
use Rattle.refine_world.proofs.Strays.{never_stray}
use Rattle.refine_rings.specs.Holds.{RingIs, with_end}
use Rattle.refine_rings.proofs.Ends.{here}
use Rattle.refine_core.specs.Deliveries.{CanSettle, Settles, WithdrawsAll}
use Rattle.refine_core.specs.State.{Keeps, State}
use Rattle.refine_core.specs.Steps.{CanPost, Is, amid}
use Rattle.refine_core.specs.Works.{IsAt, Leaves, Posts, Resumes, context_in, with_kept}
use Rattle.refine_core.proofs.Amid.{keeps_as, posts_amid, rests_amid}
use Rattle.refine_core.proofs.Held.{held_interface}
use Rattle.refine_core.proofs.Rings.{IsSlotOf, slot_of}
use Rattle.refine_core.proofs.Same.{put_same, put_twice}
use Rattle.refine_core.proofs.Settlements.{Fits}
use Rattle.refine_core.proofs.Withdrawals.{keeps_over}

-- a Stop that failed orders an errand
none_sent : (ep next : ℕ) (b : KeptEndpoint) → (settle ep next b errands.Stop false).orders ≡ [] → ⊥
unfolding settle
none_sent ep next b is = absurd cc

module _ {P : Type 0} where
  -- what is known where an errand's completion was taken
  pub record IsEnded (setup : Setup) (s : State P) (c : Core) (rest : List RingEvent) (h d e code : ℕ) (errand : Errand) : Type 0 where
    pub at : IsAt setup s (record c { events = rest }) h d e
    pub still : NoMove d e c.orders
    pub went : (code == 1) ≡ true → (c.endpoints d e).state ≡ Stopped
    pub failed : (code == 1) ≡ false → errand ≡ errands.Stop
    pub order : SentErrand
    pub sent : (c.endpoints d e).errand ≡ Some order
    pub its : order.errand ≡ errand

  pub ended : (setup : Setup) (s : State P) (c : Core) (h d e : ℕ) (errand : Errand) (code : ℕ) → (is : Settles setup s c h d e errand code) → IsEnded setup s c is.rest h d e code errand
  ended setup s c h d e errand code is = record {
    at = record { keeps = is.keeps; interface = interface.0; there = interface.1; holds = is.holds };
    still = subst (λ ep. NoMove d ep c.orders) same knows.still;
    went = λ ok. ap (λ ep. (c.endpoints d ep).state) (sym same) ∙ knows.went ok;
    failed = λ fails. sym its ∙ knows.failed fails;
    order = knows.sent;
    sent = there;
    its = its;
  }
    where
      knows : KnowsCompletion setup c d is.index code
      knows = never_stray setup is.keeps.fine (omega (arith, is.keeps.bounded)) is.world c is.shows _ is.rest is.first

      same : knows.ep ≡ e
      same = same_Some knows.ep e (sym knows.sends ∙ is.sends)

      interface : (i : ℕ) × (interface_of setup d e ≡ Some i)
      interface = held_interface setup c.claims d e h is.holds

      there : (c.endpoints d e).errand ≡ Some knows.sent
      there = ap (λ ep. (c.endpoints d ep).errand) (sym same) ∙ knows.order

      its : knows.sent.errand ≡ errand
      its = same_Some knows.sent.errand errand (sym (ap errand_of there) ∙ is.order)

  -- the core's step
  stepped : (setup : Setup) (s : State P) (c : Core) (h d e : ℕ) (errand : Errand) (code : ℕ) → Settles setup s c h d e errand code → deliver_core setup c ≡ works h d e Deliver (handle_work (settle e c.posted (c.endpoints d e) errand (code == 1))) c
  unfolding deliver_core deliver_first complete_at completion_work delivers
  stepped setup s c h d e errand code is =
      let known = ended setup s c h d e errand code is in
      ap (deliver_first setup c) is.first
      ∙ ap (complete_at setup c d code) is.sends
      ∙ ap₂ (λ (x : Option SentErrand) (o : Option ℕ). delivers c d e (completion_work e c.posted (c.endpoints d e) code x) o) known.sent is.holds
      ∙ ap (λ (x : Errand). works h d e Deliver (handle_work (settle e c.posted (c.endpoints d e) x (code == 1))) c) known.its

  -- an endpoint with an errand has a ring
  pub supported_there : (setup : Setup) (s : State P) (c : Core) (h d e : ℕ) (order : SentErrand) → IsAt setup s c h d e → (c.endpoints d e).errand ≡ Some order → is_unsupported (kind_of setup d e) ≡ false
  supported_there setup s c h d e order at sent = by_context (context_in s.controller d e) slot.ring
    where
      slot : IsSlotOf setup s.controller c d e (context_in s.controller d e)
      slot = slot_of setup s.controller c d e at.interface at.keeps.held at.there

      by_context : (o : Option Context) → RingIs setup d e (pipe_at slot.slot.pipes e) (c.endpoints d e) o → is_unsupported (kind_of setup d e) ≡ false
      by_context None ring =
          let none : None ≡ Some order = sym ring.errand ∙ sent in
          absurd cc
      by_context (Some x) ring = ring.supported

  -- an endpoint whose errand ended can be settled
  pub can_settle : (setup : Setup) (s : State P) (c : Core) (h d e : ℕ) (errand : Errand) (code : ℕ) → Settles setup s c h d e errand code → CanSettle s h d e
  can_settle setup s c h d e errand code is =
      let known = ended setup s c h d e errand code is in
      record {
        setup = setup;
        core = record c { events = is.rest };
        at = known.at;
        still = known.still;
        few = (few_places setup is.keeps.fine is.world c is.shows h d e is.holds).1;
        supported = supported_there setup s (record c { events = is.rest }) h d e known.order known.at known.sent;
        room = omega (arith, (few_everywhere setup is.world c is.shows is.keeps.fine).1, is.keeps.bounded);
      }

  -- an order can be posted there
  pub can_post_settled : (s : State P) (h d e : ℕ) → CanSettle s h d e → CanPost s d e
  can_post_settled s h d e can = record { setup = can.setup; core = can.core; name = h; at = can.at; supported = can.supported; room = can.room }

  -- a settlement is carried out: blanks left, transfers were withdrawn or not, and an errand is ordered or the endpoint goes on
  pub settles_event : (setup : Setup) (old left mid new : State P) (c : Core) (h d e : ℕ) (errand : Errand) (code : ℕ) (t : Settlement) → Settles setup old c h d e errand code → Fits e c.posted (c.endpoints d e) errand (code == 1) t
      → Leaves old left h d e t.leave → (t.withdraw ≡ true → WithdrawsAll left mid h d e) → (t.withdraw ≡ false → mid ≡ left)
      → (t.next ≡ None → Resumes mid new h d e) → ((o : Errand) → t.next ≡ Some o → Posts mid new h d e o)
      → Is setup (deliver_core setup c) (record { owner = Some h; reply = Settled e errand (code == 1) }) new
  settles_event setup old left mid new c h d e errand code t is fits leaves withdraws stays resumes ordering =
      subst (λ (v : Stepped). Is setup v (record { owner = Some h; reply = Settled e errand (code == 1) }) new) (sym now) (by_next t.next refl)
    where
      known : IsEnded setup old c is.rest h d e code errand
      known = ended setup old c h d e errand code is

      b : KeptEndpoint
      b = c.endpoints d e

      reply : Reply
      reply = Settled e errand (code == 1)

      after : KeptEndpoint
      after = record b { line = line_by t b.line }

      made : List TransferResult
      made = results_by t b.line

      dropped : KeptEndpoint
      dropped = record b { line = drop t.leave b.line }

      c1 : Core
      c1 = record c { events = is.rest }

      c2 : Core
      c2 = with_kept d e dropped c1

      keeps2 : Keeps setup left c2
      keeps2 = leaves setup c1 known.at known.still

      at2 : IsAt setup left c2 h d e
      at2 = record { keeps = keeps2; interface = known.at.interface; there = known.at.there; holds = known.at.holds }

      there2 : c2.endpoints d e ≡ dropped
      there2 = here c1.endpoints d e dropped

      -- what is kept amid the step, by what was put at the endpoint and what was made
      amid_of : (s : State P) (v : KeptEndpoint) (rs : List TransferResult) (r : List (Tagged TransferResult)) → v ≡ after → r ≡ c.results ++ tagged h made → Keeps setup s (record (with_kept d e v c1) { results = r }) → Keeps setup s (amid h d e Deliver after made c)
      amid_of s v rs r end results keeps = keeps_as setup s (record (with_kept d e v c1) { results = r }) (amid h d e Deliver after made c)
          (record {
            names = λ g. refl;
            claims = λ dev i. refl;
            gone = λ dev. refl;
            endpoints = λ dev ep. put_same c.endpoints d e v after end dev ep;
            orders = refl;
            events = sym (ap (past_first true) is.first);
            posted = refl;
            results = results;
          })
          keeps

      between : Keeps setup mid (amid h d e Deliver after made c)
      between = by_withdraw t.withdraw refl
        where
          by_withdraw : (w : Bool) → t.withdraw ≡ w → Keeps setup mid (amid h d e Deliver after made c)
          by_withdraw true with_all =
              let all = withdraws with_all setup c2 at2 known.still in
              amid_of mid (record (c2.endpoints d e) { line = map kept_blanked (c2.endpoints d e).line }) made (c.results ++ tagged h (withdrawn_results (c2.endpoints d e).line))
              (ap (λ (v : KeptEndpoint). record v { line = map kept_blanked v.line }) there2
              ∙ ap (λ w. record b { line = if w then map kept_blanked (drop t.leave b.line) else drop t.leave b.line }) (sym with_all))
              (ap (λ (v : KeptEndpoint). c.results ++ tagged h (withdrawn_results v.line)) there2
              ∙ ap (λ w. c.results ++ tagged h (if w then withdrawn_results (drop t.leave b.line) else [])) (sym with_all))
              (keeps_over setup mid c1 d e dropped (record (c2.endpoints d e) { line = map kept_blanked (c2.endpoints d e).line }) c.results (c.results ++ tagged h (withdrawn_results (c2.endpoints d e).line)) all)
          by_withdraw false without =
              amid_of mid dropped made c.results
              (ap (λ w. record b { line = if w then map kept_blanked (drop t.leave b.line) else drop t.leave b.line }) (sym without))
              (sym (ap (λ w. c.results ++ tagged h (if w then withdrawn_results (drop t.leave b.line) else [])) without ∙ append-nil c.results))
              (subst (λ (s : State P). Keeps setup s c2) (sym (stays without)) keeps2)

      at3 : IsAt setup mid (amid h d e Deliver after made c) h d e
      at3 = record { keeps = between; interface = known.at.interface; there = known.at.there; holds = known.at.holds }

      now : deliver_core setup c ≡ works h d e Deliver (handle_work (goes_on t.next c.posted after reply made)) c
      now = stepped setup old c h d e errand code is ∙ ap (λ (a : Handled). works h d e Deliver (handle_work a) c) fits.same

      -- where nothing is ordered the errand went well
      unhalted : t.next ≡ None → ((amid h d e Deliver after made c).endpoints d e).state ≡ Halted → ⊥
      unhalted none halted = by_code (code == 1) refl
        where
          state_is : b.state ≡ Halted
          state_is = sym (ap (λ (v : KeptEndpoint). v.state) (here c.endpoints d e after)) ∙ halted

          by_code : (w : Bool) → (code == 1) ≡ w → ⊥
          by_code true ok =
              let both : Stopped ≡ Halted = sym (known.went ok) ∙ state_is in
              absurd cc
          by_code false fails =
              let settled : settle e c.posted b errands.Stop false ≡ goes_on None c.posted after reply made =
              sym (ap₂ (settle e c.posted b) (known.failed fails) fails) ∙ fits.same ∙ ap (λ (o : Option Errand). goes_on o c.posted after reply made) none in
              none_sent e c.posted b (ap (λ (a : Handled). a.orders) settled)

      by_next : (o : Option Errand) → t.next ≡ o → Is setup (works h d e Deliver (handle_work (goes_on t.next c.posted after reply made)) c) (record { owner = Some h; reply = reply }) new
      by_next None none =
          subst (λ (o : Option Errand). Is setup (works h d e Deliver (handle_work (goes_on o c.posted after reply made)) c) (record { owner = Some h; reply = reply }) new) (sym none) (
            refl,
            rests_amid setup new c h d e Deliver (record after { errand = None; state = Running }) reply made
                (keeps_as setup new (with_kept d e (record ((amid h d e Deliver after made c).endpoints d e) { errand = None; state = Running }) (amid h d e Deliver after made c)) (amid h d e Deliver (record after { errand = None; state = Running }) made c)
                (record {
                  names = λ g. refl;
                  claims = λ dev i. refl;
                  gone = λ dev. refl;
                  endpoints = λ dev ep.
                      put_same (with_end c.endpoints d e after) d e (record (with_end c.endpoints d e after d e) { errand = None; state = Running }) (record after { errand = None; state = Running })
                      (ap (λ (v : KeptEndpoint). record v { errand = None; state = Running }) (here c.endpoints d e after)) dev ep
                      ∙ put_twice c.endpoints d e after (record after { errand = None; state = Running }) dev ep;
                  orders = refl;
                  events = refl;
                  posted = refl;
                  results = refl;
                })
                (resumes none setup (amid h d e Deliver after made c) at3 (unhalted none))),
          )
      by_next (Some o) some =
          subst (λ (v : Option Errand). Is setup (works h d e Deliver (handle_work (goes_on v c.posted after reply made)) c) (record { owner = Some h; reply = reply }) new) (sym some)
          (refl, posts_amid setup mid new c h d e Deliver after o reply made at3 (ordering o some))
