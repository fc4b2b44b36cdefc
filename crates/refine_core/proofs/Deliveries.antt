-- A transfer's event is handled: it stands, or it ended.
use Rattle.std.proofs.Common.{Bool, List, None, Option, Some, [], append-nil, ap, ap₂, arith, false, refl, subst, suc, sym, true, ℕ, ◌+◌, ◌-◌, ◌++◌, ◌≤◌, ◌∙◌, ◌∷◌, ◌≡◌}
use Rattle.std.specs.Prelude.{IsSome, is_some, drop, is_none, slice_set, ◌==◌, if◌then◌else◌}
use Rattle.std.specs.List.{prefix_len}
use Rattle.std.proofs.lemmas.List.{drop-drop}
use Rattle.std.proofs.lemmas.Option.{same_Some}
use Rattle.usb_model.specs.declared.entry.Entry.{Entry}
use Rattle.usb_model.specs.declared.errand.Errand.{Errand}
use Rattle.usb_model.specs.declared.reply.Reply.TheVariants.{Finished, Paused}
use Rattle.usb_model.specs.declared.step.Step.TheVariants.{Deliver}
use Rattle.usb_model.specs.declared.result.TransferResult.{TransferResult}
use Rattle.usb_model.specs.Endpoint.Status.{halts}
use Rattle.usb_model.specs.Setup.{Setup, interface_of}
use Rattle.usb_model.specs.World.Shared.{past_first, tagged}
use Rattle.usb_model.specs.Kept.{KeptEndpoint, KeptTransfer}
use Rattle.usb_model.specs.Events.{Handled, Reading, find_at, finish, kept_after, kept_result, past_at, past_kept_blanks}
use Rattle.usb_model.specs.Settlements.{pauses}
use Rattle.usb_tables.specs.Orders.{ordered, without_ended}
use Rattle.usb_model.specs.Stands.{length_at, read_off}
use Rattle.usb_xhc.specs.Context.{Context}
use Rattle.refine_rings.specs.Endpoint.{IsContext}
use Rattle.refine_rings.specs.Holds.{ring_at}
use Rattle.usb_tables.specs.TransfersInFlight.{TransfersInFlight, item_at, line_at, with_item}
use Rattle.refine_world.specs.Known.{KnowsTransfer, NoMove}
use Rattle.refine_world.specs.Shows.{Core, RingEvent}
use Rattle.refine_world.specs.Steps.{Stepped, deliver_core, deliver_first, delivers, handle_work, transfer_work, worked, works}
use Rattle.refine_world.proofs.Strays.{never_stray}
use Rattle.refine_core.specs.Deliveries.{Tells, ending_of, leaving}
use Rattle.refine_core.specs.State.{AllItems, Keeps, State}
use Rattle.refine_core.specs.Steps.{Is, amid}
use Rattle.refine_core.specs.Works.{Finishes, IsAt, Pauses, Posts, context_in, with_kept}
use Rattle.refine_core.proofs.Amid.{keeps_as, posts_amid, rests_amid}
use Rattle.refine_core.proofs.Items.{IsFoundAt, found_at}
use Rattle.refine_core.proofs.Held.{held_interface}
use Rattle.refine_core.proofs.Lines.{drop_items, past_blanks}
use Rattle.refine_core.proofs.Same.{put_same}
use Rattle.refine_core.proofs.Reports.{read_parts, ring_of_item}
use Rattle.usb_tables.specs.declared.transfer.Transfer.{Transfer as InFlight}
use Rattle.refine_core.proofs.Transfers as transfers
use Rattle.refine_core.proofs.Transfers.{IsLiveAt, end_at, live_at}

module _ {P : Type 0} where
  -- what is known where an event tells of a transfer
  pub record IsTold (setup : Setup) (s : State P) (c : Core) (rest : List RingEvent) (h d e item place : ℕ) (kept : KeptTransfer) : Type 0 where
    pub at : IsAt setup s (record c { events = rest }) h d e
    pub live : kept.blank ≡ false
    pub still : NoMove d e c.orders
    pub found : find_at place (c.endpoints d e).line ≡ Some kept
    pub in_line : IsFoundAt place (c.endpoints d e).line kept item
    pub flight : IsLiveAt s h d e item kept

  pub told : (setup : Setup) (s : State P) (c : Core) (h d e item n actual code : ℕ) → (tells : Tells setup s c h d e item n actual code) → IsTold setup s c tells.rest h d e item tells.place tells.kept
  told setup s c h d e item n actual code tells = record {
    at = at;
    live = live;
    still = knows.still;
    found = parts.0;
    in_line = found_at ring.0 (c.endpoints d e) tells.place item tells.kept ring.2 parts.0 tells.there;
    flight = live_at setup s (record c { events = tells.rest }) h d e item tells.kept at tells.there live;
  }
    where
      knows : KnowsTransfer setup c d e tells.place tells.residual
      knows = never_stray setup tells.keeps.fine (omega (arith, tells.keeps.bounded)) tells.world c tells.shows _ tells.rest tells.first

      same : knows.found ≡ record { kept = tells.kept; actual = actual }
      same = same_Some knows.found (record { kept = tells.kept; actual = actual }) (sym knows.reads ∙ tells.reads)

      live : tells.kept.blank ≡ false
      live = ap (λ (r : Reading). r.kept.blank) (sym same) ∙ knows.live

      interface : (i : ℕ) × (interface_of setup d e ≡ Some i)
      interface = held_interface setup c.claims d e h tells.holds

      at : IsAt setup s (record c { events = tells.rest }) h d e
      at = record { keeps = tells.keeps; interface = interface.0; there = interface.1; holds = tells.holds }

      parts : (find_at tells.place (c.endpoints d e).line ≡ Some tells.kept) × (tells.residual ≤ length_at tells.kept.lengths (tells.place - tells.kept.place)) × (read_off tells.kept.lengths (tells.place - tells.kept.place) tells.residual ≡ actual)
      parts = read_parts tells.place tells.residual (find_at tells.place (c.endpoints d e).line) (record { kept = tells.kept; actual = actual }) tells.reads

      ring : (x : Context) × (context_in s.controller d e ≡ Some x) × IsContext x (c.endpoints d e) × (x.ring.line.base ≡ ring_at d e)
      ring = ring_of_item setup s (record c { events = tells.rest }) h d e item tells.kept at tells.there

  -- the core's step, where the event's transfer is read and its endpoint is held
  stepped : (setup : Setup) (s : State P) (c : Core) (h d e item n actual code : ℕ) → (tells : Tells setup s c h d e item n actual code)
      → deliver_core setup c ≡ works h d e Deliver (handle_work (if code == 26 then pauses (c.endpoints d e) tells.place (record { kept = tells.kept; actual = actual }) else finish (c.gone d) c.posted (c.endpoints d e) tells.place code (record { kept = tells.kept; actual = actual }))) c
  unfolding deliver_core deliver_first transfer_work delivers
  stepped setup s c h d e item n actual code tells =
      ap (deliver_first setup c) tells.first
      ∙ ap₂ (λ (r : Option Reading) (o : Option ℕ). delivers c d e (transfer_work (c.gone d) c.posted (c.endpoints d e) tells.place code r) o) tells.reads tells.holds

  -- what the parts keep amid the step is what they keep of the core without its event
  amid_taken : (setup : Setup) (s : State P) (c : Core) (rest : List RingEvent) (event : RingEvent) (h d e : ℕ) (b after : KeptEndpoint) (results : List TransferResult) → c.events ≡ event ∷ rest → b ≡ after
      → Keeps setup s (record (with_kept d e b (record c { events = rest })) { results = c.results ++ tagged h results }) → Keeps setup s (amid h d e Deliver after results c)
  amid_taken setup s c rest event h d e b after results first same keeps = keeps_as setup s (record (with_kept d e b (record c { events = rest })) { results = c.results ++ tagged h results }) (amid h d e Deliver after results c)
      (record {
        names = λ g. refl;
        claims = λ dev i. refl;
        gone = λ dev. refl;
        endpoints = λ dev ep. put_same c.endpoints d e b after same dev ep;
        orders = refl;
        events = sym (ap (past_first true) first);
        posted = refl;
        results = refl;
      })
      keeps

  -- the transfer stands
  pub pauses_event : (setup : Setup) (old new : State P) (c : Core) (h d e item n actual code : ℕ) → Tells setup old c h d e item n actual code → (code == 26) ≡ true → Pauses old new h d e item actual
      → Is setup (deliver_core setup c) (record { owner = Some h; reply = Paused n }) new
  pauses_event setup old new c h d e item n actual code tells stands paused =
      subst (λ (t : Stepped). Is setup t (record { owner = Some h; reply = Paused n }) new) (sym now)
      (ap (λ m. entry_of m) (sym tells.number), rests_amid setup new c h d e Deliver after (Paused tells.kept.n) [] between)
    where
      is : IsTold setup old c tells.rest h d e item tells.place tells.kept
      is = told setup old c h d e item n actual code tells

      b : KeptEndpoint
      b = c.endpoints d e

      found : Reading
      found = record { kept = tells.kept; actual = actual }

      now : deliver_core setup c ≡ works h d e Deliver (handle_work (pauses b tells.place found)) c
      now = stepped setup old c h d e item n actual code tells
          ∙ ap (λ (t : Bool). works h d e Deliver (handle_work (if t then pauses b tells.place found else finish (c.gone d) c.posted b tells.place code found)) c) stands

      entry_of : ℕ → Entry
      entry_of m = record { owner = Some h; reply = Paused m }

      after : KeptEndpoint
      after = (pauses b tells.place found).endpoint

      between : Keeps setup new (amid h d e Deliver after [] c)
      between = amid_taken setup new c tells.rest _ h d e (record b { line = slice_set b.line item (record tells.kept { moved = actual }) }) after [] tells.first
          (ap (λ (l : List KeptTransfer). record b { line = l }) (sym (is.in_line.put (record tells.kept { moved = actual }))))
          (subst (λ r. Keeps setup new (record (with_kept d e (record b { line = slice_set b.line item (record tells.kept { moved = actual }) }) (record c { events = tells.rest })) { results = r })) (sym (append-nil c.results))
          (paused setup (record c { events = tells.rest }) tells.kept is.at tells.there is.live))

  -- what is left of the line where a transfer ended
  line_left : (s : State P) (d e item code place h : ℕ) (b : KeptEndpoint) (y : KeptTransfer) → AllItems (Some h) e (line_at s.flights d e) b.line → IsFoundAt place b.line y item → drop (leaving s d e item code) b.line ≡ kept_after place code b.line
  line_left s d e item code place h b y all found = by_test (halts code)
    where
      more : suc item ≡ item + 1
      more = omega arith

      past : past_at place b.line ≡ drop (item + 1) b.line
      past = found.past ∙ ap (λ m. drop m b.line) more

      behind : past_kept_blanks (drop (item + 1) b.line) ≡ drop (prefix_len is_none (drop (item + 1) (line_at s.flights d e))) (drop (item + 1) b.line)
      behind = past_blanks (Some h) e (drop (item + 1) (line_at s.flights d e)) (drop (item + 1) b.line) (drop_items (Some h) e (item + 1) (line_at s.flights d e) b.line all)

      by_test : (t : Bool) → drop (item + 1 + (if t then 0 else prefix_len is_none (drop (item + 1) (line_at s.flights d e)))) b.line ≡ (if t then past_at place b.line else past_kept_blanks (past_at place b.line))
      by_test true = ap (λ m. drop m b.line) (omega arith) ∙ sym past
      by_test false = sym (ap past_kept_blanks past ∙ behind ∙ drop-drop (prefix_len is_none (drop (item + 1) (line_at s.flights d e))) (item + 1) b.line)

  -- the parts amid the step where a transfer ended
  pub ends_amid : (setup : Setup) (old mid : State P) (c : Core) (h d e item n actual code : ℕ) → (tells : Tells setup old c h d e item n actual code) → Finishes old mid h d e item (ending_of c d tells.kept actual code) (leaving old d e item code)
      → IsAt setup mid (amid h d e Deliver (without_ended tells.place code (c.endpoints d e)) (kept_result (c.gone d) code tells.kept actual ∷ []) c) h d e
  ends_amid setup old mid c h d e item n actual code tells finished = record {
    keeps = amid_taken setup mid c tells.rest _ h d e (record b { line = drop (leaving old d e item code) b.line }) (without_ended tells.place code b) (kept_result (c.gone d) code tells.kept actual ∷ []) tells.first
        (ap (λ (l : List KeptTransfer). record b { line = l }) (line_left old d e item code tells.place h b tells.kept (end_at setup old (record c { events = tells.rest }) h d e is.at).line is.in_line))
        (finished setup (record c { events = tells.rest }) tells.kept is.at is.still tells.there is.live);
    interface = is.at.interface;
    there = is.at.there;
    holds = is.at.holds;
  }
    where
      is : IsTold setup old c tells.rest h d e item tells.place tells.kept
      is = told setup old c h d e item n actual code tells

      b : KeptEndpoint
      b = c.endpoints d e

  -- the transfer ended, and an errand is ordered if need be
  pub ends_event : (setup : Setup) (old mid new : State P) (c : Core) (h d e item n actual code : ℕ) (o : Option Errand) → (tells : Tells setup old c h d e item n actual code) → (code == 26) ≡ false
      → Finishes old mid h d e item (ending_of c d tells.kept actual code) (leaving old d e item code)
      → ((gone : Bool) (next p : ℕ) (found : Reading) → finish gone next (c.endpoints d e) p code found ≡ ordered o next (without_ended p code (c.endpoints d e)) (Finished found.kept.n) (kept_result gone code found.kept found.actual ∷ []))
      → (o ≡ None → new ≡ mid) → ((errand : Errand) → o ≡ Some errand → Posts mid new h d e errand)
      → Is setup (deliver_core setup c) (record { owner = Some h; reply = Finished n }) new
  ends_event setup old mid new c h d e item n actual code o tells ends finished by_order none post =
      subst (λ (t : Stepped). Is setup t (record { owner = Some h; reply = Finished n }) new) (sym now) (by_errand o none post)
    where
      b : KeptEndpoint
      b = c.endpoints d e

      found : Reading
      found = record { kept = tells.kept; actual = actual }

      after : KeptEndpoint
      after = without_ended tells.place code b

      made : List TransferResult
      made = kept_result (c.gone d) code tells.kept actual ∷ []

      now : deliver_core setup c ≡ works h d e Deliver (handle_work (ordered o c.posted after (Finished tells.kept.n) made)) c
      now = stepped setup old c h d e item n actual code tells
          ∙ ap (λ (t : Bool). works h d e Deliver (handle_work (if t then pauses b tells.place found else finish (c.gone d) c.posted b tells.place code found)) c) ends
          ∙ ap (λ (a : Handled). works h d e Deliver (handle_work a) c) (by_order (c.gone d) c.posted tells.place found)

      at : IsAt setup mid (amid h d e Deliver after made c) h d e
      at = ends_amid setup old mid c h d e item n actual code tells finished

      entry_of : ℕ → Entry
      entry_of m = record { owner = Some h; reply = Finished m }

      by_errand : (p : Option Errand) → (p ≡ None → new ≡ mid) → ((errand : Errand) → p ≡ Some errand → Posts mid new h d e errand)
          → Is setup (works h d e Deliver (handle_work (ordered p c.posted after (Finished tells.kept.n) made)) c) (record { owner = Some h; reply = Finished n }) new
      by_errand None same ordering = (
        ap entry_of (sym tells.number),
        subst (λ (s : State P). Keeps setup s (worked h (c.names h) d e Deliver (handle_work (ordered None c.posted after (Finished tells.kept.n) made)) c)) (sym (same refl)) (rests_amid setup mid c h d e Deliver after (Finished tells.kept.n) made at.keeps),
      )
      by_errand (Some errand) same ordering = (
        ap entry_of (sym tells.number),
        posts_amid setup mid new c h d e Deliver after errand (Finished tells.kept.n) made at (ordering errand refl),
      )

  -- the same of parts as a function finds them: the transfer is there, and what is told of a pause is kept
  module _ (s v : State P) (same : v ≡ s) (h d e item : ℕ) where
    pub is_live : (setup : Setup) (c : Core) (n actual code : ℕ) → Tells setup s c h d e item n actual code → IsSome (item_at v.flights d e item)
    is_live setup c n actual code tells =
        ap (λ (u : State P). is_some (item_at u.flights d e item)) same ∙ ap is_some (told setup s c h d e item n actual code tells).flight.found

    pub pauses_by : (actual : ℕ) (f : TransfersInFlight (InFlight P)) → ((t : InFlight P) → item_at v.flights d e item ≡ Some t → f ≡ with_item v.flights d e item (Some (record t { moved = actual })))
        → Pauses s (record v { flights = f }) h d e item actual
    pauses_by actual f paused = subst (λ (u : State P). Pauses u (record v { flights = f }) h d e item actual) same (transfers.pauses v f h d e item actual paused)
