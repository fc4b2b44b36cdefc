-- Whole packets in a row of the item where the controller works, each as one packet of it.
use Rattle.std.proofs.Common.{◌≡◌, ℕ, zero, suc, ◌+◌, ◌<◌, ◌≤◌, refl, ap, ap₂, sym, subst, ◌∙◌, arith, List, ◌∷◌, length, Option, Some, None}
use Rattle.std.specs.Prelude.{option_map, replicate, slice_get, slice_index_or, slice_set}
use Rattle.std.specs.Option.{option_and_then}
use Rattle.std.proofs.lemmas.Option.{same_Some}
use Rattle.usb_model.specs.declared.entry.Entry.{Entry}
use Rattle.usb_model.specs.declared.reply.Reply.TheVariants.{Moved}
use Rattle.usb_model.specs.declared.request.Request.{Request}
use Rattle.usb_model.specs.declared.step.Step.TheVariants.{Serve}
use Rattle.usb_model.specs.Setup.{Setup, packet_size_of}
use Rattle.usb_model.specs.World.{World, holder, turn}
use Rattle.usb_model.specs.Kept.{InRow, KeptEndpoint, KeptTransfer}
use Rattle.usb_device.specs.Pipe.{answer_of, pipe_at}
use Rattle.usb_tables.specs.declared.transfer.Transfer.{Transfer as InFlight}
use Rattle.usb_xhc.specs.declared.packet.PacketResult.{PacketResult as ServedPacket}
use Rattle.usb_xhc.specs.declared.packet.PacketResult.TheVariants as served
use Rattle.usb_xhc.specs.declared.trb_at.TrbAt.{TrbAt}
use Rattle.usb_xhc.specs.Context.{Context}
use Rattle.usb_xhc.specs.Controller.{Controller, served_at, told_at}
use Rattle.usb_xhc.specs.Skims.{controller_skimmed}
use Rattle.usb_xhc.specs.Slots.{DeviceSlot, context_of, serving_at}
use Rattle.usb_xhc.specs.Transaction.{working}
use Rattle.usb_tables.specs.ByEndpoint.{lane_at}
use Rattle.usb_tables.specs.TransfersInFlight.{TransfersInFlight, item_at, line_at, with_item}
use Rattle.refine_world.specs.Calls.{step_core}
use Rattle.refine_world.specs.Shows.{Core, Shows}
use Rattle.refine_world.proofs.Calls.Whole.{whole_steps}
use Rattle.refine_rings.specs.Reports.{reply_of}
use Rattle.refine_rings.proofs.Ends.{here}
use Rattle.refine_rings.proofs.Lookups.{set_same}
use Rattle.refine_core.specs.Laws.{SkimsPackets}
use Rattle.refine_core.specs.Packets.{Serves, Skims, bytes_for, bytes_skimmed, out_of}
use Rattle.refine_core.specs.State.{IsFlight, IsItem, Keeps, State}
use Rattle.refine_core.specs.Steps.{Is, core_behind, core_entries}
use Rattle.refine_core.specs.Works.{IsAt, behind_packet, context_in, packet_of, with_kept}
use Rattle.refine_core.proofs.Amid.{core_as}
use Rattle.refine_core.proofs.Between.{put_read, put_twice, skimmed_next, skimmed_none}
use Rattle.refine_core.proofs.Fronts.{IsAtWork, at_work, working_runs}
use Rattle.refine_core.proofs.Held.{is_at}
use Rattle.refine_core.proofs.EndpointQueues.{has_lane, line_here}
use Rattle.refine_core.proofs.Lines.{index_get, kept_of}
use Rattle.refine_core.proofs.Packets.{core_served, own_end, serves_moved}
use Rattle.refine_core.proofs.Serves.{moves_at}
use Rattle.refine_core.proofs.Stays.{IsNext, IsNow, at_now, get_put, moved_next, next_now}
use Rattle.refine_core.proofs.Transfers.{end_at, item_changes}

-- where something is told the controller works
works_told : (k : Controller) (d e : ℕ) (v : ServedPacket) → told_at k d e ≡ Some v → (x : Context) × (first : TrbAt) × (context_in k d e ≡ Some x) × (working x ≡ Some first)
works_told k d e v told = by_slot (slice_get k.slots d) refl told
  where
    by_work : (s : DeviceSlot) (x : Context) (o : Option TrbAt) → slice_get k.slots d ≡ Some s → context_of s e ≡ Some x → working x ≡ o → option_map (λ y. y.packet) (serving_at s.gone x (answer_of (pipe_at s.pipes e)) o) ≡ Some v
        → (x : Context) × (first : TrbAt) × (context_in k d e ≡ Some x) × (working x ≡ Some first)
    by_work s x None is there work is_told = absurd cc
    by_work s x (Some first) is there work is_told = (x, first, ap (λ (o : Option DeviceSlot). option_and_then (λ y. context_of y e) o) is ∙ there, work)

    by_context : (s : DeviceSlot) (o : Option Context) → slice_get k.slots d ≡ Some s → context_of s e ≡ o → option_map (λ y. y.packet) (option_and_then (λ x. serving_at s.gone x (answer_of (pipe_at s.pipes e)) (working x)) o) ≡ Some v
        → (x : Context) × (first : TrbAt) × (context_in k d e ≡ Some x) × (working x ≡ Some first)
    by_context s None is there is_told = absurd cc
    by_context s (Some x) is there is_told = by_work s x (working x) is there refl is_told

    by_slot : (o : Option DeviceSlot) → slice_get k.slots d ≡ o → option_and_then (λ s. option_map (λ y. y.packet) (option_and_then (λ x. serving_at s.gone x (answer_of (pipe_at s.pipes e)) (working x)) (context_of s e))) o ≡ Some v
        → (x : Context) × (first : TrbAt) × (context_in k d e ≡ Some x) × (working x ≡ Some first)
    by_slot None is is_told = absurd cc
    by_slot (Some s) is is_told = by_context s (context_of s e) is refl is_told

module _ {P : Type 0} (old : State P) (h d e item n size count : ℕ) (t last : InFlight P) where
  -- what is sent of the transfer
  abbrev out : DeviceSlot → Option (List ℕ)
  out = out_of e t.request.body

  -- the bytes read behind so many packets
  abbrev bytes_at : ℕ → List ℕ
  bytes_at i = bytes_skimmed old.controller d e i t.request.body t.bytes.items

  -- the parts behind so many packets, with the transfer as it is then
  abbrev amid : ℕ → InFlight P → State P
  amid i u = record old { controller = controller_skimmed d e out i old.controller; flights = with_item old.flights d e item (Some u) }

  -- the transfer as it is then
  record IsAmid (i : ℕ) (u : InFlight P) : Type 0 where
    pub rest : u ≡ record t { bytes = u.bytes }
    pub items : u.bytes.items ≡ bytes_at i

  -- the item is there, in a line that is there; so many packets are whole; the transfer behind them
  record IsRow : Type 0 where
    pub there : slice_get (line_at old.flights d e) item ≡ Some (Some t)
    pub lanes : length old.flights.lines ≡ 128
    pub lane : lane_at d e < 128
    pub number : t.n ≡ n
    pub whole : (i : ℕ) → i < count → told_at (controller_skimmed d e out i old.controller) d e ≡ Some (served.Moved size)
    pub behind : IsAmid count last

  -- the item in between
  found_amid : (row : IsRow) (i : ℕ) (u : InFlight P) → item_at (amid i u).flights d e item ≡ Some u
  found_amid row i u =
      ap (λ (l : List (Option (InFlight P))). slice_index_or l item None) (line_here old.flights d e (slice_set (line_at old.flights d e) item (Some u)) row.lanes row.lane)
      ∙ index_get (slice_set (line_at old.flights d e) item (Some u)) item None (Some u) (get_put (line_at old.flights d e) item (Some t) (Some u) row.there)

  -- one packet more
  serves_amid : (row : IsRow) (i : ℕ) (u v : InFlight P) → IsAmid i u → IsAmid (suc i) v → u.bytes.capacity ≤ v.bytes.capacity → v.bytes.lent ≡ u.bytes.lent → Serves (amid i u).flights (amid (suc i) v).flights (amid i u).controller d e item u
  serves_amid row i u v is next more same = record {
    served = v;
    behind = record {
      rest = next.rest ∙ sym (ap (λ (x : InFlight P). record x { bytes = v.bytes }) is.rest);
      items = next.items ∙ skimmed_next old.controller d e i t.request.body t.bytes.items
          ∙ ap₂ (λ (r : Request) (bytes : List ℕ). bytes_for (controller_skimmed d e out i old.controller) d e r.body bytes) (sym (ap (λ (x : InFlight P). x.request) is.rest)) (sym is.items);
      room = more;
      lent = same;
    };
    put = sym (put_twice old.flights d e item (Some u) (Some v) row.lanes row.lane);
  }

  -- it is the core's
  step_amid : (setup : Setup) (w : World) (c : Core) (row : IsRow) (i : ℕ) (u v : InFlight P) → IsAmid i u → IsAmid (suc i) v → u.bytes.capacity ≤ v.bytes.capacity → v.bytes.lent ≡ u.bytes.lent → i < count → (x : Context) (first : TrbAt) → context_in (amid i u).controller d e ≡ Some x → working x ≡ Some first
      → IsAt setup (amid i u) c h d e → Shows setup w c → IsAtWork setup (amid i u) c h d e item x first
      → ((packet_of setup c d e).reply ≡ reply_of n (served.Moved size)) × Keeps setup (amid (suc i) v) (behind_packet setup c d e)
  unfolding controller_skimmed
  step_amid setup w c row i u v is next more same before x first there work at shows it =
      moves_at (amid i u) (controller_skimmed d e out (suc i) old.controller) (amid (suc i) v).flights h d e item n (served.Moved size) x first there work (sym (row.whole i before))
      (λ y found. by_u y found (λ z. z.n ≡ n) (ap (λ (z : InFlight P). z.n) is.rest ∙ row.number))
      (λ y found. by_u y found (λ z. controller_skimmed d e out (suc i) old.controller ≡ served_at (controller_skimmed d e out i old.controller) d e (out_of e z.request.body))
      (ap (λ (r : Request). served_at (controller_skimmed d e out i old.controller) d e (out_of e r.body)) (sym (ap (λ (z : InFlight P). z.request) is.rest))))
      (λ y found. by_u y found (λ z. Serves (amid i u).flights (amid (suc i) v).flights (amid i u).controller d e item z) (serves_amid row i u v is next more same))
      refl setup w c at shows it
    where
      by_u : (y : InFlight P) → item_at (amid i u).flights d e item ≡ Some y → (F : InFlight P → Type 0) → F u → F y
      by_u y found F has = subst F (same_Some u y (sym (found_amid row i u) ∙ found)) has

  -- the last transfer may have its bytes elsewhere
  ends_row : (setup : Setup) (c : Core) (row : IsRow) (u : InFlight P) → IsAmid count u → u.bytes.capacity ≤ last.bytes.capacity → IsAt setup (amid count u) c h d e → Keeps setup (amid count last) c
  ends_row setup c row u is more at = subst (λ (x : Core). Keeps setup (amid count last) x) same
      (item_changes setup (amid count u) (amid count last).flights c h d e item y y last at kept.1 (sym (put_twice old.flights d e item (Some u) (Some last) row.lanes row.lane)) flies refl refl refl refl)
    where
      b : KeptEndpoint
      b = c.endpoints d e

      in_line : slice_get (line_at (amid count u).flights d e) item ≡ Some (Some u)
      in_line =
          ap (λ (l : List (Option (InFlight P))). slice_get l item) (line_here old.flights d e (slice_set (line_at old.flights d e) item (Some u)) row.lanes row.lane)
          ∙ get_put (line_at old.flights d e) item (Some t) (Some u) row.there

      kept : (y : KeptTransfer) × (slice_get b.line item ≡ Some y) × IsItem (Some h) e (Some u) y
      kept = kept_of (Some h) e (line_at (amid count u).flights d e) b.line item (Some u) (end_at setup (amid count u) c h d e at).line in_line

      y : KeptTransfer
      y = kept.0

      flight : IsFlight (Some h) e u y
      flight = kept.2

      one : record u { bytes = last.bytes } ≡ last
      one = ap (λ (x : InFlight P). record x { bytes = last.bytes }) is.rest ∙ sym row.behind.rest

      flies : IsFlight (Some h) e last y
      flies = subst (λ (x : InFlight P). IsFlight (Some h) e x y) one
          (record {
            live = flight.live;
            number = flight.number;
            asks_for = flight.asks_for;
            again = flight.again;
            asked = flight.asked;
            told = flight.told;
            read = row.behind.items ∙ sym is.items ∙ flight.read;
            room = omega (arith, flight.room, more);
            at = flight.at;
            whose = flight.whose;
          })

      same : with_kept d e (record b { line = slice_set b.line item y }) c ≡ c
      same =
          ap (λ (l : List KeptTransfer). with_kept d e (record b { line = l }) c) (set_same b.line item y kept.1)
          ∙ core_as (with_kept d e b c) c (record {
            names = λ g. refl;
            claims = λ dev i. refl;
            gone = λ dev. refl;
            endpoints = λ dev ep. own_end c.endpoints d e dev ep;
            orders = refl;
            events = refl;
            posted = refl;
            results = refl;
          })

  -- the packets that are left
  rows : (left i : ℕ) (setup : Setup) (w : World) (c : Core) (row : IsRow) (u : InFlight P) → left + i ≡ count → IsAmid i u → u.bytes.capacity ≤ last.bytes.capacity → last.bytes.lent ≡ u.bytes.lent → IsAt setup (amid i u) c h d e → Shows setup w c → (InRow (c.endpoints d e).line (c.endpoints d e).end → IsNow (c.endpoints d e) item)
      → (replicate left (record { owner = Some h; reply = Moved n size }) ≡ core_entries setup c (replicate left (Serve d e))) × Keeps setup (amid count last) (core_behind setup c (replicate left (Serve d e)))
  unfolding core_entries core_behind step_core
  rows zero i setup w c row u all is more whose at shows now =
      let same : i ≡ count = omega (arith, all) in
      (refl, ends_row setup c row u (subst (λ (j : ℕ). IsAmid j u) same is) more (subst (λ (j : ℕ). IsAt setup (amid j u) c h d e) same at))
  rows (suc left) i setup w c row u all is more whose at shows now =
      let later = rows left (suc i) setup (turn setup w (Serve d e)).world (step_core setup c (Serve d e)).core row v (omega (arith, all)) next (omega arith) refl at_next (whole_steps setup at.keeps.fine w c shows (Serve d e)).1 now_next in
      (ap₂ (λ (x : Entry) (xs : List Entry). x ∷ xs) done.0 later.0, later.1)
    where
      before : i < count
      before = omega (arith, all)

      v : InFlight P
      v = record t { bytes = record { items = bytes_at (suc i); capacity = last.bytes.capacity; lent = last.bytes.lent } }

      next : IsAmid (suc i) v
      next = record { rest = refl; items = refl }

      works : (x : Context) × (first : TrbAt) × (context_in (amid i u).controller d e ≡ Some x) × (working x ≡ Some first)
      works = works_told (amid i u).controller d e (served.Moved size) (row.whole i before)

      it : IsAtWork setup (amid i u) c h d e item works.0 works.1
      it = at_now setup w (amid i u) c h d e item works.0 works.1 at shows works.2 works.3 now

      moved : ((packet_of setup c d e).reply ≡ reply_of n (served.Moved size)) × Keeps setup (amid (suc i) v) (behind_packet setup c d e)
      moved = step_amid setup w c row i u v is next more whose before works.0 works.1 works.2 works.3 at shows it

      done : Is setup (step_core setup c (Serve d e)) (record { owner = Some h; reply = Moved n size }) (amid (suc i) v)
      done = serves_moved setup (amid i u) (amid (suc i) v) c h d e n (served.Moved size) at moved

      core : (step_core setup c (Serve d e)).core ≡ behind_packet setup c d e
      core = core_served setup (amid i u) c h d e at

      at_next : IsAt setup (amid (suc i) v) (step_core setup c (Serve d e)).core h d e
      at_next = record { keeps = done.1; interface = at.interface; there = at.there; holds = ap (λ (x : Core). holder setup x.claims d e) core ∙ at.holds }

      end : (step_core setup c (Serve d e)).core.endpoints d e ≡ (packet_of setup c d e).endpoint
      end = ap (λ (x : Core). x.endpoints d e) core ∙ here c.endpoints d e (packet_of setup c d e).endpoint

      is_next : IsNext (packet_of setup c d e).endpoint (c.endpoints d e).dequeue item
      is_next = moved_next (packet_size_of setup d e) n size (c.gone d) works.0 (c.endpoints d e) it.y item it.ring.context (sym it.ring.context.runs ∙ working_runs works.0 works.1 works.3) it.found it.in_line it.live moved.0

      now_next : InRow ((step_core setup c (Serve d e)).core.endpoints d e).line ((step_core setup c (Serve d e)).core.endpoints d e).end → IsNow ((step_core setup c (Serve d e)).core.endpoints d e) item
      now_next = subst (λ (b : KeptEndpoint). InRow b.line b.end → IsNow b item) (sym end) (λ in_row. next_now (packet_of setup c d e).endpoint (c.endpoints d e).dequeue item in_row is_next)

-- whole packets in a row are the core's
pub skims : {P : Type 0} → SkimsPackets P
unfolding controller_skimmed
skims {P} old k f h d e item count n size held front number whole is_k is_f setup w c keeps shows =
    (made.0, subst (λ (s : State P). Keeps setup s (core_behind setup c (replicate count (Serve d e)))) end made.1)
  where
    known : (x : Context) × (first : TrbAt) × (context_in old.controller d e ≡ Some x) × (working x ≡ Some first)
    known = front.known item refl

    at : IsAt setup old c h d e
    at = is_at setup old c h d e keeps held

    it : IsAtWork setup old c h d e item known.0 known.1
    it = at_work setup w old c h d e item known.0 known.1 at shows known.2 known.3 front

    t : InFlight P
    t = it.is.t

    skim : Skims old.flights f old.controller d e item count t
    skim = is_f t it.is.found

    row : IsRow old h d e item n size count t skim.skimmed
    row = record {
      there = it.is.there;
      lanes = at.keeps.lanes;
      lane = has_lane setup d e at.interface at.keeps.few at.there;
      number = number t it.is.found;
      whole = whole t it.is.found;
      behind = record { rest = skim.behind.rest; items = skim.behind.items };
    }

    start : old ≡ amid old h d e item n size count t skim.skimmed 0 t
    start = ap (λ (v : TransfersInFlight (InFlight P)). record old { flights = v }) (sym (put_read old.flights d e item (Some t) it.is.found))

    end : amid old h d e item n size count t skim.skimmed count skim.skimmed ≡ record old { controller = k; flights = f }
    end = ap₂ (λ (v : Controller) (x : TransfersInFlight (InFlight P)). record old { controller = v; flights = x }) (sym (is_k t it.is.found)) (sym skim.put)

    all : count + 0 ≡ count
    all = omega arith

    made : (replicate count (record { owner = Some h; reply = Moved n size }) ≡ core_entries setup c (replicate count (Serve d e))) × Keeps setup (amid old h d e item n size count t skim.skimmed count skim.skimmed) (core_behind setup c (replicate count (Serve d e)))
    made = rows old h d e item n size count t skim.skimmed count 0 setup w c row t all (record { rest = refl; items = sym (skimmed_none old.controller d e t.request.body t.bytes.items) }) skim.behind.room skim.behind.lent
        (subst (λ (s : State P). IsAt setup s c h d e) start at) shows (λ in_row. record { y = it.y; found = it.found; in_line = it.in_line })
