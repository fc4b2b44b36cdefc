-- A packet of the item where the controller works.
use Rattle.std.proofs.Common.{◌≡◌, ℕ, refl, ap, ap₂, sym, subst, ◌∙◌, arith, List, [], ◌∷◌, ◌++◌, length, map, Option, Some, None, true, false, Bool}
use Rattle.std.specs.Prelude.{slice_get, slice_set, is_some, not, ◌&&◌, option_map, if◌then◌else◌}
use Rattle.std.specs.Option.{option_and_then, option_map_or}
use Rattle.std.proofs.lemmas.Option.{same_Some}
use Rattle.usb_model.specs.declared.endpoint.EndpointState.{EndpointState}
use Rattle.usb_model.specs.declared.endpoint.EndpointState.TheVariants.{Halted, Running}
use Rattle.usb_model.specs.declared.request.Body.{Body}
use Rattle.usb_model.specs.declared.request.Body.TheVariants.{In, Out}
use Rattle.usb_model.specs.declared.request.Request.{Request}
use Rattle.usb_model.specs.Setup.{Setup, packet_size_of}
use Rattle.usb_model.specs.World.{Claims, World, holder}
use Rattle.usb_model.specs.World.Shared.{pieces_of}
use Rattle.usb_model.specs.Endpoint.Status.{halts}
use Rattle.usb_model.specs.Kept.{KeptEndpoint, KeptTransfer, SentErrand, first_place}
use Rattle.usb_model.specs.Events.{find_at, past_at, past_kept_blanks}
use Rattle.usb_model.specs.Packets.{Answered, Packet, answer_now, answered_by, answered_gone, endpoint_with, gave, got, packet_now, put_at, sent_before, serve_at, serve_kept}
use Rattle.usb_tables.specs.declared.transfer.Transfer.{Transfer as InFlight}
use Rattle.usb_xhc.specs.declared.packet.PacketResult.{PacketResult as ServedPacket}
use Rattle.usb_xhc.specs.declared.trb_at.TrbAt.{TrbAt}
use Rattle.usb_xhc.specs.Context.{Context}
use Rattle.usb_xhc.specs.Transaction.{packet_room, working}
use Rattle.usb_xhc.specs.Controller.{Controller, served_at, told_at}
use Rattle.usb_device.specs.Pipe.{answer_of, bytes_after, pipe_at}
use Rattle.usb_xhc.specs.Slots.{DeviceSlot, context_of, read_after}
use Rattle.usb_tables.specs.TransfersInFlight.{TransfersInFlight, item_at, keys_at, line_at, with_line}
use Rattle.refine_core.specs.Packets.{IsServed, Serves, bytes_for}
use Rattle.refine_core.specs.Packets as flight
use Rattle.refine_rings.specs.Reports.{reply_of}
use Rattle.refine_world.specs.Shows.{Core, Shows}
use Rattle.refine_world.proofs.RunningEndpoints.{fresh_while_running}
use Rattle.refine_rings.specs.Holds.{HoldsCore}
use Rattle.refine_rings.specs.Laws.{ServesEnd, out_of}
use Rattle.refine_rings.specs.Laws as slots
use Rattle.refine_rings.proofs.Ends.{here}
use Rattle.refine_rings.proofs.Lookups.{set_same}
use Rattle.refine_rings.proofs.SlotServes.{serves}
use Rattle.refine_core.specs.State.{AllItems, IsFlight, Keeps, KeepsEnd, State, in_ring, result_of}
use Rattle.refine_core.specs.Works.{IsAt, MovesPacket, behind_packet, context_in, packet_of}
use Rattle.refine_core.proofs.Buffers.{buffers_line, set_named}
use Rattle.refine_core.proofs.Changed.{keeps_with, name_still}
use Rattle.refine_core.proofs.Items.{found_at}
use Rattle.refine_core.proofs.Fronts.{IsAtWork, at_work, working_runs}
use Rattle.refine_core.proofs.EndpointQueues.{with_other}
use Rattle.refine_core.proofs.Lines.{set_item}
use Rattle.refine_core.proofs.Ringed.{rings_as, rings_served}
use Rattle.refine_core.proofs.Transfers.{but_line, end_at, line_is}

-- what a packet leaves of an endpoint's line and errand: the bytes that came join those of the transfer; none come of a gone device
record IsLineBehind (size : ℕ) (gone : Bool) (b : KeptEndpoint) (y : KeptTransfer) (item : ℕ) : Type 0 where
  pub bytes : List ℕ
  pub line : (serve_kept size gone b).endpoint.line ≡ slice_set b.line item (record y { bytes = bytes })
  pub errand : (serve_kept size gone b).endpoint.errand ≡ b.errand
  pub came : gone ≡ false → bytes ≡ y.bytes ++ got y.request.body (answer_now b) (packet_now size b y).bytes
  pub none : gone ≡ true → bytes ≡ y.bytes

-- of a device that is there
line_behind : (size : ℕ) (b : KeptEndpoint) (y : KeptTransfer) (item : ℕ) → serve_kept size false b ≡ answered_by b y (packet_now size b y) (packet_now size b y).code
    → ((z : KeptTransfer) → put_at b.dequeue z b.line ≡ slice_set b.line item z) → IsLineBehind size false b y item
unfolding answered_by
line_behind size b y item is put = by_code (packet_now size b y).code is
  where
    k : Packet
    k = packet_now size b y

    z : KeptTransfer
    z = record y { bytes = y.bytes ++ got y.request.body (answer_now b) k.bytes }

    by_halt : (h : Bool) → ((if h then put_at b.dequeue z b.line else put_at b.dequeue z b.line) ≡ put_at b.dequeue z b.line)
    by_halt true = refl
    by_halt false = refl

    by_code : (o : Option ℕ) → serve_kept size false b ≡ answered_by b y k o → IsLineBehind size false b y item
    by_code None same = record {
      bytes = z.bytes;
      line = ap (λ (a : Answered). a.endpoint.line) same ∙ put z;
      errand = ap (λ (a : Answered). a.endpoint.errand) same;
      came = λ up. refl;
      none = λ up. absurd cc;
    }
    by_code (Some code) same = record {
      bytes = z.bytes;
      line = ap (λ (a : Answered). a.endpoint.line) same ∙ at_end code ∙ put z;
      errand = ap (λ (a : Answered). a.endpoint.errand) same ∙ same_errand code;
      came = λ up. refl;
      none = λ up. absurd cc;
    }
      where
        at_end : (code : ℕ) → (answered_by b y k (Some code)).endpoint.line ≡ put_at b.dequeue z b.line
        at_end code = by_test (halts code)
          where
            by_test : (t : Bool) → (if t then record (endpoint_with b y k (gave y.request.body (answer_now b) (sent_before b y) k.bytes)) { state = Halted } else record (endpoint_with b y k (gave y.request.body (answer_now b) (sent_before b y) k.bytes)) { dequeue = first_place (past_kept_blanks (past_at b.dequeue b.line)) b.end; within = 0 }).line ≡ put_at b.dequeue z b.line
            by_test true = refl
            by_test false = refl

        same_errand : (code : ℕ) → (answered_by b y k (Some code)).endpoint.errand ≡ b.errand
        same_errand code = by_test (halts code)
          where
            by_test : (t : Bool) → (if t then record (endpoint_with b y k (gave y.request.body (answer_now b) (sent_before b y) k.bytes)) { state = Halted } else record (endpoint_with b y k (gave y.request.body (answer_now b) (sent_before b y) k.bytes)) { dequeue = first_place (past_kept_blanks (past_at b.dequeue b.line)) b.end; within = 0 }).errand ≡ b.errand
            by_test true = refl
            by_test false = refl

-- in any case
behind : (size : ℕ) (gone : Bool) (b : KeptEndpoint) (y : KeptTransfer) (item : ℕ) → b.state ≡ Running → find_at b.dequeue b.line ≡ Some y → slice_get b.line item ≡ Some y
    → ((z : KeptTransfer) → put_at b.dequeue z b.line ≡ slice_set b.line item z) → IsLineBehind size gone b y item
unfolding serve_kept serve_at answered_gone
behind size true b y item runs found there put =
    let same : serve_kept size true b ≡ answered_gone b y = ap₂ (λ (s : EndpointState) (o : Option KeptTransfer). serve_at size true b s o) runs found in
    record {
      bytes = y.bytes;
      line = ap (λ (a : Answered). a.endpoint.line) same ∙ sym (set_same b.line item y there);
      errand = ap (λ (a : Answered). a.endpoint.errand) same;
      came = λ up. absurd cc;
      none = λ up. refl;
    }
behind size false b y item runs found there put = line_behind size b y item (ap₂ (λ (s : EndpointState) (o : Option KeptTransfer). serve_at size false b s o) runs found) put

-- what is sent, as both say it
same_out : (k : Controller) (d e : ℕ) (body : Body) → served_at k d e (flight.out_of e body) ≡ served_at k d e (out_of e body)
same_out k d e (In n) = refl
same_out k d e (Out bytes) = refl

module _ {P : Type 0} where
  -- a packet of the item that is at work in a core is this core's
  pub moves_at : (old : State P) (k : Controller) (f : TransfersInFlight (InFlight P)) (h d e item n : ℕ) (told : ServedPacket) → (x : Context) → (first : TrbAt) → context_in old.controller d e ≡ Some x → working x ≡ Some first
      → Some told ≡ told_at old.controller d e → ((t : InFlight P) → item_at old.flights d e item ≡ Some t → t.n ≡ n)
      → ((t : InFlight P) → item_at old.flights d e item ≡ Some t → k ≡ served_at old.controller d e (flight.out_of e t.request.body))
      → ((t : InFlight P) → item_at old.flights d e item ≡ Some t → Serves old.flights f old.controller d e item t)
      → f.ended ≡ old.flights.ended
      → (setup : Setup) (w : World) (c : Core) → IsAt setup old c h d e → Shows setup w c → IsAtWork setup old c h d e item x first
      → ((packet_of setup c d e).reply ≡ reply_of n told) × Keeps setup (record old { controller = k; flights = f }) (behind_packet setup c d e)
  moves_at old k f h d e item n told x first there work is_told number is_k is_f ended setup w c at shows it = (
    reply,
    keeps_with setup old new c after h d e at
        (but_line old new d e line at.keeps.lanes (ap (λ (v : TransfersInFlight (InFlight P)). length v.keys) served.put ∙ at.keeps.keyed) at.keeps.cells refl refl lines)
        (record {
          same = refl;
          others = λ dev ep other. with_other c.endpoints d e a.endpoint dev ep other;
          mine = subst (λ (v : KeptEndpoint). KeepsEnd new (Some h) d e v) (sym (here c.endpoints d e a.endpoint))
              (record {
                line = subst (λ (l : List (Option (InFlight P))). AllItems (Some h) e l a.endpoint.line) (sym (line_is setup old new c h d e line at lines))
                    (subst (λ (ys : List KeptTransfer). AllItems (Some h) e line ys) (sym left.line) (set_item (Some h) e (line_at old.flights d e) b.line item (Some served.served) (record it.y { bytes = left.bytes }) end.line flies));
                errand = end.errand ∙ ap (λ (v : Option SentErrand). option_map in_ring v) (sym left.errand);
              });
          buffers = buffers_line old new d e line lines (line_is setup old new c h d e line at lines) (ap (λ (v : TransfersInFlight (InFlight P)). v.keys) served.put)
              (rings_as old.controller (served_at old.controller d e (flight.out_of e t.request.body)) k (rings_served old.controller d e (flight.out_of e t.request.body)) (is_k t it.is.found))
              (λ size kss all. set_named size (keys_at old.flights.keys d e) (line_at old.flights d e) kss item t served.served all it.is.there (ap (λ (v : InFlight P). v.request) served.behind.rest)) at.keeps.buffers;
          held = subst (λ (v : Controller). HoldsCore setup v after) (sym kept_k) packet.holds;
          named = λ g. name_still old new g (c.names g) (pieces_of g c.results) refl refl (at.keeps.named g);
          ended = at.keeps.ended ∙ ap (map result_of) (sym ended);
          ended_plain = at.keeps.ended_plain;
        }),
  )
    where
      new : State P
      new = record old { controller = k; flights = f }

      b : KeptEndpoint
      b = c.endpoints d e

      size : ℕ
      size = packet_size_of setup d e

      a : Answered
      a = packet_of setup c d e

      after : Core
      after = behind_packet setup c d e

      t : InFlight P
      t = it.is.t

      end : KeepsEnd old (Some h) d e b
      end = end_at setup old c h d e at

      runs : b.state ≡ Running
      runs = sym it.ring.context.runs ∙ working_runs x first work

      holds : holder setup w.claims d e ≡ Some h
      holds = ap (λ (g : Claims). holder setup g d e) (sym shows.claims) ∙ at.holds

      packet : ServesEnd setup old.controller c.gone c.endpoints c.orders c.events c.posted d e told a
      packet = subst (λ (o : Option ServedPacket). slots.Serves setup old.controller c.gone c.endpoints c.orders c.events c.posted d e o a) (sym is_told)
          (serves setup old.controller c.gone c.endpoints c.orders c.events c.posted d e at.interface at.keeps.plain at.keeps.held at.there (fresh_while_running setup w c shows at.keeps.fine h d e holds))

      one : packet.y ≡ it.y
      one = same_Some packet.y it.y (sym packet.found ∙ it.found)

      reply : a.reply ≡ reply_of n told
      reply = packet.reply ∙ ap (λ (m : ℕ). reply_of m told) (ap (λ (v : KeptTransfer). v.n) one ∙ sym it.is.same.number ∙ number t it.is.found)

      kept_k : k ≡ served_at old.controller d e (out_of e packet.y.request.body)
      kept_k = is_k t it.is.found ∙ same_out old.controller d e t.request.body ∙ ap (λ (r : Request). served_at old.controller d e (out_of e r.body)) (it.is.same.asks_for ∙ ap (λ (v : KeptTransfer). v.request) (sym one))

      left : IsLineBehind size (c.gone d) b it.y item
      left = behind size (c.gone d) b it.y item runs it.found it.in_line (found_at x b b.dequeue item it.y it.ring.context it.found it.in_line).put

      served : Serves old.flights f old.controller d e item t
      served = is_f t it.is.found

      line : List (Option (InFlight P))
      line = slice_set (line_at old.flights d e) item (Some served.served)

      lines : f.lines ≡ (with_line old.flights d e line).lines
      lines = ap (λ (v : TransfersInFlight (InFlight P)). v.lines) served.put

      slot_gone : it.slot.gone ≡ c.gone d
      slot_gone = (at.keeps.held.each d it.slot it.there).is_gone

      -- of a gone device nothing is read
      silent : c.gone d ≡ true → (bytes : List ℕ) → read_after it.slot e bytes ≡ bytes
      silent gone bytes = ap (λ (v : Bool). if (not v && is_some (option_and_then working (context_of it.slot e))) then bytes_after (answer_of (pipe_at it.slot.pipes e)) (option_map_or (λ z. packet_room z) (context_of it.slot e) 0) bytes else bytes) (slot_gone ∙ gone)

      by_body : (body : Body) (v : Bool) → t.request.body ≡ body → c.gone d ≡ v → bytes_for old.controller d e body t.bytes.items ≡ left.bytes
      by_body (Out sent) true out gone = it.is.same.read ∙ sym (left.none gone)
      by_body (Out sent) false out gone =
          let there_out : it.y.request.body ≡ Out sent = ap (λ (r : Request). r.body) (sym it.is.same.asks_for) ∙ out in
          it.is.same.read ∙ sym (left.came gone ∙ ap (λ (v : Body). it.y.bytes ++ got v (answer_now b) (packet_now size b it.y).bytes) there_out ∙ no_more it.y.bytes)
        where
          no_more : (bytes : List ℕ) → bytes ++ [] ≡ bytes
          no_more [] = refl
          no_more (z ∷ zs) = ap (λ ws. z ∷ ws) (no_more zs)
      by_body (In m) true in_ gone = ap (λ (o : Option DeviceSlot). option_map_or (λ v. read_after v e t.bytes.items) o t.bytes.items) it.there ∙ silent gone t.bytes.items ∙ it.is.same.read ∙ sym (left.none gone)
      by_body (In m) false in_ gone =
          let there_in : packet.y.request.body ≡ In m = ap (λ (r : Request). r.body) (ap (λ (v : KeptTransfer). v.request) one ∙ sym it.is.same.asks_for) ∙ in_ in
          ap (λ (o : Option DeviceSlot). option_map_or (λ v. read_after v e t.bytes.items) o t.bytes.items) it.there
          ∙ ap (read_after it.slot e) (it.is.same.read ∙ ap (λ (v : KeptTransfer). v.bytes) (sym one))
          ∙ packet.bytes m it.slot it.there there_in gone
          ∙ ap (λ (v : KeptTransfer). v.bytes ++ got v.request.body (answer_now b) (packet_now size b v).bytes) one
          ∙ sym (left.came gone)

      flies : IsFlight (Some h) e served.served (record it.y { bytes = left.bytes })
      flies = subst (λ (v : InFlight P). IsFlight (Some h) e v (record it.y { bytes = left.bytes })) (sym served.behind.rest)
          (record {
            live = it.live;
            number = it.is.same.number;
            asks_for = it.is.same.asks_for;
            again = it.is.same.again;
            asked = it.is.same.asked;
            told = it.is.same.told;
            read = served.behind.items ∙ by_body t.request.body (c.gone d) refl refl;
            room = omega (arith, it.is.same.room, served.behind.room);
            at = it.is.same.at;
            whose = it.is.same.whose;
          })

  -- a packet of an item is the core's
  pub moves : (old : State P) (k : Controller) (f : TransfersInFlight (InFlight P)) (h d e item n : ℕ) (told : ServedPacket) → (x : Context) → (first : TrbAt) → context_in old.controller d e ≡ Some x → working x ≡ Some first
      → Some told ≡ told_at old.controller d e → ((t : InFlight P) → item_at old.flights d e item ≡ Some t → t.n ≡ n)
      → ((t : InFlight P) → item_at old.flights d e item ≡ Some t → k ≡ served_at old.controller d e (flight.out_of e t.request.body))
      → ((t : InFlight P) → item_at old.flights d e item ≡ Some t → Serves old.flights f old.controller d e item t)
      → f.ended ≡ old.flights.ended
      → MovesPacket old (record old { controller = k; flights = f }) h d e item n told
  moves old k f h d e item n told x first there work is_told number is_k is_f ended setup w c at shows front =
      moves_at old k f h d e item n told x first there work is_told number is_k is_f ended setup w c at shows (at_work setup w old c h d e item x first at shows there work front)
