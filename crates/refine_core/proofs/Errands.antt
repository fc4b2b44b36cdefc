-- An errand is ordered, or the endpoint goes on.
use Rattle.std.proofs.Common.{◌≡◌, ℕ, suc, ◌-◌, ◌%◌, ◌<◌, ◌≤◌, refl, ap, ap₂, sym, subst, ◌∙◌, arith, List, [], ◌∷◌, ◌++◌, length, Bool, Option, Some, None}
use Rattle.std.specs.Prelude.{slice_get, slice_set, is_none}
use Rattle.std.proofs.lemmas.List.Sums.{prefix_len-le-length}
use Rattle.std.specs.Option.{option_and_then, option_map}
use Rattle.usb_model.specs.declared.endpoint.EndpointState.TheVariants.{Halted, Running}
use Rattle.usb_model.specs.declared.errand.Errand.{Errand}
use Rattle.usb_model.specs.declared.errand.Errand.TheVariants as errand
use Rattle.usb_model.specs.Setup.{Setup, endpoint_id}
use Rattle.usb_model.specs.World.{holder}
use Rattle.usb_model.specs.World.Shared.{pieces_of}
use Rattle.usb_trb.specs.declared.kind.TrbKind.TheVariants.{ResetEndpoint, SetDequeue, StopEndpoint}
use Rattle.usb_device.specs.Pipe.{pipe_at}
use Rattle.usb_rings.specs.Places.{address_of, cycle_of, index_of}
use Rattle.usb_rings.specs.Line.{place_of, places}
use Rattle.usb_model.specs.Kept.{KeptEndpoint, KeptTransfer, SentErrand, first_place}
use Rattle.refine_rings.specs.EndpointLaws.{start_of}
use Rattle.usb_tables.specs.declared.transfer.Transfer.{Transfer as InFlight}
use Rattle.usb_tables.specs.declared.outstanding.Sent.{Sent}
use Rattle.usb_tables.specs.Outstanding.{sent_at}
use Rattle.usb_xhc.specs.Context.{Context}
use Rattle.usb_xhc.specs.Host.{rung}
use Rattle.usb_xhc.specs.Posts.{posted_one}
use Rattle.usb_xhc.specs.Controller.{Controller, slot_changed}
use Rattle.usb_xhc.specs.Slots.{DeviceSlot, changed, context_of}
use Rattle.usb_tables.specs.ByEndpoint.{lane_at}
use Rattle.usb_tables.specs.TransfersInFlight.{line_at}
use Rattle.refine_rings.proofs.Where.{address, cycle}
use Rattle.refine_world.specs.Shows.{Core, order_at}
use Rattle.refine_rings.specs.Holds.{HasRing, Holds, HoldsCore, IsPosted, ring_at, with_end}
use Rattle.refine_rings.proofs.Ends.{here}
use Rattle.refine_rings.proofs.Events.{posts as post}
use Rattle.refine_rings.proofs.Renews.{hosts}
use Rattle.refine_core.specs.State.{AllItems, KeepsEnd, State, in_ring}
use Rattle.refine_core.specs.Works.{IsAt, Posts, Resumes, context_in, leading, order_by, with_kept}
use Rattle.refine_core.proofs.Buffers.{buffers_same}
use Rattle.refine_core.proofs.Changed.{keeps_with, name_still}
use Rattle.refine_core.proofs.EndpointQueues.{has_lane, same_trbs, sent_here, sent_other, with_other}
use Rattle.refine_core.proofs.Lines.{as_many, past_blanks, set_length}
use Rattle.refine_core.proofs.Ringed.{rings_as, rings_changed, same_changed}
use Rattle.refine_core.proofs.Rings.{ring_of}
use Rattle.refine_core.proofs.Same.{holds_as, put_same, put_twice}

module _ {P : Type 0} where
  -- the order of an errand is the one of the endpoint that is kept
  pub order_is : (setup : Setup) (s : State P) (c : Core) (h d e : ℕ) (x : Context) (o : Errand) → IsAt setup s c h d e → context_in s.controller d e ≡ Some x → IsPosted (c.endpoints d e) d e o (order_by x (leading s d e) o)
  order_is setup s c h d e x o at there = by_errand o
    where
      b : KeptEndpoint
      b = c.endpoints d e

      blanks : ℕ
      blanks = leading s d e

      found : (v : DeviceSlot) × (slice_get s.controller.slots d ≡ Some v) × (context_of v e ≡ Some x) × HasRing setup d e (pipe_at v.pipes e) b x
      found = ring_of setup s.controller c d e at.interface x at.keeps.held at.there there

      is : HasRing setup d e (pipe_at found.0.pipes e) b x
      is = found.3

      end : KeepsEnd s (holder setup c.claims d e) d e b
      end = at.keeps.ends d e at.interface at.there

      few : blanks ≤ length b.line
      few =
          let all : length (line_at s.flights d e) ≡ length b.line = as_many (holder setup c.claims d e) e (line_at s.flights d e) b.line end.line in
          let within : blanks ≤ length (line_at s.flights d e) = prefix_len-le-length is_none (line_at s.flights d e) in
          omega (arith, all, within)

      goes_to : address_of places x.ring.line.base (place_of x.ring.line blanks) ≡ address_of places (ring_at d e) (start_of b)
      goes_to = address x b blanks is.context few
          ∙ ap₂ (λ (base : ℕ) (ys : List KeptTransfer). address_of places base (first_place ys b.end)) is.base (sym (past_blanks (holder setup c.claims d e) e (line_at s.flights d e) b.line end.line))

      turns_to : cycle_of places (place_of x.ring.line blanks) ≡ cycle_of places (start_of b)
      turns_to = cycle x b blanks is.context few
          ∙ ap (λ (ys : List KeptTransfer). cycle_of places (first_place ys b.end)) (sym (past_blanks (holder setup c.claims d e) e (line_at s.flights d e) b.line end.line))

      by_errand : (o : Errand) → IsPosted b d e o (order_by x blanks o)
      by_errand errand.Stop = ap₂ StopEndpoint is.slot is.id
      by_errand errand.Reset = ap₂ ResetEndpoint is.slot is.id
      by_errand errand.Move =
          ap₂ (λ (slot id : ℕ). SetDequeue (address_of places x.ring.line.base (place_of x.ring.line blanks)) (cycle_of places (place_of x.ring.line blanks)) slot id) is.slot is.id
          ∙ ap₂ (λ (a : ℕ) (t : Bool). SetDequeue a t (suc d) (endpoint_id e)) goes_to turns_to

  -- an endpoint as it was, with another errand
  with_errand : (s t : State P) (name : Option ℕ) (d e : ℕ) (b : KeptEndpoint) (sent : Option SentErrand) → line_at t.flights d e ≡ line_at s.flights d e → sent_at t.outstanding d e ≡ option_map in_ring sent
      → KeepsEnd s name d e b → KeepsEnd t name d e (record b { errand = sent })
  with_errand s t name d e b sent line is end = record { line = subst (λ (l : List (Option (InFlight P))). AllItems name e l b.line) (sym line) end.line; errand = is }

  -- an errand is ordered
  pub posts : (old : State P) (k : Controller) (o : List (Option Sent)) (h d e : ℕ) (x : Context) (errand : Errand) (index : ℕ) → context_in old.controller d e ≡ Some x
      → k ≡ record old.controller { commands = posted_one 255 old.controller.commands (order_by x (leading old d e) errand) } → index ≡ index_of 255 old.controller.commands.posted
      → o ≡ slice_set old.outstanding (lane_at d e) (Some (record { errand = errand; index = index }))
      → Posts old (record old { controller = k; outstanding = o }) h d e errand
  posts old k o h d e x errand index there is_k is_index is_o setup c at = keeps_with setup old new c after h d e at
      (record {
        claims = refl;
        lanes = at.keeps.lanes;
        keyed = at.keeps.keyed;
        cells = ap length is_o ∙ set_length old.outstanding (lane_at d e) sent ∙ at.keeps.cells;
        lines = λ dev ep other. refl;
        sent = λ dev ep other. ap (λ (v : List (Option Sent)). sent_at v dev ep) is_o ∙ sent_other old.outstanding d e dev ep sent other;
      })
      (record {
        same = refl;
        others = λ dev ep other. with_other c.endpoints d e b dev ep other;
        mine = subst (λ (y : KeptEndpoint). KeepsEnd new (Some h) d e y) (sym (here c.endpoints d e b))
            (with_errand old new (Some h) d e (c.endpoints d e) (Some ordered) refl is_sent end);
        buffers = buffers_same old new refl refl (rings_as old.controller waiting k (λ dev id. refl) is_k) at.keeps.buffers;
        held = subst (λ (v : Controller). HoldsCore setup v after) (sym is_k) held;
        named = λ g. name_still old new g (c.names g) (pieces_of g c.results) refl refl (at.keeps.named g);
        ended = at.keeps.ended;
        ended_plain = at.keeps.ended_plain;
      })
    where
      new : State P
      new = record old { controller = k; outstanding = o }

      ordered : SentErrand
      ordered = record { errand = errand; index = c.posted }

      b : KeptEndpoint
      b = record (c.endpoints d e) { errand = Some ordered }

      after : Core
      after = record (with_kept d e b c) { orders = c.orders ++ order_at d e ordered ∷ []; posted = suc c.posted }

      sent : Option Sent
      sent = Some (record { errand = errand; index = index })

      lane : lane_at d e < 128
      lane = has_lane setup d e at.interface at.keeps.few at.there

      waiting : Controller
      waiting = record old.controller { commands = posted_one 255 old.controller.commands (order_by x (leading old d e) errand) }

      posted : (index_of 255 old.controller.commands.posted ≡ c.posted % 255) × Holds setup waiting c.gone c.endpoints (c.orders ++ order_at d e ordered ∷ []) c.events (suc c.posted)
      posted = post setup old.controller c.gone c.endpoints c.orders c.events c.posted d e errand (order_by x (leading old d e) errand) at.keeps.held (order_is setup old c h d e x errand at there)

      is_sent : sent_at o d e ≡ option_map in_ring (Some ordered)
      is_sent = ap (λ (v : List (Option Sent)). sent_at v d e) is_o ∙ sent_here old.outstanding d e sent at.keeps.cells lane
          ∙ ap (λ (n : ℕ). Some (record { errand = errand; index = n })) (is_index ∙ posted.0)

      end : KeepsEnd old (Some h) d e (c.endpoints d e)
      end = subst (λ (name : Option ℕ). KeepsEnd old name d e (c.endpoints d e)) at.holds (at.keeps.ends d e at.interface at.there)

      no_ring : (s : DeviceSlot) → slice_get waiting.slots d ≡ Some s → context_of s e ≡ None → b.errand ≡ None
      no_ring s in_slots none =
          let both : None ≡ Some x = sym none ∙ sym (ap (λ (o : Option DeviceSlot). option_and_then (λ v. context_of v e) o) in_slots) ∙ there in
          absurd cc

      held : HoldsCore setup waiting after
      held = (hosts setup waiting c.gone c.endpoints (c.orders ++ order_at d e ordered ∷ []) c.events (suc c.posted) d e at.interface at.keeps.plain posted.1 at.there).keeps b
          (same_trbs (c.endpoints d e).line) refl refl refl refl refl refl refl no_ring

  -- no errand is outstanding, and the doorbell is rung
  pub resumes : (old : State P) (k : Controller) (o : List (Option Sent)) (h d e : ℕ) (x : Context) → context_in old.controller d e ≡ Some x
      → k ≡ slot_changed old.controller (x.slot - 1) (λ s. changed s x.id rung) → o ≡ slice_set old.outstanding (lane_at d e) None
      → Resumes old (record old { controller = k; outstanding = o }) h d e
  resumes old k o h d e x there is_k is_o setup c at unhalted = keeps_with setup old new c after h d e at
      (record {
        claims = refl;
        lanes = at.keeps.lanes;
        keyed = at.keeps.keyed;
        cells = ap length is_o ∙ set_length old.outstanding (lane_at d e) None ∙ at.keeps.cells;
        lines = λ dev ep other. refl;
        sent = λ dev ep other. ap (λ (v : List (Option Sent)). sent_at v dev ep) is_o ∙ sent_other old.outstanding d e dev ep None other;
      })
      (record {
        same = refl;
        others = λ dev ep other. with_other c.endpoints d e b dev ep other;
        mine = subst (λ (y : KeptEndpoint). KeepsEnd new (Some h) d e y) (sym (here c.endpoints d e b))
            (record { line = end.line; errand = ap (λ (v : List (Option Sent)). sent_at v d e) is_o ∙ sent_here old.outstanding d e None at.keeps.cells lane });
        buffers = buffers_same old new refl refl (rings_as old.controller (slot_changed old.controller (x.slot - 1) (λ s. changed s x.id rung)) k (rings_changed old.controller (x.slot - 1) (λ s. changed s x.id rung) (λ s in_slots. same_changed s x.id rung (λ y is. refl))) is_k) at.keeps.buffers;
        held = subst (λ (v : Controller). HoldsCore setup v after) (sym (is_k ∙ rung_here)) held;
        named = λ g. name_still old new g (c.names g) (pieces_of g c.results) refl refl (at.keeps.named g);
        ended = at.keeps.ended;
        ended_plain = at.keeps.ended_plain;
      })
    where
      new : State P
      new = record old { controller = k; outstanding = o }

      b : KeptEndpoint
      b = record (c.endpoints d e) { errand = None; state = Running }

      after : Core
      after = with_kept d e b c

      lane : lane_at d e < 128
      lane = has_lane setup d e at.interface at.keeps.few at.there

      end : KeepsEnd old (Some h) d e (c.endpoints d e)
      end = subst (λ (name : Option ℕ). KeepsEnd old name d e (c.endpoints d e)) at.holds (at.keeps.ends d e at.interface at.there)

      ring : HasRing setup d e (pipe_at (ring_of setup old.controller c d e at.interface x at.keeps.held at.there there).0.pipes e) (c.endpoints d e) x
      ring = (ring_of setup old.controller c d e at.interface x at.keeps.held at.there there).3

      rings : Controller
      rings = slot_changed old.controller (suc d - 1) (λ s. changed s (endpoint_id e) rung)

      rung_here : slot_changed old.controller (x.slot - 1) (λ s. changed s x.id rung) ≡ rings
      rung_here = ap₂ (λ (slot id : ℕ). slot_changed old.controller (slot - 1) (λ s. changed s id rung)) ring.slot ring.id

      running : ℕ → ℕ → KeptEndpoint
      running = with_end c.endpoints d e (record (c.endpoints d e) { errand = None })

      idle : Holds setup old.controller c.gone running c.orders c.events c.posted
      idle = (hosts setup old.controller c.gone c.endpoints c.orders c.events c.posted d e at.interface at.keeps.plain at.keeps.held at.there).keeps (record (c.endpoints d e) { errand = None })
          (same_trbs (c.endpoints d e).line) refl refl refl refl refl refl refl (λ s in_slots none. refl)

      is_there : running d e ≡ record (c.endpoints d e) { errand = None }
      is_there = here c.endpoints d e (record (c.endpoints d e) { errand = None })

      held : HoldsCore setup rings after
      held = holds_as setup rings c.gone c.gone (with_end running d e (record (running d e) { state = Running })) (with_end c.endpoints d e b) c.orders c.events c.posted (λ dev. refl)
          (λ dev ep. put_same running d e (record (running d e) { state = Running }) b (ap (λ (y : KeptEndpoint). record y { state = Running }) is_there) dev ep
          ∙ put_twice c.endpoints d e (record (c.endpoints d e) { errand = None }) b dev ep)
          ((hosts setup old.controller c.gone running c.orders c.events c.posted d e at.interface at.keeps.plain idle at.there).rings
          (λ (halted : (running d e).state ≡ Halted). unhalted (sym (ap (λ (y : KeptEndpoint). y.state) is_there) ∙ halted)))
