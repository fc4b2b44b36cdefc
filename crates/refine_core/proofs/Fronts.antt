-- The item where the controller works.
use Rattle.std.proofs.Common.{List, ◌≡◌, ℕ, ◌+◌, ◌-◌, ◌<◌, ◌≤◌, refl, ap, sym, subst, ◌∙◌, arith, length, Option, Some, None, false}
use Rattle.std.specs.Prelude.{slice_get, IfSome, is_some, if◌then◌else◌}
use Rattle.std.proofs.lemmas.Option.{same_Some}
use Rattle.usb_model.specs.declared.endpoint.EndpointState.{EndpointState}
use Rattle.usb_model.specs.declared.endpoint.EndpointState.TheVariants.{Halted, Running, Stopped}
use Rattle.usb_model.specs.declared.request.Body.{Body}
use Rattle.usb_model.specs.declared.request.Body.TheVariants.{In, Out}
use Rattle.usb_model.specs.Requests.{length_of}
use Rattle.usb_model.specs.Setup.{Setup}
use Rattle.usb_model.specs.declared.request.Request.{Request}
use Rattle.usb_model.specs.World.{Claims, World, holder}
use Rattle.usb_model.specs.Kept.{KeptEndpoint, KeptTransfer}
use Rattle.usb_model.specs.Events.{find_at}
use Rattle.usb_model.specs.Packets.{sent_before, serve_kept}
use Rattle.usb_device.specs.Pipe.{answer_of, pipe_at}
use Rattle.usb_tables.specs.declared.transfer.Transfer.{Transfer as InFlight}
use Rattle.usb_tables.specs.Tds.{room_of}
use Rattle.usb_rings.specs.Line.{IsAt as IsInRing, places}
use Rattle.usb_rings.specs.Places.{address_of}
use Rattle.usb_xhc.specs.declared.trb_at.TrbAt.{TrbAt}
use Rattle.usb_xhc.specs.Context.{Context}
use Rattle.usb_xhc.specs.Transaction.{is_running, offset_by, packet_room, trb_at, working}
use Rattle.usb_xhc.specs.Controller.{Controller}
use Rattle.usb_xhc.specs.Slots.{DeviceSlot, context_of}
use Rattle.usb_tables.specs.TransfersInFlight.{item_at}
use Rattle.refine_core.specs.Packets.{CanServe}
use Rattle.refine_rings.specs.EndpointLaws.{ServedAs, ServesAs, served_here}
use Rattle.refine_rings.proofs.Serves as match
use Rattle.refine_rings.proofs.Where as where_
use Rattle.refine_world.specs.Shows.{Core, Shows}
use Rattle.refine_world.proofs.RunningEndpoints.{fresh_while_running, reads_so_far}
use Rattle.refine_rings.specs.Holds.{HasRing, RingIs}
use Rattle.refine_core.specs.State.{State}
use Rattle.refine_core.specs.Works.{CanServeItem, IsAt, IsFront, context_in}
use Rattle.refine_core.proofs.Rings.{IsSlotOf, slot_of}
use Rattle.refine_core.proofs.Transfers.{IsLiveAt, live_at}

module _ {P : Type 0} where
  -- the transfer where the controller works, as it is kept and in flight
  pub record IsAtWork (setup : Setup) (s : State P) (c : Core) (h d e item : ℕ) (x : Context) (first : TrbAt) : Type 0 where
    pub slot : DeviceSlot
    pub there : slice_get s.controller.slots d ≡ Some slot
    pub context : context_of slot e ≡ Some x
    pub ring : HasRing setup d e (pipe_at slot.pipes e) (c.endpoints d e) x
    pub y : KeptTransfer
    pub found : find_at (c.endpoints d e).dequeue (c.endpoints d e).line ≡ Some y
    pub in_line : slice_get (c.endpoints d e).line item ≡ Some y
    pub live : y.blank ≡ false
    pub is : IsLiveAt s h d e item y
    pub room : sent_before (c.endpoints d e) y + packet_room x ≤ length_of y.request.body
    pub reaches : offset_by first.trb x.within + packet_room x ≤ length_of y.request.body

-- an endpoint where there is work is running
pub working_runs : (x : Context) (first : TrbAt) → working x ≡ Some first → x.state ≡ Running
working_runs x first work = by_state x.state work
  where
    by_state : (s : EndpointState) → (if is_running s then trb_at x 0 else None) ≡ Some first → s ≡ Running
    by_state Running there = refl
    by_state Stopped there = absurd cc
    by_state Halted there = absurd cc

-- what holds of the slot, the endpoint and the TRB where the controller works
pub has_here : (k : Controller) (d e : ℕ) (F : DeviceSlot → Context → TrbAt → Type 0) (s : DeviceSlot) (x : Context) (first : TrbAt) → slice_get k.slots d ≡ Some s → context_of s e ≡ Some x → working x ≡ Some first → F s x first
    → IfSome (slice_get k.slots d) (λ s. IfSome (context_of s e) (λ c. IfSome (working c) (λ f. F s c f)))
has_here k d e F s x first there context work is =
    subst (λ (o : Option DeviceSlot). IfSome o (λ s. IfSome (context_of s e) (λ c. IfSome (working c) (λ f. F s c f)))) (sym there)
    (subst (λ (o : Option Context). IfSome o (λ c. IfSome (working c) (λ f. F s c f))) (sym context)
    (subst (λ (o : Option TrbAt). IfSome o (λ f. F s x f)) (sym work) is))

module _ {P : Type 0} where
  -- where the controller works there is a transfer in progress
  pub works_at : (setup : Setup) (w : World) (s : State P) (c : Core) (h d e : ℕ) (x : Context) (first : TrbAt) → IsAt setup s c h d e → Shows setup w c → context_in s.controller d e ≡ Some x → working x ≡ Some first
      → (item : ℕ) × (j : ℕ) × IsInRing x.ring.line first.pointer item j × IsAtWork setup s c h d e item x first
  works_at setup w s c h d e x first at shows there work = (
    where_is.0,
    b.dequeue - packet.y.place,
    subst (λ (p : ℕ). IsInRing x.ring.line p where_is.0 (b.dequeue - packet.y.place)) (sym packet.pointer) where_is.2,
    record {
      slot = slot.slot;
      there = slot.there;
      context = context;
      ring = ring;
      y = packet.y;
      found = packet.found;
      in_line = where_is.1;
      live = packet.live;
      is = live_at setup s c h d e where_is.0 packet.y at where_is.1 packet.live;
      room = packet.room;
      reaches = packet.reaches;
    },
  )
    where
      b : KeptEndpoint
      b = c.endpoints d e

      slot : IsSlotOf setup s.controller c d e (context_in s.controller d e)
      slot = slot_of setup s.controller c d e at.interface at.keeps.held at.there

      context : context_of slot.slot e ≡ Some x
      context = slot.context ∙ there

      ring : HasRing setup d e (pipe_at slot.slot.pipes e) b x
      ring = subst (λ (o : Option Context). RingIs setup d e (pipe_at slot.slot.pipes e) b o) there slot.ring

      holds : holder setup w.claims d e ≡ Some h
      holds = ap (λ (f : Claims). holder setup f d e) (sym shows.claims) ∙ at.holds

      packet : ServesAs x (pipe_at slot.slot.pipes e) b (c.gone d) first (served_here (c.gone d) x (answer_of (pipe_at slot.slot.pipes e))) (serve_kept x.size (c.gone d) b)
      packet = subst (λ (o : Option TrbAt). ServedAs x (pipe_at slot.slot.pipes e) b (c.gone d) o (serve_kept x.size (c.gone d) b)) work
          (match.serves x (pipe_at slot.slot.pipes e) b (c.gone d) ring.context slot.end.pipe (fresh_while_running setup w c shows at.keeps.fine h d e holds))

      where_is : (i : ℕ) × (slice_get b.line i ≡ Some packet.y) × IsInRing x.ring.line (address_of places x.ring.line.base b.dequeue) i (b.dequeue - packet.y.place)
      where_is = where_.item x b b.dequeue packet.y ring.context packet.found

  -- the item where the controller works is that transfer
  pub at_work : (setup : Setup) (w : World) (s : State P) (c : Core) (h d e item : ℕ) (x : Context) (first : TrbAt) → IsAt setup s c h d e → Shows setup w c → context_in s.controller d e ≡ Some x → working x ≡ Some first
      → IsFront s d e (Some item) → IsAtWork setup s c h d e item x first
  at_work setup w s c h d e item x first at shows there work front =
      let works = works_at setup w s c h d e x first at shows there work in
      subst (λ (i : ℕ). IsAtWork setup s c h d e i x first) (sym (same_Some item works.0 (front.found x first works.0 works.1 there work works.2))) works.3

  -- what holds of a read, by how far it was read, and of a write, by its bytes, holds of an item at work
  pub by_bytes : (setup : Setup) (w : World) (s : State P) (c : Core) (h d e item : ℕ) (x : Context) (first : TrbAt) → IsAt setup s c h d e → Shows setup w c → working x ≡ Some first → (is : IsAtWork setup s c h d e item x first) (F : Body → InFlight P → Type 0)
      → ((n : ℕ) → length_of is.y.request.body ≡ n → room_of is.y.request.body ≡ n → length is.is.t.bytes.items ≡ length is.y.bytes → length is.y.bytes ≤ sent_before (c.endpoints d e) is.y → F (In n) is.is.t)
      → ((bytes : List ℕ) → length_of is.y.request.body ≡ length bytes → F (Out bytes) is.is.t) → IfSome (item_at s.flights d e item) (λ t. F t.request.body t)
  by_bytes setup w s c h d e item x first at shows work is F read written = subst (λ (o : Option (InFlight P)). IfSome o (λ t. F t.request.body t)) (sym is.is.found) (by_body t.request.body refl)
    where
      t : InFlight P
      t = is.is.t

      same : t.request ≡ is.y.request
      same = is.is.same.asks_for

      holds : holder setup w.claims d e ≡ Some h
      holds = ap (λ (f : Claims). holder setup f d e) (sym shows.claims) ∙ at.holds

      few : length is.y.bytes ≤ sent_before (c.endpoints d e) is.y
      few = reads_so_far setup w c shows at.keeps.fine h d e holds (sym is.ring.context.runs ∙ working_runs x first work) is.y is.found

      by_body : (body : Body) → t.request.body ≡ body → F body t
      by_body (In n) in_ =
          let here : is.y.request.body ≡ In n = ap (λ (r : Request). r.body) (sym same) ∙ in_ in
          read n (ap length_of here) (ap room_of here) (ap length is.is.same.read) few
      by_body (Out bytes) out = written bytes (ap length_of (ap (λ (r : Request). r.body) (sym same) ∙ out))

  -- so one packet of it can be served
  pub can_serve : (setup : Setup) (w : World) (s : State P) (c : Core) (h d e item : ℕ) (x : Context) (first : TrbAt) → IsAt setup s c h d e → Shows setup w c → working x ≡ Some first → IsAtWork setup s c h d e item x first
      → length s.controller.events.waits < 4095 → CanServeItem s d e item
  can_serve setup w s c h d e item x first at shows work is room = record {
    live = ap is_some is.is.found;
    bytes = by_bytes setup w s c h d e item x first at shows work is (CanServe s.controller d e) read written;
    room = room;
  }
    where
      t : InFlight P
      t = is.is.t

      read : (n : ℕ) → length_of is.y.request.body ≡ n → room_of is.y.request.body ≡ n → length t.bytes.items ≡ length is.y.bytes → length is.y.bytes ≤ sent_before (c.endpoints d e) is.y → CanServe s.controller d e (In n) t
      read n long room_is so_far few = has_here s.controller d e (λ v z f. length t.bytes.items + packet_room z ≤ t.bytes.capacity) is.slot x first is.there is.context work (omega (arith, few, is.room, is.is.same.room, long, room_is, so_far))

      written : (bytes : List ℕ) → length_of is.y.request.body ≡ length bytes → CanServe s.controller d e (Out bytes) t
      written bytes long = (
        has_here s.controller d e (λ v z f. z.size ≤ (pipe_at v.pipes e).size) is.slot x first is.there is.context work is.ring.fits,
        has_here s.controller d e (λ v z f. offset_by f.trb z.within + packet_room z ≤ length bytes) is.slot x first is.there is.context work (omega (arith, is.reaches, long)),
      )

  -- of the item where the controller works one packet can be served
  pub serves_safely : (setup : Setup) (w : World) (s : State P) (c : Core) (h d e item : ℕ) (x : Context) (first : TrbAt) → IsAt setup s c h d e → Shows setup w c → context_in s.controller d e ≡ Some x → working x ≡ Some first
      → IsFront s d e (Some item) → length s.controller.events.waits < 4095 → CanServeItem s d e item
  serves_safely setup w s c h d e item x first at shows there work front room = can_serve setup w s c h d e item x first at shows work (at_work setup w s c h d e item x first at shows there work front) room
