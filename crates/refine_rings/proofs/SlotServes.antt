-- A packet at an endpoint that is held.
use Rattle.std.proofs.Common.{◌≡◌, ℕ, refl, ap, ap₂, sym, subst, ◌∙◌, arith, List, [], ◌++◌, map, Some, None, Option, Bool, true, false, length-set}
use Rattle.std.specs.Prelude.{option_map, slice_get, slice_set}
use Rattle.std.specs.Option.{option_map_or}
use Rattle.std.proofs.lemmas.Option.{same_Some}
use Rattle.usb_model.specs.declared.endpoint.EndpointState.{EndpointState}
use Rattle.usb_model.specs.declared.endpoint.EndpointState.TheVariants.{Running, Stopped, Halted}
use Rattle.usb_model.specs.declared.reply.Reply.TheVariants.{Idle}
use Rattle.usb_model.specs.declared.request.Body.TheVariants.{In}
use Rattle.usb_model.specs.Setup.{Setup, interface_of, packet_size_of}
use Rattle.usb_model.specs.Kept.{KeptEndpoint, KeptTransfer}
use Rattle.usb_model.specs.Events.{find_at}
use Rattle.usb_model.specs.Packets.{Answered, answer_now, got, packet_now, serve_at, serve_kept}
use Rattle.usb_device.specs.Pipe.{Pipe, answer_of, pipe_at}
use Rattle.usb_xhc.specs.declared.packet.PacketResult.{PacketResult as Told}
use Rattle.usb_xhc.specs.declared.trb_at.TrbAt.{TrbAt}
use Rattle.usb_xhc.specs.Context.{Context}
use Rattle.usb_xhc.specs.Posts.{posted_all}
use Rattle.usb_xhc.specs.Transaction.{Served, working}
use Rattle.usb_xhc.specs.Controller.{Controller, served_at, told_at}
use Rattle.usb_xhc.specs.Slots.{DeviceSlot, context_of, read_after}
use Rattle.refine_rings.specs.EndpointLaws.{ServedAs, ServesAs, packet_for, pipe_behind}
use Rattle.refine_rings.proofs.Serves as match
use Rattle.refine_world.specs.Shows.{RingEvent, RingOrder, event_at}
use Rattle.refine_rings.specs.Holds.{HasRing, Holds, IsEnd, IsSlot, RingIs, with_end}
use Rattle.refine_rings.specs.Laws.{HasPlain, Serves, ServesCore, out_of}
use Rattle.refine_rings.proofs.SlotChanges.{context_set, ring_with}
use Rattle.refine_rings.proofs.Events.{all_wait, told_at_ring, told_more}
use Rattle.refine_rings.proofs.Ids.{id-lt}
use Rattle.refine_rings.proofs.Orders.{orders_kept, start_served}
use Rattle.refine_rings.proofs.Packets.{IsBusy, IsIdle, busy_reads, busy_sends, busy_serves, busy_slot, but_behind, idle_none, idle_served, idle_still, idle_told, pipe_there, same_script, same_served, served_in, served_is, slot_behind, told_is}
use Rattle.refine_rings.proofs.Slots.{end_from, slot_there, slots_with}

-- what is told of a controller that holds a core, of a slot and of an endpoint there
record IsHeld (setup : Setup) (k : Controller) (gone : ℕ → Bool) (endpoints : ℕ → ℕ → KeptEndpoint) (orders : List RingOrder) (events : List RingEvent) (posted d e i : ℕ) (s : DeviceSlot) : Type 0 where
  pub plain : HasPlain setup
  pub holds : Holds setup k gone endpoints orders events posted
  pub at : interface_of setup d e ≡ Some i
  pub there : slice_get k.slots d ≡ Some s
  pub slot : IsSlot setup d s gone endpoints

-- nothing is served
serves_idle : (setup : Setup) (k : Controller) (gone : ℕ → Bool) (endpoints : ℕ → ℕ → KeptEndpoint) (orders : List RingOrder) (events : List RingEvent) (posted d e i : ℕ) (s : DeviceSlot) (a : Answered)
    → IsHeld setup k gone endpoints orders events posted d e i s → IsIdle s e → a ≡ record { reply = Idle; endpoint = endpoints d e; told = [] } → Serves setup k gone endpoints orders events posted d e (told_at k d e) a
serves_idle setup k gone endpoints orders events posted d e i s a is idle same =
    subst (λ (o : Option Told). Serves setup k gone endpoints orders events posted d e o a) (sym (idle_told k d e s is.there idle))
    (same, subst (λ (v : Controller). Holds setup v gone endpoints orders events posted) (sym (idle_served k d e s is.there idle)) is.holds)

-- an endpoint without a line has nothing to serve
no_line : (size : ℕ) (gone : Bool) (b : KeptEndpoint) → b.line ≡ [] → serve_kept size gone b ≡ record { reply = Idle; endpoint = b; told = [] }
unfolding serve_kept serve_at find_at
no_line size gone b none = ap (λ (ys : List KeptTransfer). serve_at size gone b b.state (find_at b.dequeue ys)) none ∙ by_state gone b.state
  where
    by_state : (g : Bool) (s : EndpointState) → serve_at size g b s None ≡ record { reply = Idle; endpoint = b; told = [] }
    by_state true Running = refl
    by_state false Running = refl
    by_state true Stopped = refl
    by_state false Stopped = refl
    by_state true Halted = refl
    by_state false Halted = refl

-- a packet is served
serves_busy : (setup : Setup) (k : Controller) (gone : ℕ → Bool) (endpoints : ℕ → ℕ → KeptEndpoint) (orders : List RingOrder) (events : List RingEvent) (posted d e i : ℕ) (s : DeviceSlot) (c : Context) (first : TrbAt)
    → IsHeld setup k gone endpoints orders events posted d e i s → IsBusy s e (gone d) c first → HasRing setup d e (pipe_at s.pipes e) (endpoints d e) c
    → ServesAs c (pipe_at s.pipes e) (endpoints d e) (gone d) first (served_in s e (gone d) c) (serve_kept (packet_size_of setup d e) (gone d) (endpoints d e))
    → Serves setup k gone endpoints orders events posted d e (told_at k d e) (serve_kept (packet_size_of setup d e) (gone d) (endpoints d e))
serves_busy setup k gone endpoints orders events posted d e i s c first is busy r w =
    subst (λ (o : Option Told). Serves setup k gone endpoints orders events posted d e o a) (sym told_so)
    (record {
      y = w.y;
      found = w.found;
      live = w.live;
      reply = w.reply;
      holds = subst (λ (v : Controller). Holds setup v gone (with_end endpoints d e a.endpoint) orders (events ++ map (event_at d e) a.told) posted) (sym left) holds;
      bytes = λ n v there body up. bytes n v there body up;
    })
  where
    b : KeptEndpoint
    b = endpoints d e

    size : ℕ
    size = packet_size_of setup d e

    a : Answered
    a = serve_kept size (gone d) b

    p : Pipe
    p = pipe_at s.pipes e

    x : Served
    x = served_in s e (gone d) c

    end : IsEnd setup s d e b
    end = is.slot.ends e i is.at

    told_so : told_at k d e ≡ Some x.packet
    told_so = told_is k d e s is.there ∙ ap (λ (o : Option Served). option_map (λ (z : Served). z.packet) o) (busy_serves s e (gone d) c first busy)

    out : Option (List ℕ)
    out = packet_for c first.trb w.y.request.body

    t : DeviceSlot
    t = slot_behind s e (gone d) out x.context

    left : served_at k d e (out_of e w.y.request.body) ≡ record k { slots = slice_set k.slots d t; events = posted_all 4096 k.events x.events }
    left =
        served_is k d e s (out_of e w.y.request.body) is.there
        ∙ ap₂ (λ (v : DeviceSlot) (o : Option Served). record k { slots = slice_set k.slots d v; events = option_map_or (λ (z : Served). posted_all 4096 k.events z.events) o k.events })
        (busy_slot s e (gone d) c first (out_of e w.y.request.body s) busy ∙ ap (λ (o : Option (List ℕ)). slot_behind s e (gone d) o x.context) (busy_sends s e (gone d) c first w.y.request.body busy))
        (busy_serves s e (gone d) c first busy)

    new_ring : HasRing setup d e (pipe_behind (gone d) out p) a.endpoint x.context
    new_ring =
        let h = ring_with setup d e p b a.endpoint c x.context r w.context (same_served (gone d) c (answer_of p)) in
        record { supported = h.supported; context = h.context; slot = h.slot; id = h.id; size = h.size; fits = omega (arith, h.fits, (same_script (gone d) out p).1); base = h.base }

    new : IsEnd setup t d e a.endpoint
    new = end_from setup t d e a.endpoint (pipe_behind (gone d) out p) (Some x.context) (context_set setup d e s gone endpoints x.context is.slot)
        (pipe_there s e (gone d) out (omega (arith, id-lt e, is.slot.pipes))) w.pipe ((same_script (gone d) out p).0 ∙ end.script) new_ring

    base : ℕ
    base = k.commands.memory.base

    holds : Holds setup (record k { slots = slice_set k.slots d t; events = posted_all 4096 k.events x.events }) gone (with_end endpoints d e a.endpoint) orders (events ++ map (event_at d e) a.told) posted
    holds = record {
      slots = length-set k.slots d t ∙ is.holds.slots;
      each = slots_with setup k.slots d e i s t gone endpoints a.endpoint is.plain is.at is.there (but_behind s e (gone d) out x.context) is.holds.each new;
      ordered = orders_kept endpoints d e a.endpoint orders k.commands.waits (start_served size (gone d) b) is.holds.ordered;
      told = all_wait 4096 k.events x.events ∙ told_more base k.events.waits x.events events (map (event_at d e) a.told) is.holds.told (w.told base ∙ told_at_ring d e base c a.told r.slot r.id r.base);
      count = is.holds.count;
    }

    bytes : (n : ℕ) (v : DeviceSlot) → slice_get k.slots d ≡ Some v → w.y.request.body ≡ In n → gone d ≡ false
        → read_after v e w.y.bytes ≡ w.y.bytes ++ got w.y.request.body (answer_now b) (packet_now size b w.y).bytes
    bytes n v there body up =
        let same : s ≡ v = same_Some s v (sym is.there ∙ there) in
        let here : IsBusy s e false c first = record { is_gone = busy.is_gone ∙ up; context = busy.context; work = busy.work } in
        ap (λ (z : DeviceSlot). read_after z e w.y.bytes) (sym same)
        ∙ (busy_reads s e c first w.y.bytes here
        ∙ (w.bytes n body
        ∙ ap (λ (m : ℕ). w.y.bytes ++ got w.y.request.body (answer_now b) (packet_now m b w.y).bytes) r.size))

-- a packet is the core's, or there is none for both
pub serves : ServesCore
serves setup k gone endpoints orders events posted d e i plain holds at fresh = by_context (context_of s e) refl
  where
    b : KeptEndpoint
    b = endpoints d e

    size : ℕ
    size = packet_size_of setup d e

    slot : (v : DeviceSlot) × (slice_get k.slots d ≡ Some v)
    slot = slot_there setup k gone endpoints orders events posted d e i holds at

    s : DeviceSlot
    s = slot.0

    is : IsHeld setup k gone endpoints orders events posted d e i s
    is = record { plain = plain; holds = holds; at = at; there = slot.1; slot = holds.each d s slot.1 }

    end : IsEnd setup s d e b
    end = is.slot.ends e i at

    has : (o : Option Context) → context_of s e ≡ o → RingIs setup d e (pipe_at s.pipes e) b o
    has o there = subst (λ (z : Option Context). RingIs setup d e (pipe_at s.pipes e) b z) there end.ring

    by_work : (c : Context) (o : Option TrbAt) → context_of s e ≡ Some c → working c ≡ o → HasRing setup d e (pipe_at s.pipes e) b c → ServedAs c (pipe_at s.pipes e) b (gone d) o (serve_kept size (gone d) b)
        → Serves setup k gone endpoints orders events posted d e (told_at k d e) (serve_kept size (gone d) b)
    by_work c None there work r w = serves_idle setup k gone endpoints orders events posted d e i s (serve_kept size (gone d) b) is (idle_still s e c there work) w
    by_work c (Some first) there work r w =
        serves_busy setup k gone endpoints orders events posted d e i s c first is (record { is_gone = is.slot.is_gone; context = there; work = work }) r w

    by_context : (o : Option Context) → context_of s e ≡ o → Serves setup k gone endpoints orders events posted d e (told_at k d e) (serve_kept size (gone d) b)
    by_context None there = serves_idle setup k gone endpoints orders events posted d e i s (serve_kept size (gone d) b) is (idle_none s e there) (no_line size (gone d) b (has None there).line)
    by_context (Some c) there =
        let r = has (Some c) there in
        by_work c (working c) there refl r
        (subst (λ (n : ℕ). ServedAs c (pipe_at s.pipes e) b (gone d) (working c) (serve_kept n (gone d) b)) r.size (match.serves c (pipe_at s.pipes e) b (gone d) r.context end.pipe fresh))
