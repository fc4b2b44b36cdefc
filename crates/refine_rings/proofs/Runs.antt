-- The oldest order is run.
use Rattle.std.proofs.Common.{◌≡◌, ℕ, suc, ◌+◌, ◌-◌, refl, ap, ap₂, sym, subst, ◌∙◌, arith, List, [], ◌∷◌, ◌++◌, length, map, Some, None, Option, append_assoc, length-set}
use Rattle.std.specs.Prelude.{slice_get, slice_set}
use Rattle.std.specs.Option.{option_map_or}
use Rattle.usb_model.specs.declared.endpoint.EndpointState.TheVariants.{Running, Stopped, Halted}
use Rattle.usb_model.specs.declared.endpoint.EndpointState.{EndpointState}
use Rattle.usb_model.specs.declared.errand.Errand.{Errand}
use Rattle.usb_model.specs.declared.errand.Errand.TheVariants as errand
use Rattle.usb_model.specs.Setup.{Setup, endpoint_id}
use Rattle.usb_trb.specs.declared.kind.TrbKind.{TrbKind}
use Rattle.usb_trb.specs.declared.kind.TrbKind.TheVariants.{CommandCompletion, SetDequeue, StopEndpoint, ResetEndpoint}
use Rattle.usb_rings.specs.Places.{address_of, cycle_of}
use Rattle.usb_model.specs.Kept.{KeptEndpoint}
use Rattle.usb_model.specs.Events.{errand_of}
use Rattle.usb_model.specs.Commands as kept
use Rattle.usb_device.specs.Pipe.{Pipe, pipe_at}
use Rattle.usb_rings.specs.Line.{places}
use Rattle.usb_xhc.specs.Commands.{carried, endpoint_not_enabled_error, move_in, moved_at, before, reset_in, stop_in, trb_error}
use Rattle.usb_xhc.specs.Context.{Context}
use Rattle.usb_xhc.specs.Posts.{posted_all}
use Rattle.usb_xhc.specs.Controller.{Controller, carried_at, code_for, endpoint_in, order_address, run_at, run_of, slot_in}
use Rattle.usb_xhc.specs.Slots.{DeviceSlot, changed, context_of, order_code, order_events}
use Rattle.refine_rings.specs.EndpointLaws.{CarriesAs, IsOrder, start_of}
use Rattle.refine_rings.proofs.Carries.{carries}
use Rattle.refine_world.specs.Shows.{RingOrder, event_at}
use Rattle.refine_rings.specs.Holds.{AllPosted, HasRing, IsEnd, IsPosted, RingIs, event_trb, ring_at, with_end}
use Rattle.refine_rings.specs.Laws.{RunsCore}
use Rattle.refine_rings.proofs.SlotChanges.{IsSame, with_context, but_context, context_set, ring_with}
use Rattle.refine_rings.proofs.Events.{all_wait, oldest_place, told_at_ring, told_more}
use Rattle.refine_rings.proofs.Orders.{orders_kept, orders_length, start_carried}
use Rattle.refine_rings.proofs.Slots.{AllSlots, end_from, slot_there, slots_with}

-- Stop Endpoint leaves the endpoint its slot, id, size and ring
same_stop : (c : Context) (s : EndpointState) → IsSame c (stop_in c s).context
same_stop c Running = record { slot = refl; id = refl; size = refl; base = refl }
same_stop c Stopped = record { slot = refl; id = refl; size = refl; base = refl }
same_stop c Halted = record { slot = refl; id = refl; size = refl; base = refl }

-- so does Reset Endpoint
same_reset : (c : Context) (s : EndpointState) → IsSame c (reset_in c s).context
same_reset c Running = record { slot = refl; id = refl; size = refl; base = refl }
same_reset c Stopped = record { slot = refl; id = refl; size = refl; base = refl }
same_reset c Halted = record { slot = refl; id = refl; size = refl; base = refl }

-- so does a new dequeue place
same_moved : (c : Context) (o : Option ℕ) → IsSame c (moved_at c o).context
same_moved c None = record { slot = refl; id = refl; size = refl; base = refl }
same_moved c (Some n) = record { slot = refl; id = refl; size = refl; base = refl }

-- so does Set TR Dequeue Pointer
same_move : (c : Context) (pointer : ℕ) (s : EndpointState) → IsSame c (move_in c pointer s).context
same_move c pointer Running = record { slot = refl; id = refl; size = refl; base = refl }
same_move c pointer Stopped = same_moved c (before c.ring.line pointer)
same_move c pointer Halted = record { slot = refl; id = refl; size = refl; base = refl }

-- an order of an errand, with its endpoint
record IsSuch (d e : ℕ) (k : TrbKind) : Type 0 where
  pub target : endpoint_in k ≡ Some (suc d, endpoint_id e)
  pub same : (c : Context) → IsSame c (carried k c).context

-- so is each that is posted
such : (b : KeptEndpoint) (d e : ℕ) (o : Errand) (k : TrbKind) → IsPosted b d e o k → IsSuch d e k
unfolding carried
such b d e errand.Stop k is = subst (λ (x : TrbKind). IsSuch d e x) (sym is) (record { target = refl; same = λ c. same_stop c c.state })
such b d e errand.Reset k is = subst (λ (x : TrbKind). IsSuch d e x) (sym is) (record { target = refl; same = λ c. same_reset c c.state })
such b d e errand.Move k is = subst (λ (x : TrbKind). IsSuch d e x) (sym is) (record { target = refl; same = λ c. same_move c (address_of places (ring_at d e) (start_of b)) c.state })

-- the order as its endpoint has it
order_is : (setup : Setup) (d e : ℕ) (p : Pipe) (b : KeptEndpoint) (c : Context) (o : Errand) (k : TrbKind) → HasRing setup d e p b c → IsPosted b d e o k → IsOrder c b o k
order_is setup d e p b c errand.Stop k r is = is ∙ ap₂ (λ (m n : ℕ). StopEndpoint m n) (sym r.slot) (sym r.id)
order_is setup d e p b c errand.Reset k r is = is ∙ ap₂ (λ (m n : ℕ). ResetEndpoint m n) (sym r.slot) (sym r.id)
order_is setup d e p b c errand.Move k r is =
    let start : ℕ = start_of b in
    is ∙ (ap (λ (base : ℕ). SetDequeue (address_of places base start) (cycle_of places start) (suc d) (endpoint_id e)) (sym r.base)
    ∙ ap₂ (λ (m n : ℕ). SetDequeue (address_of places c.ring.line.base start) (cycle_of places start) m n) (sym r.slot) (sym r.id))

-- an endpoint with an errand has a ring
has_ring : (setup : Setup) (d e : ℕ) (s : DeviceSlot) (b : KeptEndpoint) (o : Errand) → IsEnd setup s d e b → errand_of b.errand ≡ Some o → (c : Context) × (context_of s e ≡ Some c) × HasRing setup d e (pipe_at s.pipes e) b c
has_ring setup d e s b o end sent = by_context (context_of s e) refl
  where
    has : (x : Option Context) → context_of s e ≡ x → RingIs setup d e (pipe_at s.pipes e) b x
    has x there = subst (λ (y : Option Context). RingIs setup d e (pipe_at s.pipes e) b y) there end.ring

    by_context : (x : Option Context) → context_of s e ≡ x → (c : Context) × (context_of s e ≡ Some c) × HasRing setup d e (pipe_at s.pipes e) b c
    by_context None there =
        let none : None ≡ Some o = ap errand_of (sym (has None there).errand) ∙ sent in
        absurd cc
    by_context (Some c) there = (c, there, has (Some c) there)

-- what the controller does with it
record IsRun (k : Controller) (d e : ℕ) (s : DeviceSlot) (c : Context) (t : TrbKind) (rest : List TrbKind) : Type 0 where
  pub code : code_for k t ≡ (carried t c).code
  pub slots : (run_at k t rest).slots ≡ slice_set k.slots d (with_context s (endpoint_id e) (carried t c).context)
  pub events : (run_at k t rest).events.waits ≡ k.events.waits ++ ((carried t c).events ++ CommandCompletion (order_address k.commands) (carried t c).code (suc d) ∷ [])

-- the order of an endpoint with this context
runs_so : (k : Controller) (d e : ℕ) (s : DeviceSlot) (c : Context) (t : TrbKind) (rest : List TrbKind) → IsSuch d e t → slice_get k.slots d ≡ Some s → context_of s e ≡ Some c → IsRun k d e s c t rest
runs_so k d e s c t rest is there context = record {
  code = code_is;
  slots = ap (λ (v : Controller). v.slots) carried_is;
  events = ap₂ (λ (v : Controller) (n : ℕ). v.events.waits ++ CommandCompletion (order_address k.commands) n (slot_in t) ∷ []) carried_is code_is
      ∙ (ap₂ (λ (ks : List TrbKind) (n : ℕ). ks ++ CommandCompletion (order_address k.commands) (carried t c).code n ∷ []) (all_wait 4096 k.events (carried t c).events) slot_is
      ∙ append_assoc k.events.waits (carried t c).events (CommandCompletion (order_address k.commands) (carried t c).code (suc d) ∷ []));
}
  where
    id : ℕ
    id = endpoint_id e

    slot_is : slot_in t ≡ suc d
    slot_is = ap (λ (o : Option (ℕ × ℕ)). option_map_or (λ (at : ℕ × ℕ). at.0) o 1) is.target

    device : suc d - 1 ≡ d
    device = omega arith

    found : slice_get k.slots (suc d - 1) ≡ Some s
    found = ap (slice_get k.slots) device ∙ there

    code_is : code_for k t ≡ (carried t c).code
    code_is =
        ap (λ (o : Option (ℕ × ℕ)). option_map_or (λ (at : ℕ × ℕ). option_map_or (λ (v : DeviceSlot). order_code v at.1 t) (slice_get k.slots (at.0 - 1)) endpoint_not_enabled_error) o trb_error) is.target
        ∙ (ap (λ (o : Option DeviceSlot). option_map_or (λ (v : DeviceSlot). order_code v id t) o endpoint_not_enabled_error) found
        ∙ ap (λ (o : Option Context). option_map_or (λ (x : Context). (carried t x).code) o endpoint_not_enabled_error) context)

    put_in : ℕ → DeviceSlot → List TrbKind → Controller
    put_in n v ks = record k { slots = slice_set k.slots n v; events = posted_all 4096 k.events ks }

    carried_is : carried_at k t ≡ put_in d (with_context s id (carried t c).context) (carried t c).events
    carried_is =
        ap (λ (o : Option (ℕ × ℕ)). option_map_or (λ (at : ℕ × ℕ). option_map_or (λ (v : DeviceSlot). put_in (at.0 - 1) (changed v at.1 (λ x. (carried t x).context)) (order_events v at.1 t)) (slice_get k.slots (at.0 - 1)) k) o k) is.target
        ∙ (ap (λ (o : Option DeviceSlot). option_map_or (λ (v : DeviceSlot). put_in (suc d - 1) (changed v id (λ x. (carried t x).context)) (order_events v id t)) o k) found
        ∙ (ap (λ (n : ℕ). put_in n (changed s id (λ x. (carried t x).context)) (order_events s id t)) device
        ∙ ap (λ (o : Option Context). put_in d (option_map_or (λ (x : Context). with_context s id (carried t x).context) o s) (option_map_or (λ (x : Context). (carried t x).events) o [])) context))

-- the first of the orders that wait
first_waits : (endpoints : ℕ → ℕ → KeptEndpoint) (o : RingOrder) (os : List RingOrder) (ks : List TrbKind) → AllPosted endpoints (o ∷ os) ks
    → (t : TrbKind) × (rest : List TrbKind) × (ks ≡ t ∷ rest) × IsPosted (endpoints o.dev o.ep) o.dev o.ep o.errand t × AllPosted endpoints os rest
first_waits endpoints o os [] all = absurd all
first_waits endpoints o os (t ∷ rest) all = (t, rest, refl, all.0, all.1)

-- the oldest order is the core's
pub runs : RunsCore
runs setup k gone endpoints o os events posted i plain is at fresh sent last few =
    let there = slot_there setup k gone endpoints (o ∷ os) events posted d e i is at in
    let s : DeviceSlot = there.0 in
    let slot = is.each d s there.1 in
    let end = slot.ends e i at in
    let ring = has_ring setup d e s b o.errand end sent in
    let c : Context = ring.0 in
    let r : HasRing setup d e (pipe_at s.pipes e) b c = ring.2 in
    let first = first_waits endpoints o os k.commands.waits is.ordered in
    let t : TrbKind = first.0 in
    let rest : List TrbKind = first.1 in
    let such_is : IsSuch d e t = such b d e o.errand t first.3 in
    let run : IsRun k d e s c t rest = runs_so k d e s c t rest such_is there.1 ring.1 in
    let h : CarriesAs c b o.place (carried t c) a = carries c b o.place o.errand t r.context fresh (order_is setup d e (pipe_at s.pipes e) b c o.errand t r first.3) in
    let base : ℕ = k.commands.memory.base in
    let new : IsEnd setup (with_context s (endpoint_id e) (carried t c).context) d e a.endpoint =
    end_from setup (with_context s (endpoint_id e) (carried t c).context) d e a.endpoint (pipe_at s.pipes e) (Some (carried t c).context)
    (context_set setup d e s gone endpoints (carried t c).context slot) refl (h.pipe (pipe_at s.pipes e) end.pipe) end.script
    (ring_with setup d e (pipe_at s.pipes e) b a.endpoint c (carried t c).context r h.context (such_is.same c)) in
    let place : order_address k.commands ≡ address_of 255 base o.place =
    oldest_place k.commands o.place posted is.count (ap (λ (n : ℕ). o.place + n) (orders_length endpoints (o ∷ os) k.commands.waits is.ordered) ∙ last) (omega (arith, few, orders_length endpoints (o ∷ os) k.commands.waits is.ordered)) in
    let told : (carried t c).events ++ CommandCompletion (order_address k.commands) (carried t c).code (suc d) ∷ [] ≡ map (event_trb base) (map (event_at d e) a.told) =
    ap₂ (λ (p n : ℕ). (carried t c).events ++ CommandCompletion p (carried t c).code n ∷ []) place (sym r.slot) ∙ (h.told base ∙ told_at_ring d e base c a.told r.slot r.id r.base) in (
      record { order = t; code = code_for k t; controller = run_at k t rest },
      ap (run_of k) first.2,
      first.3,
      run.code ∙ h.code,
      record {
        slots = ap length run.slots ∙ (length-set k.slots d (with_context s (endpoint_id e) (carried t c).context) ∙ is.slots);
        each = subst (λ (slots : List DeviceSlot). AllSlots setup slots gone (with_end endpoints d e a.endpoint)) (sym run.slots)
            (slots_with setup k.slots d e i s (with_context s (endpoint_id e) (carried t c).context) gone endpoints a.endpoint plain at there.1 (but_context (endpoint_id e) s (carried t c).context) is.each new);
        ordered = orders_kept endpoints d e a.endpoint os rest (start_carried o.place b o.errand b.state) first.4;
        told = run.events ∙ told_more base k.events.waits ((carried t c).events ++ CommandCompletion (order_address k.commands) (carried t c).code (suc d) ∷ []) events (map (event_at d e) a.told) is.told told;
        count = is.count;
      },
    )
  where
    d : ℕ
    d = o.dev

    e : ℕ
    e = o.ep

    b : KeptEndpoint
    b = endpoints d e

    a : kept.Carried
    a = kept.carry o.place b o.errand b.state
