-- The host's work at an endpoint.
use Rattle.std.proofs.Common.{◌≡◌, ℕ, zero, suc, ◌+◌, ◌-◌, ◌≤◌, refl, ap, sym, subst, ◌∙◌, arith, List, [], length, drop, Some, None, true, Bool}
use Rattle.std.specs.Prelude.{slice_get, slice_set}
use Rattle.std.proofs.lemmas.Option.{same_Some}
use Rattle.usb_model.specs.declared.endpoint.EndpointState.{EndpointState}
use Rattle.usb_model.specs.declared.endpoint.EndpointState.TheVariants.{Running, Stopped, Halted}
use Rattle.usb_model.specs.declared.request.Request.{Request}
use Rattle.usb_model.specs.Limits.{most_bytes}
use Rattle.usb_model.specs.Requests.{length_of}
use Rattle.usb_model.specs.Setup.{Setup, endpoint_id, interface_of, packet_size_of}
use Rattle.usb_model.specs.Kept.{KeptEndpoint, KeptTransfer, trbs_of}
use Rattle.usb_model.specs.Joins.{joined, new_kept}
use Rattle.usb_device.specs.Pipe.{Pipe, pipe_at}
use Rattle.usb_tables.specs.Tds.{tds_of}
use Rattle.usb_tables.specs.Trbs.{normals_of}
use Rattle.usb_rings.specs.Line.{capacity, normals, used}
use Rattle.usb_xhc.specs.Context.{Context}
use Rattle.usb_xhc.specs.Host.{rung, state_by_doorbell, with_ring, with_pushed, with_blank, without_first}
use Rattle.usb_xhc.specs.Controller.{Controller, slot_changed}
use Rattle.usb_xhc.specs.Slots.{DeviceSlot, changed, context_of}
use Rattle.refine_rings.specs.Endpoint.{IsContext}
use Rattle.refine_rings.proofs.Hosts as match
use Rattle.refine_world.specs.Shows.{RingEvent, RingOrder}
use Rattle.refine_rings.specs.Holds.{HasRing, Holds, with_end}
use Rattle.refine_world.specs.Known.{NoMove}
use Rattle.refine_rings.specs.Laws.{HasPlain}
use Rattle.refine_rings.proofs.SlotChanges.{holds_changed}
use Rattle.refine_rings.proofs.Orders.{orders_kept, orders_still, start_joined}

-- what is told of a controller that holds a core, and of one of its endpoints
pub record IsAt (setup : Setup) (k : Controller) (gone : ℕ → Bool) (endpoints : ℕ → ℕ → KeptEndpoint) (orders : List RingOrder) (events : List RingEvent) (posted d e i : ℕ) : Type 0 where
  pub plain : HasPlain setup
  pub holds : Holds setup k gone endpoints orders events posted
  pub at : interface_of setup d e ≡ Some i

-- the packet size of the configuration, where an endpoint has a ring
push_sized : (setup : Setup) (d e : ℕ) (p : Pipe) (b : KeptEndpoint) (c : Context) (key n : ℕ) (request : Request) (round : ℕ) → HasRing setup d e p b c → length_of request.body ≤ most_bytes
    → used c.ring.line + length (trbs_of (packet_size_of setup d e) request) ≤ capacity
    → IsContext (with_ring c (with_pushed c.ring (normals (normals_of key (tds_of (packet_size_of setup d e) request))))) (joined (packet_size_of setup d e) b n request round)
push_sized setup d e p b c key n request round r few room =
    subst (λ (size : ℕ). IsContext (with_ring c (with_pushed c.ring (normals (normals_of key (tds_of size request))))) (joined size b n request round)) r.size
    (match.pushes c b key n request round r.context few (subst (λ (size : ℕ). used c.ring.line + length (trbs_of size request) ≤ capacity) (sym r.size) room))

-- a transfer's TRBs join its ring
pub pushes : (setup : Setup) (k : Controller) (gone : ℕ → Bool) (endpoints : ℕ → ℕ → KeptEndpoint) (orders : List RingOrder) (events : List RingEvent) (posted d e i : ℕ) → IsAt setup k gone endpoints orders events posted d e i
    → (s : DeviceSlot) (c : Context) (key n : ℕ) (request : Request) (round : ℕ) → slice_get k.slots d ≡ Some s → context_of s e ≡ Some c → length_of request.body ≤ most_bytes
    → used c.ring.line + length (trbs_of (packet_size_of setup d e) request) ≤ capacity
    → Holds setup (slot_changed k d (λ t. changed t (endpoint_id e) (λ x. with_ring x (with_pushed x.ring (normals (normals_of key (tds_of (packet_size_of setup d e) request))))))) gone
    (with_end endpoints d e (joined (packet_size_of setup d e) (endpoints d e) n request round)) orders events posted
pushes setup k gone endpoints orders events posted d e i is s c key n request round there context few room =
    holds_changed setup k gone endpoints orders events posted d e i (joined size b n request round) (λ x. with_ring x (with_pushed x.ring (normals (normals_of key (tds_of size request))))) is.plain is.holds is.at
    (λ t x other_there other r. (ring t x other_there other r, record { slot = refl; id = refl; size = refl; base = refl }))
    (λ t other_there other none. absurd (not_none t other_there other))
    (λ p q. record { left = q.left; halted = q.halted; taken = q.taken })
    (orders_kept endpoints d e (joined size b n request round) orders k.commands.waits (start_joined b.line (new_kept size b.end n request round) b.end (b.end + length (trbs_of size request)) refl refl) is.holds.ordered)
  where
    size : ℕ
    size = packet_size_of setup d e

    b : KeptEndpoint
    b = endpoints d e

    one : (t : DeviceSlot) → slice_get k.slots d ≡ Some t → s ≡ t
    one t other = same_Some s t (sym there ∙ other)

    not_none : (t : DeviceSlot) → slice_get k.slots d ≡ Some t → context_of t e ≡ None → ⊥
    not_none t other_there other =
        let none : context_of s e ≡ None = subst (λ (x : DeviceSlot). context_of x e ≡ None) (sym (one t other_there)) other in
        let both : Some c ≡ None = sym context ∙ none in
        absurd cc

    ring : (t : DeviceSlot) (x : Context) → slice_get k.slots d ≡ Some t → context_of t e ≡ Some x → HasRing setup d e (pipe_at t.pipes e) b x
        → IsContext (with_ring x (with_pushed x.ring (normals (normals_of key (tds_of size request))))) (joined size b n request round)
    ring t x other_there other r =
        let same : c ≡ x = same_Some c x (sym context ∙ subst (λ (y : DeviceSlot). context_of y e ≡ Some x) (sym (one t other_there)) other) in
        push_sized setup d e (pipe_at t.pipes e) b x key n request round r few (subst (λ (y : Context). used y.ring.line + length (trbs_of size request) ≤ capacity) same room)

-- of none none is left
drop_none : (n : ℕ) → ◌≡◌ {A = List KeptTransfer} (drop n []) []
drop_none zero = refl
drop_none (suc n) = refl

-- a transfer is withdrawn
pub blanks : (setup : Setup) (k : Controller) (gone : ℕ → Bool) (endpoints : ℕ → ℕ → KeptEndpoint) (orders : List RingOrder) (events : List RingEvent) (posted d e i : ℕ) → IsAt setup k gone endpoints orders events posted d e i
    → (j : ℕ) (y : KeptTransfer) → slice_get (endpoints d e).line j ≡ Some y → NoMove d e orders
    → Holds setup (slot_changed k d (λ t. changed t (endpoint_id e) (λ x. with_ring x (with_blank x.ring j)))) gone
    (with_end endpoints d e (record (endpoints d e) { line = slice_set (endpoints d e).line j (record y { blank = true }) })) orders events posted
blanks setup k gone endpoints orders events posted d e i is j y there still =
    holds_changed setup k gone endpoints orders events posted d e i after (λ x. with_ring x (with_blank x.ring j)) is.plain is.holds is.at
    (λ s c in_slots context r. (match.blanks c (endpoints d e) j y r.context there, record { slot = refl; id = refl; size = refl; base = refl }))
    (λ s in_slots context none. absurd (nothing none.line))
    (λ p q. record { left = q.left; halted = q.halted; taken = q.taken })
    (orders_still endpoints d e after orders k.commands.waits still is.holds.ordered)
  where
    after : KeptEndpoint
    after = record (endpoints d e) { line = slice_set (endpoints d e).line j (record y { blank = true }) }

    nothing : (endpoints d e).line ≡ [] → ⊥
    nothing empty =
        let none : None ≡ Some y = ap (λ (ys : List KeptTransfer). slice_get ys j) (sym empty) ∙ there in
        absurd cc

-- the first transfers leave
pub drops : (setup : Setup) (k : Controller) (gone : ℕ → Bool) (endpoints : ℕ → ℕ → KeptEndpoint) (orders : List RingOrder) (events : List RingEvent) (posted d e i : ℕ) → IsAt setup k gone endpoints orders events posted d e i
    → (n : ℕ) → n ≤ length (endpoints d e).line → NoMove d e orders
    → Holds setup (slot_changed k d (λ t. changed t (endpoint_id e) (λ x. with_ring x (without_first x.ring n)))) gone
    (with_end endpoints d e (record (endpoints d e) { line = drop n (endpoints d e).line })) orders events posted
drops setup k gone endpoints orders events posted d e i is n le still =
    holds_changed setup k gone endpoints orders events posted d e i after (λ x. with_ring x (without_first x.ring n)) is.plain is.holds is.at
    (λ s c in_slots context r. (match.drops c (endpoints d e) n r.context le, record { slot = refl; id = refl; size = refl; base = refl }))
    (λ s in_slots context none. record { unsupported = none.unsupported; line = ap (drop n) none.line ∙ drop_none n; errand = none.errand; begins = record { left = none.begins.left; halted = none.begins.halted; taken = none.begins.taken } })
    (λ p q. record { left = q.left; halted = q.halted; taken = q.taken })
    (orders_still endpoints d e after orders k.commands.waits still is.holds.ordered)
  where
    after : KeptEndpoint
    after = record (endpoints d e) { line = drop n (endpoints d e).line }

-- a doorbell makes one run that isn't halted
rings_state : (x y : EndpointState) → x ≡ y → (y ≡ Halted → ⊥) → state_by_doorbell x ≡ Running
rings_state Running y same up = refl
rings_state Stopped y same up = refl
rings_state Halted y same up = absurd (up (sym same))

-- its context then is that of an endpoint that runs
rings_here : (c : Context) (b : KeptEndpoint) → IsContext c b → (b.state ≡ Halted → ⊥) → IsContext (rung c) (record b { state = Running })
rings_here c b is up = record {
  ring = is.ring;
  runs = rings_state c.state b.state is.runs up;
  partly = is.partly;
  front = λ y h. let f = is.front y h in record { begun = f.begun; fits = f.fits };
  rests = is.rests;
}

-- the doorbell is rung
pub rings : (setup : Setup) (k : Controller) (gone : ℕ → Bool) (endpoints : ℕ → ℕ → KeptEndpoint) (orders : List RingOrder) (events : List RingEvent) (posted d e i : ℕ) → IsAt setup k gone endpoints orders events posted d e i
    → ((endpoints d e).state ≡ Halted → ⊥)
    → Holds setup (slot_changed k (suc d - 1) (λ t. changed t (endpoint_id e) rung)) gone (with_end endpoints d e (record (endpoints d e) { state = Running })) orders events posted
rings setup k gone endpoints orders events posted d e i is up =
    let same : suc d - 1 ≡ d = omega arith in
    subst (λ (n : ℕ). Holds setup (slot_changed k n (λ t. changed t (endpoint_id e) rung)) gone (with_end endpoints d e after) orders events posted) (sym same)
    (holds_changed setup k gone endpoints orders events posted d e i after rung is.plain is.holds is.at
    (λ s c in_slots context r. (rings_here c (endpoints d e) r.context up, record { slot = refl; id = refl; size = refl; base = refl }))
    (λ s in_slots context none. record { unsupported = none.unsupported; line = none.line; errand = none.errand; begins = record { left = none.begins.left; halted = none.begins.halted; taken = none.begins.taken } })
    (λ p q. record { left = q.left; halted = q.halted; taken = q.taken })
    (orders_kept endpoints d e after orders k.commands.waits refl is.holds.ordered))
  where
    after : KeptEndpoint
    after = record (endpoints d e) { state = Running }
