-- What is asked of the rings of a controller: the size of their packets, and their items. Most of what a controller does leaves both.
use Rattle.std.proofs.Common.{◌≡◌, ℕ, zero, suc, ◌-◌, refl, ap, sym, subst, ◌∙◌, List, [], ◌∷◌, Bool, true, false, Option, Some, None, ◌⊎◌, inl, inr}
use Rattle.std.specs.Prelude.{option_map, slice_get, slice_index_or, slice_set, if◌then◌else◌}
use Rattle.std.specs.Option.{option_and_then, option_map_or}
use Rattle.std.proofs.lemmas.Bool.{cases_eq}
use Rattle.std.proofs.lemmas.Option.{same_Some, slice_get_within}
use Rattle.usb_model.specs.declared.endpoint.EndpointState.{EndpointState}
use Rattle.usb_model.specs.declared.endpoint.EndpointState.TheVariants.{Halted, Running, Stopped}
use Rattle.usb_model.specs.declared.response.Response.{Response}
use Rattle.usb_model.specs.Endpoint.Status.{halts}
use Rattle.usb_model.specs.Setup.{endpoint_id}
use Rattle.usb_trb.specs.declared.kind.TrbKind.{TrbKind}
use Rattle.usb_trb.specs.declared.kind.TrbKind.TheVariants.{CommandCompletion, Link, NoOp, Normal, ResetEndpoint, SetDequeue, StopEndpoint, TransferEvent}
use Rattle.usb_device.specs.Pipe.{answer_of, pipe_at, rewound}
use Rattle.usb_xhc.specs.declared.trb_at.TrbAt.{TrbAt}
use Rattle.usb_xhc.specs.Commands.{before, carried, move_in, moved_at, reset_in, stop_in}
use Rattle.usb_xhc.specs.Posts.{posted_all}
use Rattle.usb_xhc.specs.Context.{Context, gone_on, gone_past}
use Rattle.usb_xhc.specs.Transaction.{Served, packet_in, served, served_by, served_gone, working}
use Rattle.usb_xhc.specs.Controller.{Controller, Run, carried_at, endpoint_in, run_of, served_at, slot_changed}
use Rattle.usb_xhc.specs.Slots.{DeviceSlot, as_made, changed, context_by, context_of, events_after, order_events, renewed, serving_at, slot_after}
use Rattle.refine_rings.proofs.Lookups.{get_set, get_set_other}

-- of an endpoint
abbrev pub ringed : Context → ℕ × List (List TrbKind)
ringed x = (x.size, x.ring.line.items)

-- the endpoint of this id
abbrev pub ring_in : Controller → ℕ → ℕ → Option Context
ring_in k d id = option_and_then (λ s. context_by s id) (slice_get k.slots d)

abbrev pub ringed_in : Controller → ℕ → ℕ → Option (ℕ × List (List TrbKind))
ringed_in k d id = option_map ringed (ring_in k d id)

-- all are as they were
abbrev pub SameRings : Controller → Controller → Type 0
SameRings k new = (d id : ℕ) → ringed_in new d id ≡ ringed_in k d id

-- so also for another controller that is the same
pub rings_as : (k amid new : Controller) → SameRings k amid → new ≡ amid → SameRings k new
rings_as k amid new same is d id = ap (λ (v : Controller). ringed_in v d id) is ∙ same d id

-- of a slot: all are as they were
abbrev pub SameIn : DeviceSlot → DeviceSlot → Type 0
SameIn s t = (id : ℕ) → option_map ringed (context_by t id) ≡ option_map ringed (context_by s id)

-- one slot is another
pub rings_put : (k new : Controller) (d : ℕ) (s t : DeviceSlot) → slice_get k.slots d ≡ Some s → new.slots ≡ slice_set k.slots d t → SameIn s t → SameRings k new
rings_put k new d s t there put same dev id = by_device (cases_eq dev d)
  where
    at : slice_get new.slots d ≡ Some t
    at = ap (λ (l : List DeviceSlot). slice_get l d) put ∙ get_set k.slots d t (slice_get_within k.slots d s there)

    by_device : (dev ≡ d) ⊎ (dev ≡ d → ⊥) → ringed_in new dev id ≡ ringed_in k dev id
    by_device (inl is) = subst (λ (n : ℕ). ringed_in new n id ≡ ringed_in k n id) (sym is)
        (ap (λ (o : Option DeviceSlot). option_map ringed (option_and_then (λ v. context_by v id) o)) at ∙ same id ∙ ap (λ (o : Option DeviceSlot). option_map ringed (option_and_then (λ v. context_by v id) o)) (sym there))
    by_device (inr other) =
        ap (λ (o : Option DeviceSlot). option_map ringed (option_and_then (λ v. context_by v id) o)) (ap (λ (l : List DeviceSlot). slice_get l dev) put ∙ get_set_other k.slots d dev t other)

-- a slot is changed
pub rings_changed : (k : Controller) (d : ℕ) (g : DeviceSlot → DeviceSlot) → ((s : DeviceSlot) → slice_get k.slots d ≡ Some s → SameIn s (g s)) → SameRings k (slot_changed k d g)
rings_changed k d g same = by_slot (slice_get k.slots d) refl
  where
    by_slot : (o : Option DeviceSlot) → slice_get k.slots d ≡ o → SameRings k (option_map_or (λ s. record k { slots = slice_set k.slots d (g s) }) o k)
    by_slot None none = λ dev id. refl
    by_slot (Some s) there = rings_put k (record k { slots = slice_set k.slots d (g s) }) d s (g s) there refl (same s there)

-- one endpoint is another of the same
pub set_same_ring : (xs : List (Option Context)) (i j : ℕ) (x y : Context) → slice_index_or xs i None ≡ Some x → ringed y ≡ ringed x → option_map ringed (slice_index_or (slice_set xs i (Some y)) j None) ≡ option_map ringed (slice_index_or xs j None)
set_same_ring [] i j x y there same = refl
set_same_ring (z ∷ zs) zero zero x y there same = ap (λ r. Some r) same ∙ sym (ap (option_map ringed) there)
set_same_ring (z ∷ zs) zero (suc j) x y there same = refl
set_same_ring (z ∷ zs) (suc i) zero x y there same = refl
set_same_ring (z ∷ zs) (suc i) (suc j) x y there same = set_same_ring zs i j x y there same

-- an endpoint of a slot is changed, but not in this
pub same_changed : (s : DeviceSlot) (id : ℕ) (f : Context → Context) → ((x : Context) → context_by s id ≡ Some x → ringed (f x) ≡ ringed x) → SameIn s (changed s id f)
same_changed s id f same = by_context (context_by s id) refl
  where
    by_context : (o : Option Context) → context_by s id ≡ o → SameIn s (option_map_or (λ c. record s { contexts = slice_set s.contexts id (Some (f c)) }) o s)
    by_context None none = λ j. refl
    by_context (Some x) there = λ j. set_same_ring s.contexts id j x (f x) there (same x there)

-- what was set where something was is there
set_found : (xs : List (Option Context)) (i : ℕ) (x : Context) (y : Option Context) → slice_index_or xs i None ≡ Some x → slice_index_or (slice_set xs i y) i None ≡ y
set_found [] i x y there = absurd cc
set_found (z ∷ zs) zero x y there = refl
set_found (z ∷ zs) (suc i) x y there = set_found zs i x y there

set_beside : (xs : List (Option Context)) (i j : ℕ) (y : Option Context) → (j ≡ i → ⊥) → slice_index_or (slice_set xs i y) j None ≡ slice_index_or xs j None
set_beside [] i j y other = refl
set_beside (z ∷ zs) zero zero y other = absurd (other refl)
set_beside (z ∷ zs) zero (suc j) y other = refl
set_beside (z ∷ zs) (suc i) zero y other = refl
set_beside (z ∷ zs) (suc i) (suc j) y other = set_beside zs i j y (λ h. other (ap suc h))

-- an endpoint that was changed is there
pub changed_here : (k : Controller) (d id : ℕ) (f : Context → Context) → ring_in (slot_changed k d (λ s. changed s id f)) d id ≡ option_map f (ring_in k d id)
changed_here k d id f = by_slot (slice_get k.slots d) refl
  where
    of_slot : (s : DeviceSlot) → context_by (changed s id f) id ≡ option_map f (context_by s id)
    of_slot s = by_context (context_by s id) refl
      where
        by_context : (o : Option Context) → context_by s id ≡ o → context_by (option_map_or (λ c. record s { contexts = slice_set s.contexts id (Some (f c)) }) o s) id ≡ option_map f o
        by_context None none = none
        by_context (Some x) there = set_found s.contexts id x (Some (f x)) there

    by_slot : (o : Option DeviceSlot) → slice_get k.slots d ≡ o
        → ring_in (option_map_or (λ s. record k { slots = slice_set k.slots d (changed s id f) }) o k) d id ≡ option_map f (option_and_then (λ s. context_by s id) o)
    by_slot None none = ap (λ (o : Option DeviceSlot). option_and_then (λ s. context_by s id) o) none
    by_slot (Some s) there = ap (λ (o : Option DeviceSlot). option_and_then (λ v. context_by v id) o) (get_set k.slots d (changed s id f) (slice_get_within k.slots d s there)) ∙ of_slot s

-- the others stay
pub changed_other : (k : Controller) (d id : ℕ) (f : Context → Context) (dev j : ℕ) → ((dev ≡ d) × (j ≡ id) → ⊥) → ring_in (slot_changed k d (λ s. changed s id f)) dev j ≡ ring_in k dev j
changed_other k d id f dev j other = by_slot (slice_get k.slots d) refl
  where
    of_slot : (s : DeviceSlot) → (j ≡ id → ⊥) → context_by (changed s id f) j ≡ context_by s j
    of_slot s apart = by_context (context_by s id)
      where
        by_context : (o : Option Context) → context_by (option_map_or (λ c. record s { contexts = slice_set s.contexts id (Some (f c)) }) o s) j ≡ context_by s j
        by_context None = refl
        by_context (Some x) = set_beside s.contexts id j (Some (f x)) apart

    by_slot : (o : Option DeviceSlot) → slice_get k.slots d ≡ o → ring_in (option_map_or (λ s. record k { slots = slice_set k.slots d (changed s id f) }) o k) dev j ≡ ring_in k dev j
    by_slot None none = refl
    by_slot (Some s) there = by_device (cases_eq dev d)
      where
        by_device : (dev ≡ d) ⊎ (dev ≡ d → ⊥) → ring_in (record k { slots = slice_set k.slots d (changed s id f) }) dev j ≡ ring_in k dev j
        by_device (inl is) = subst (λ (n : ℕ). ring_in (record k { slots = slice_set k.slots d (changed s id f) }) n j ≡ ring_in k n j) (sym is)
            (ap (λ (o : Option DeviceSlot). option_and_then (λ v. context_by v j) o) (get_set k.slots d (changed s id f) (slice_get_within k.slots d s there)) ∙ of_slot s (λ same. other (is, same))
            ∙ ap (λ (o : Option DeviceSlot). option_and_then (λ v. context_by v j) o) (sym there))
        by_device (inr apart) = ap (λ (o : Option DeviceSlot). option_and_then (λ v. context_by v j) o) (get_set_other k.slots d dev (changed s id f) apart)

-- a packet
served_ringed : (c : Context) (a : Response) → ringed (served c a).context ≡ ringed c
unfolding served
served_ringed c a = by_code (packet_in c a).code
  where
    by_code : (o : Option ℕ) → ringed (served_by c a (packet_in c a) o).context ≡ ringed c
    by_code None = refl
    by_code (Some code) = by_test (halts code)
      where
        by_test : (b : Bool) → ringed (if b then record (gone_on c (packet_in c a).bytes) { state = Halted } else gone_past c) ≡ ringed c
        by_test true = refl
        by_test false = refl

-- of a gone device
gone_ringed : (c : Context) → ringed (served_gone c).context ≡ ringed c
unfolding served_gone
gone_ringed c = refl

-- in any case
serving_ringed : (gone : Bool) (c : Context) (a : Response) (o : Option TrbAt) (x : Served) → serving_at gone c a o ≡ Some x → ringed x.context ≡ ringed c
serving_ringed gone c a None x is = absurd cc
serving_ringed true c a (Some first) x is = ap (λ (v : Served). ringed v.context) (sym (same_Some (served_gone c) x is)) ∙ gone_ringed c
serving_ringed false c a (Some first) x is = ap (λ (v : Served). ringed v.context) (sym (same_Some (served c a) x is)) ∙ served_ringed c a

-- the slot behind a packet
after_ringed : (s : DeviceSlot) (e : ℕ) (out : Option (List ℕ)) → SameIn s (slot_after s e out)
after_ringed s e out j = by_context (context_of s e) refl
  where
    by_context : (o : Option Context) → context_of s e ≡ o
        → option_map ringed (slice_index_or (option_map_or (λ x. slice_set s.contexts (endpoint_id e) (Some x.context)) (option_and_then (λ c. serving_at s.gone c (answer_of (pipe_at s.pipes e)) (working c)) o) s.contexts) j None) ≡ option_map ringed (context_by s j)
    by_context None none = refl
    by_context (Some c) there = by_served (serving_at s.gone c (answer_of (pipe_at s.pipes e)) (working c)) (λ x is. serving_ringed s.gone c (answer_of (pipe_at s.pipes e)) (working c) x is)
      where
        by_served : (o : Option Served) → ((x : Served) → o ≡ Some x → ringed x.context ≡ ringed c) → option_map ringed (slice_index_or (option_map_or (λ x. slice_set s.contexts (endpoint_id e) (Some x.context)) o s.contexts) j None) ≡ option_map ringed (context_by s j)
        by_served None same = refl
        by_served (Some x) same = set_same_ring s.contexts (endpoint_id e) j c x.context there (same x refl)

-- the controller behind it
pub rings_served : (k : Controller) (d e : ℕ) (out : DeviceSlot → Option (List ℕ)) → SameRings k (served_at k d e out)
rings_served k d e out = by_slot (slice_get k.slots d) refl
  where
    by_slot : (o : Option DeviceSlot) → slice_get k.slots d ≡ o → SameRings k (option_map_or (λ s. record k { slots = slice_set k.slots d (slot_after s e (out s)); events = events_after s e k.events }) o k)
    by_slot None none = λ dev id. refl
    by_slot (Some s) there = rings_put k (record k { slots = slice_set k.slots d (slot_after s e (out s)); events = events_after s e k.events }) d s (slot_after s e (out s)) there refl (after_ringed s e (out s))

-- an order
carried_ringed : (order : TrbKind) (c : Context) → ringed (carried order c).context ≡ ringed c
unfolding carried
carried_ringed (StopEndpoint slot id) c = by_state c.state
  where
    by_state : (s : EndpointState) → ringed (stop_in c s).context ≡ ringed c
    by_state Running = refl
    by_state Stopped = refl
    by_state Halted = refl
carried_ringed (ResetEndpoint slot id) c = by_state c.state
  where
    by_state : (s : EndpointState) → ringed (reset_in c s).context ≡ ringed c
    by_state Running = refl
    by_state Stopped = refl
    by_state Halted = refl
carried_ringed (SetDequeue pointer state slot id) c = by_state c.state
  where
    by_place : (o : Option ℕ) → ringed (moved_at c o).context ≡ ringed c
    by_place None = refl
    by_place (Some n) = refl

    by_state : (s : EndpointState) → ringed (move_in c pointer s).context ≡ ringed c
    by_state Running = refl
    by_state Stopped = by_place (before c.ring.line pointer)
    by_state Halted = refl
carried_ringed (Normal t) c = refl
carried_ringed (Link segment toggle chain) c = refl
carried_ringed NoOp c = refl
carried_ringed (TransferEvent pointer residual code slot id) c = refl
carried_ringed (CommandCompletion pointer code slot) c = refl

-- the controller behind it
rings_carried : (k : Controller) (order : TrbKind) → SameRings k (carried_at k order)
rings_carried k order = by_order (endpoint_in order)
  where
    by_order : (at : Option (ℕ × ℕ)) → SameRings k (option_map_or (λ at. option_map_or (λ s. record k {
      slots = slice_set k.slots (at.0 - 1) (changed s at.1 (λ c. (carried order c).context));
      events = posted_all 4096 k.events (order_events s at.1 order);
    }) (slice_get k.slots (at.0 - 1)) k) at k)
    by_order None = λ dev id. refl
    by_order (Some at) = by_slot (slice_get k.slots (at.0 - 1)) refl
      where
        by_slot : (o : Option DeviceSlot) → slice_get k.slots (at.0 - 1) ≡ o → SameRings k (option_map_or (λ s. record k {
          slots = slice_set k.slots (at.0 - 1) (changed s at.1 (λ c. (carried order c).context));
          events = posted_all 4096 k.events (order_events s at.1 order);
        }) o k)
        by_slot None none = λ dev id. refl
        by_slot (Some s) there = rings_put k (record k {
          slots = slice_set k.slots (at.0 - 1) (changed s at.1 (λ c. (carried order c).context));
          events = posted_all 4096 k.events (order_events s at.1 order);
        }) (at.0 - 1) s (changed s at.1 (λ c. (carried order c).context)) there refl (same_changed s at.1 (λ c. (carried order c).context) (λ x is. carried_ringed order x))

-- the oldest order is carried out
pub rings_run : (k : Controller) (waits : List TrbKind) (r : Run) → run_of k waits ≡ Some r → SameRings k r.controller
rings_run k [] r is = absurd cc
rings_run k (order ∷ rest) r is = λ d id. ap (λ (x : Run). ringed_in x.controller d id) (sym (same_Some _ r is)) ∙ rings_carried k order d id

-- no item is in the ring of this endpoint
abbrev pub IsBare : Controller → ℕ → ℕ → Type 0
IsBare k d id = (r : ℕ × List (List TrbKind)) → ringed_in k d id ≡ Some r → r.1 ≡ []

-- it is made new
pub rings_renewed : (k : Controller) (d e : ℕ) → IsBare k d (endpoint_id e) → SameRings k (slot_changed k d (λ s. renewed s e))
rings_renewed k d e bare = rings_changed k d (λ s. renewed s e) of_slot
  where
    of_slot : (s : DeviceSlot) → slice_get k.slots d ≡ Some s → SameIn s (renewed s e)
    of_slot s there j = by_context (context_of s e) refl
      where
        by_context : (o : Option Context) → context_of s e ≡ o → option_map ringed (context_by (option_map_or (λ c. record s {
          pipes = slice_set s.pipes (endpoint_id e) (rewound (pipe_at s.pipes e));
          contexts = slice_set s.contexts (endpoint_id e) (Some (as_made c));
        }) o s) j) ≡ option_map ringed (context_by s j)
        by_context None none = refl
        by_context (Some c) is = set_same_ring s.contexts (endpoint_id e) j c (as_made c) is (ap (λ (l : List (List TrbKind)). (c.size, l))
            (sym (bare (ringed c) (ap (λ (o : Option DeviceSlot). option_map ringed (option_and_then (λ v. context_by v (endpoint_id e)) o)) there ∙ ap (option_map ringed) is))))
