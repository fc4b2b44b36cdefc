-- The event ring and the command ring.
use Rattle.std.proofs.Common.{◌≡◌, ℕ, suc, ◌+◌, ◌-◌, ◌*◌, ◌%◌, ◌<◌, refl, ap, ap₂, sym, ◌∙◌, arith, List, [], ◌∷◌, ◌++◌, length, map, drop, append-nil, append_assoc}
use Rattle.std.proofs.lemmas.List.{map-append}
use Rattle.usb_model.specs.Setup.{endpoint_id}
use Rattle.usb_trb.specs.declared.kind.TrbKind.{TrbKind}
use Rattle.usb_rings.specs.Places.{address_of, index_of}
use Rattle.usb_model.specs.Kept.{Completion, Telling, Transfer}
use Rattle.usb_rings.specs.Ring.{Ring}
use Rattle.usb_xhc.specs.Context.{Context}
use Rattle.usb_xhc.specs.Posts.{posted_all, posted_one}
use Rattle.usb_xhc.specs.Controller.{order_address}
use Rattle.refine_rings.specs.Reports.{event_in, event_of}
use Rattle.refine_world.specs.Shows.{RingEvent, event_at, order_at}
use Rattle.refine_rings.specs.Holds.{event_trb, ring_at}
use Rattle.refine_rings.specs.Laws.{PostsCore, TakesCore}
use Rattle.refine_rings.proofs.Orders.{orders_more}

-- what is posted waits behind the others
pub all_wait : (width : ℕ) (r : Ring) (ks : List TrbKind) → (posted_all width r ks).waits ≡ r.waits ++ ks
all_wait width r [] = sym (append-nil r.waits)
all_wait width r (k ∷ ks) = all_wait width (posted_one width r k) ks ∙ append_assoc r.waits (k ∷ []) ks

-- an event of an endpoint with a ring, as the event ring has it
told_in : (d e commands : ℕ) (t : Telling) → event_in (suc d) (endpoint_id e) (ring_at d e) commands t ≡ event_trb commands (event_at d e t)
told_in d e commands (Transfer place residual code) = refl
told_in d e commands (Completion index code) = refl

-- so all that is told of it
pub told_at_ring : (d e commands : ℕ) (c : Context) (ts : List Telling) → c.slot ≡ suc d → c.id ≡ endpoint_id e → c.ring.line.base ≡ ring_at d e
    → map (event_of commands c) ts ≡ map (event_trb commands) (map (event_at d e) ts)
told_at_ring d e commands c [] slot id base = refl
told_at_ring d e commands c (t ∷ ts) slot id base =
    let first : event_of commands c t ≡ event_trb commands (event_at d e t) =
    ap (λ (n : ℕ). event_in n c.id c.ring.line.base commands t) slot
    ∙ (ap₂ (λ (n base : ℕ). event_in (suc d) n base commands t) id base
    ∙ told_in d e commands t) in
    ap₂ (λ (k : TrbKind) (ks : List TrbKind). k ∷ ks) first (told_at_ring d e commands c ts slot id base)

-- more events behind those that wait
pub told_more : (commands : ℕ) (waits added : List TrbKind) (events new : List RingEvent) → waits ≡ map (event_trb commands) events → added ≡ map (event_trb commands) new → waits ++ added ≡ map (event_trb commands) (events ++ new)
told_more commands waits added events new old now = ap₂ (λ (xs ys : List TrbKind). xs ++ ys) old now ∙ sym (map-append (event_trb commands) events new)

-- the oldest order's place, by how many were posted and how many wait
pub oldest_place : (r : Ring) (place posted : ℕ) → r.posted ≡ posted % 510 → place + length r.waits ≡ posted → length r.waits < 255 → order_address r ≡ address_of 255 r.memory.base place
oldest_place r place posted count last few =
    let same : (r.posted + 510 - length r.waits) % 510 % 255 ≡ place % 255 = omega (arith, count, last, few) in
    ap (λ (n : ℕ). r.memory.base + 16 * n) same

-- an order joins the others
pub posts : PostsCore
posts setup k gone endpoints orders events posted d e o t is order = (
  index,
  record {
    slots = is.slots;
    each = is.each;
    ordered = orders_more endpoints orders k.commands.waits (order_at d e (record { errand = o; index = posted })) t is.ordered order;
    told = is.told;
    count = next;
  },
)
  where
    index : index_of 255 k.commands.posted ≡ posted % 255
    index = omega (arith, is.count)

    next : (k.commands.posted + 1) % 510 ≡ suc posted % 510
    next = omega (arith, is.count)

-- the oldest event leaves
drop_first : (f : RingEvent → TrbKind) (events : List RingEvent) → drop 1 (map f events) ≡ map f (drop 1 events)
drop_first f [] = refl
drop_first f (x ∷ xs) = refl

-- the oldest event is taken
pub takes : TakesCore
takes setup k gone endpoints orders events posted is = record {
  slots = is.slots;
  each = is.each;
  ordered = is.ordered;
  told = ap (drop 1) is.told ∙ drop_first (event_trb k.commands.memory.base) events;
  count = is.count;
}
