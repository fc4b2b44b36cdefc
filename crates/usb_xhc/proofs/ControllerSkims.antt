-- Whole packets in a row at a controller's device: each leaves all but the device's slot, and is told with the size of its endpoint's packets.
use Rattle.std.proofs.Common.{◌≡◌, ℕ, zero, suc, ◌<◌, ◌≤◌, refl, ap, sym, subst, ◌∙◌, arith, List, [], ◌∷◌, length, Some, None, true, false, Bool, if◌then◌else◌}
use Rattle.std.specs.Prelude.{Option, option_map, slice_get, slice_index_or, slice_set}
use Rattle.std.specs.Option.{option_and_then, option_map_or}
use Rattle.std.proofs.lemmas.Option.{slice_get_read}
use Rattle.usb_model.specs.declared.response.Response.{Response}
use Rattle.usb_model.specs.Endpoint.Status.{halts}
use Rattle.usb_model.specs.declared.endpoint.EndpointState.TheVariants.{Halted}
use Rattle.usb_model.specs.Setup.{endpoint_id}
use Rattle.usb_rings.specs.Ring.{Ring}
use Rattle.usb_model.specs.Packets.{Packet}
use Rattle.usb_device.specs.Pipe.{answer_of, pipe_at}
use Rattle.usb_xhc.specs.declared.packet.PacketResult.{PacketResult as Told}
use Rattle.usb_xhc.specs.declared.packet.PacketResult.TheVariants.{Moved}
use Rattle.usb_xhc.specs.declared.trb_at.TrbAt.{TrbAt}
use Rattle.usb_xhc.specs.Context.{Context, gone_on, gone_past}
use Rattle.usb_xhc.specs.Posts.{posted_all}
use Rattle.usb_xhc.specs.Transaction.{Served, packet_in, served, served_by, served_gone, working}
use Rattle.usb_xhc.specs.Slots.{DeviceSlot, context_of, events_after, read_after, serving, serving_at, slot_after}
use Rattle.usb_xhc.specs.Controller.{Controller, served_at, told_at}
use Rattle.usb_xhc.specs.Skims.{AreWhole, MovesWhole, controller_read, controller_skimmed, read_skimmed, size_at, slot_skimmed}
use Rattle.usb_xhc.proofs.SlotSkims.{context-put, none_sent, put-again}

-- a packet leaves the size of an endpoint's packets
size-served : (c : Context) (a : Response) → (served c a).context.size ≡ c.size
unfolding served
size-served c a = by_code (packet_in c a) (packet_in c a).code
  where
    by_end : (p : Packet) (b : Bool) → (if b then record (gone_on c p.bytes) { state = Halted } else gone_past c).size ≡ c.size
    by_end p true = refl
    by_end p false = refl

    by_code : (p : Packet) (o : Option ℕ) → (served_by c a p o).context.size ≡ c.size
    by_code p None = refl
    by_code p (Some code) = by_end p (halts code)

-- nor does the end at a gone device change it
size-served_gone : (c : Context) → (served_gone c).context.size ≡ c.size
unfolding served_gone
size-served_gone c = refl

-- so whatever is served leaves it
size-serving : (gone : Bool) (c : Context) (a : Response) (o : Option TrbAt) (v : Served) → serving_at gone c a o ≡ Some v → v.context.size ≡ c.size
size-serving gone c a None v h = absurd cc
size-serving true c a (Some f) v h =
    let same : served_gone c ≡ v = cc in
    ap (λ (x : Served). x.context.size) (sym same) ∙ size-served_gone c
size-serving false c a (Some f) v h =
    let same : served c a ≡ v = cc in
    ap (λ (x : Served). x.context.size) (sym same) ∙ size-served c a

-- the endpoint behind a whole packet has packets of the same size
size-stays : (s : DeviceSlot) (ep : ℕ) (c : Context) (v : Served) (out : Option (List ℕ)) → context_of s ep ≡ Some c → serving s ep ≡ Some v
    → (context_of (slot_after s ep out) ep ≡ Some v.context) × (v.context.size ≡ c.size)
size-stays s ep c v out at serves = (
  ap (λ (o : Option Served). slice_index_or (option_map_or (λ x. slice_set s.contexts (endpoint_id ep) (Some x.context)) o s.contexts) (endpoint_id ep) None) serves
      ∙ context-put s.contexts (endpoint_id ep) c v.context at,
  size-serving s.gone c (answer_of (pipe_at s.pipes ep)) (working c) v
      (sym (ap (option_and_then (λ (x : Context). serving_at s.gone x (answer_of (pipe_at s.pipes ep)) (working x))) at) ∙ serves),
)

-- what is there is one
same-some : {X : Type 0} (x y : X) → Some x ≡ Some y → x ≡ y
same-some x y h = cc

-- each of those in a row has the size of the first's
size-skimmed : (out : DeviceSlot → Option (List ℕ)) (ep k : ℕ) (s : DeviceSlot) (c : Context) → AreWhole out ep k s → context_of s ep ≡ Some c
    → (i : ℕ) → i ≤ k → (d : Context) × (context_of (slot_skimmed out ep i s) ep ≡ Some d) × (d.size ≡ c.size)
unfolding slot_skimmed
size-skimmed out ep k s c whole at zero few = (c, at, refl)
size-skimmed out ep k s c whole at (suc i) few = more (size-skimmed out ep k s c whole at i (omega (arith, few))) (whole i (omega (arith, few)))
  where
    more : ((d : Context) × (context_of (slot_skimmed out ep i s) ep ≡ Some d) × (d.size ≡ c.size)) → MovesWhole (slot_skimmed out ep i s) ep
        → (d : Context) × (context_of (slot_after (slot_skimmed out ep i s) ep (out (slot_skimmed out ep i s))) ep ≡ Some d) × (d.size ≡ c.size)
    more before moves =
        let after = size-stays (slot_skimmed out ep i s) ep before.0 moves.1 (out (slot_skimmed out ep i s)) before.1 moves.3 in
        (moves.1.context, after.0, after.1 ∙ before.2)

-- what stands at a place of the slots
slot-put : (xs : List DeviceSlot) (i : ℕ) (s x : DeviceSlot) → slice_get xs i ≡ Some s → slice_get (slice_set xs i x) i ≡ Some x
slot-put [] i s x h = absurd cc
slot-put (y ∷ xs) zero s x h = refl
slot-put (y ∷ xs) (suc i) s x h = slot-put xs i s x h

-- a slot that is put where it stands changes nothing
slot-same : (xs : List DeviceSlot) (i : ℕ) (s : DeviceSlot) → slice_get xs i ≡ Some s → slice_set xs i s ≡ xs
slot-same [] i s h = refl
slot-same (y ∷ xs) zero s h = ap (λ (z : DeviceSlot). z ∷ xs) (sym (same-some y s h))
slot-same (y ∷ xs) (suc i) s h = ap (λ (ys : List DeviceSlot). y ∷ ys) (slot-same xs i s h)

-- the controller with another slot at a device
abbrev pub with_slot : Controller → (dev : ℕ) → DeviceSlot → Controller
with_slot v dev s = record v { slots = slice_set v.slots dev s }

-- one whole packet: no event is posted
served-whole : (v : Controller) (dev ep : ℕ) (out : DeviceSlot → Option (List ℕ)) (s : DeviceSlot) → slice_get v.slots dev ≡ Some s → MovesWhole s ep → served_at v dev ep out ≡ with_slot v dev (slot_after s ep (out s))
served-whole v dev ep out s at moves =
    ap (λ (o : Option DeviceSlot). option_map_or (λ x. record v { slots = slice_set v.slots dev (slot_after x ep (out x)); events = events_after x ep v.events }) o v) at
    ∙ ap (λ (r : Ring). record v { slots = slice_set v.slots dev (slot_after s ep (out s)); events = r }) none
  where
    none : events_after s ep v.events ≡ v.events
    none =
        ap (λ (o : Option Served). option_map_or (λ x. posted_all 4096 v.events x.events) o v.events) moves.3
        ∙ ap (posted_all 4096 v.events) moves.5

-- so many of them
pub skimmed-at : (v : Controller) (dev ep : ℕ) (out : DeviceSlot → Option (List ℕ)) (k : ℕ) (s : DeviceSlot) → slice_get v.slots dev ≡ Some s → AreWhole out ep k s
    → (i : ℕ) → i ≤ k → controller_skimmed dev ep out i v ≡ with_slot v dev (slot_skimmed out ep i s)
unfolding controller_skimmed slot_skimmed
skimmed-at v dev ep out k s at whole zero few = ap (λ (xs : List DeviceSlot). record v { slots = xs }) (sym (slot-same v.slots dev s at))
skimmed-at v dev ep out k s at whole (suc i) few =
    ap (λ (x : Controller). served_at x dev ep out) (skimmed-at v dev ep out k s at whole i (omega (arith, few)))
    ∙ served-whole (with_slot v dev (slot_skimmed out ep i s)) dev ep out (slot_skimmed out ep i s) (slot-put v.slots dev s (slot_skimmed out ep i s) at) (whole i (omega (arith, few)))
    ∙ ap (λ (xs : List DeviceSlot). record v { slots = xs }) (put-again v.slots dev (slot_skimmed out ep i s) (slot_after (slot_skimmed out ep i s) ep (out (slot_skimmed out ep i s))))

-- and what is told of each
pub skimmed-told : (v : Controller) (dev ep : ℕ) (out : DeviceSlot → Option (List ℕ)) (k : ℕ) (s : DeviceSlot) → slice_get v.slots dev ≡ Some s → AreWhole out ep k s
    → (i : ℕ) → i < k → told_at (controller_skimmed dev ep out i v) dev ep ≡ Some (Moved (size_at v dev ep))
unfolding slot_skimmed
skimmed-told v dev ep out k s at whole i before =
    ap (λ (x : Controller). told_at x dev ep) (skimmed-at v dev ep out k s at whole i (omega (arith, before)))
    ∙ ap (option_and_then (λ (x : DeviceSlot). option_map (λ y. y.packet) (serving x ep))) (slot-put v.slots dev s (slot_skimmed out ep i s) at)
    ∙ ap (option_map (λ (y : Served). y.packet)) (whole i before).3
    ∙ ap (λ (p : Told). Some p) ((whole i before).4 ∙ ap (λ (n : ℕ). Moved n) (same_size ∙ named))
  where
    first : (d : Context) × (context_of s ep ≡ Some d) × (d.size ≡ (whole 0 (omega (arith, before))).0.size)
    first = ((whole 0 (omega (arith, before))).0, (whole 0 (omega (arith, before))).2, refl)

    now : (d : Context) × (context_of (slot_skimmed out ep i s) ep ≡ Some d) × (d.size ≡ first.0.size)
    now = size-skimmed out ep k s first.0 whole first.1 i (omega (arith, before))

    same_size : (whole i before).0.size ≡ first.0.size
    same_size = ap (λ (c : Context). c.size) (same-some (whole i before).0 now.0 (sym (whole i before).2 ∙ now.1)) ∙ now.2

    named : first.0.size ≡ size_at v dev ep
    named =
        sym (ap (λ (o : Option DeviceSlot). option_map_or (λ (c : Context). c.size) (option_and_then (λ (x : DeviceSlot). context_of x ep) o) 0) at
        ∙ ap (λ (o : Option Context). option_map_or (λ (c : Context). c.size) o 0) first.1)

-- what was read of the slots stands there
pub slot-read : (xs : List DeviceSlot) (i dev : ℕ) (s : DeviceSlot) → i ≡ dev → i < length xs → s ≡ slice_index_or xs i s → slice_get xs dev ≡ Some s
slot-read xs i dev s index lt value = ap (slice_get xs) (sym index) ∙ slice_get_read xs (length xs) i s refl lt value

-- the controller as it is left, where its slot is
pub left-at : (r v : Controller) (dev ep i : ℕ) (out : DeviceSlot → Option (List ℕ)) (k : ℕ) (s t : DeviceSlot) → r ≡ v → slice_get r.slots dev ≡ Some s → i ≡ dev → AreWhole out ep k s → t ≡ slot_skimmed out ep k s
    → with_slot r i t ≡ controller_skimmed dev ep out k v
left-at r v dev ep i out k s t same at index whole slot =
    ap (λ (n : ℕ). with_slot r n t) index
    ∙ ap (with_slot r dev) slot
    ∙ sym (skimmed-at r dev ep out k s at whole k (omega arith))
    ∙ ap (controller_skimmed dev ep out k) same

-- what is told of each packet
pub told-each : (r v : Controller) (dev ep : ℕ) (out : DeviceSlot → Option (List ℕ)) (k : ℕ) (s : DeviceSlot) → r ≡ v → slice_get r.slots dev ≡ Some s → AreWhole out ep k s
    → (i : ℕ) → i < k → told_at (controller_skimmed dev ep out i v) dev ep ≡ Some (Moved (size_at v dev ep))
told-each r v dev ep out k s same at whole i before =
    subst (λ (x : Controller). told_at (controller_skimmed dev ep out i x) dev ep ≡ Some (Moved (size_at x dev ep))) same (skimmed-told r dev ep out k s at whole i before)

-- the bytes behind so many of them
read-at : (v : Controller) (dev ep k : ℕ) (s : DeviceSlot) (bytes : List ℕ) → slice_get v.slots dev ≡ Some s → AreWhole none_sent ep k s → (i : ℕ) → i ≤ k → controller_read dev ep i v bytes ≡ read_skimmed ep i s bytes
unfolding controller_read read_skimmed
read-at v dev ep k s bytes at whole zero few = refl
read-at v dev ep k s bytes at whole (suc i) few =
    ap (λ (x : Controller). option_map_or (λ (y : DeviceSlot). read_after y ep (controller_read dev ep i v bytes)) (slice_get x.slots dev) (controller_read dev ep i v bytes)) (skimmed-at v dev ep none_sent k s at whole i (omega (arith, few)))
    ∙ ap (λ (o : Option DeviceSlot). option_map_or (λ (y : DeviceSlot). read_after y ep (controller_read dev ep i v bytes)) o (controller_read dev ep i v bytes)) (slot-put v.slots dev s (slot_skimmed none_sent ep i s) at)
    ∙ ap (read_after (slot_skimmed none_sent ep i s) ep) (read-at v dev ep k s bytes at whole i (omega (arith, few)))

-- so the bytes that a slot gave are those of the controller
pub read-each : (r v : Controller) (dev ep k : ℕ) (s : DeviceSlot) (bytes new : List ℕ) → r ≡ v → slice_get r.slots dev ≡ Some s → AreWhole none_sent ep k s → new ≡ read_skimmed ep k s bytes → new ≡ controller_read dev ep k v bytes
read-each r v dev ep k s bytes new same at whole read =
    read ∙ sym (read-at r dev ep k s bytes at whole k (omega arith)) ∙ ap (λ (x : Controller). controller_read dev ep k x bytes) same
