-- The ring of an endpoint, in a controller that holds a core.
use Rattle.std.proofs.Common.{◌≡◌, ℕ, ap, sym, subst, ◌∙◌, Option, Some, None}
use Rattle.std.specs.Prelude.{slice_get}
use Rattle.std.specs.Option.{option_and_then}
use Rattle.usb_model.specs.Setup.{Setup, interface_of}
use Rattle.usb_device.specs.Pipe.{pipe_at}
use Rattle.usb_xhc.specs.Context.{Context}
use Rattle.usb_xhc.specs.Slots.{DeviceSlot, context_of}
use Rattle.usb_xhc.specs.Controller.{Controller}
use Rattle.refine_world.specs.Shows.{Core}
use Rattle.refine_rings.specs.Holds.{HasRing, HoldsCore, IsEnd, RingIs}
use Rattle.refine_rings.proofs.Slots.{slot_there}
use Rattle.refine_core.specs.State.{State}
use Rattle.refine_core.specs.Works.{IsAt, context_in}

-- an endpoint's slot, with what it holds there
pub record IsSlotOf (setup : Setup) (k : Controller) (c : Core) (d e : ℕ) (o : Option Context) : Type 0 where
  pub slot : DeviceSlot
  pub there : slice_get k.slots d ≡ Some slot
  pub context : context_of slot e ≡ o
  pub end : IsEnd setup slot d e (c.endpoints d e)
  pub ring : RingIs setup d e (pipe_at slot.pipes e) (c.endpoints d e) o

-- each endpoint of an interface has one
pub slot_of : (setup : Setup) (k : Controller) (c : Core) (d e i : ℕ) → HoldsCore setup k c → interface_of setup d e ≡ Some i → IsSlotOf setup k c d e (context_in k d e)
slot_of setup k c d e i held at =
    let found = slot_there setup k c.gone c.endpoints c.orders c.events c.posted d e i held at in
    let end : IsEnd setup found.0 d e (c.endpoints d e) = (held.each d found.0 found.1).ends e i at in
    let context : context_of found.0 e ≡ context_in k d e = sym (by_slot found.0 found.1) in
    record {
      slot = found.0;
      there = found.1;
      context = context;
      end = end;
      ring = subst (λ (o : Option Context). RingIs setup d e (pipe_at found.0.pipes e) (c.endpoints d e) o) context end.ring;
    }
  where
    by_slot : (s : DeviceSlot) → slice_get k.slots d ≡ Some s → context_in k d e ≡ context_of s e
    by_slot s there = ap (λ (o : Option DeviceSlot). option_and_then (λ x. context_of x e) o) there

-- and its ring, where it has one
pub ring_of : (setup : Setup) (k : Controller) (c : Core) (d e i : ℕ) (x : Context) → HoldsCore setup k c → interface_of setup d e ≡ Some i → context_in k d e ≡ Some x
    → (s : DeviceSlot) × (slice_get k.slots d ≡ Some s) × (context_of s e ≡ Some x) × HasRing setup d e (pipe_at s.pipes e) (c.endpoints d e) x
ring_of setup k c d e i x held at there =
    let is = slot_of setup k c d e i held at in
    (is.slot, is.there, is.context ∙ there, subst (λ (o : Option Context). RingIs setup d e (pipe_at is.slot.pipes e) (c.endpoints d e) o) there is.ring)

-- an endpoint without a ring has no errand
pub no_ring_errand : {P : Type 0} (setup : Setup) (s : State P) (c : Core) (h d e : ℕ) (slot : DeviceSlot) → IsAt setup s c h d e → slice_get s.controller.slots d ≡ Some slot → context_of slot e ≡ None → (c.endpoints d e).errand ≡ None
no_ring_errand setup s c h d e slot at there none =
    let end : IsEnd setup slot d e (c.endpoints d e) = (at.keeps.held.each d slot there).ends e at.interface at.there in
    let is : RingIs setup d e (pipe_at slot.pipes e) (c.endpoints d e) None = subst (λ (o : Option Context). RingIs setup d e (pipe_at slot.pipes e) (c.endpoints d e) o) none end.ring in
    is.errand
