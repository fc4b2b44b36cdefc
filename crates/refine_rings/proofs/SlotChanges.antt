-- A change at one endpoint's ring, where there is one.
use Rattle.std.proofs.Common.{◌≡◌, ℕ, refl, ap, sym, subst, ◌∙◌, arith, List, Some, None, Option, length-set, get_or-set_same, get_or-set_other}
use Rattle.std.specs.Prelude.{Bool, slice_get, slice_index_or, slice_set}
use Rattle.std.specs.Option.{option_map_or}
use Rattle.usb_model.specs.Setup.{Setup, endpoint_id, interface_of}
use Rattle.usb_model.specs.Kept.{KeptEndpoint}
use Rattle.usb_device.specs.Pipe.{Pipe, pipe_at}
use Rattle.usb_xhc.specs.Context.{Context}
use Rattle.usb_xhc.specs.Controller.{Controller, slot_changed}
use Rattle.usb_xhc.specs.Slots.{DeviceSlot, changed, context_of}
use Rattle.refine_rings.specs.Endpoint.{IsContext, IsPipe}
use Rattle.refine_world.specs.Shows.{RingEvent, RingOrder}
use Rattle.refine_rings.specs.Holds.{AllPosted, HasNone, HasRing, Holds, IsEnd, IsSlot, RingIs, with_end}
use Rattle.refine_rings.specs.Laws.{HasPlain}
use Rattle.refine_rings.proofs.Ids.{id-lt}
use Rattle.refine_rings.proofs.Slots.{IsBut, but_none, end_from, holds_with, slot_there}

-- the same endpoint of a device, with the same ring
pub record IsSame (c f : Context) : Type 0 where
  pub slot : f.slot ≡ c.slot
  pub id : f.id ≡ c.id
  pub size : f.size ≡ c.size
  pub base : f.ring.line.base ≡ c.ring.line.base

-- a ring that has another line
pub ring_with : (setup : Setup) (d e : ℕ) (p : Pipe) (b after : KeptEndpoint) (c f : Context) → HasRing setup d e p b c → IsContext f after → IsSame c f → HasRing setup d e p after f
ring_with setup d e p b after c f r is same = record {
  supported = r.supported;
  context = is;
  slot = same.slot ∙ r.slot;
  id = same.id ∙ r.id;
  size = same.size ∙ r.size;
  fits = omega (arith, r.fits, same.size);
  base = same.base ∙ r.base;
}

-- a slot with another context at this id
abbrev pub with_context : DeviceSlot → ℕ → Context → DeviceSlot
with_context s id f = record s { contexts = slice_set s.contexts id (Some f) }

-- the rest stays
pub but_context : (id : ℕ) (s : DeviceSlot) (f : Context) → IsBut id s (with_context s id f)
but_context id s f = record {
  contexts = length-set s.contexts id (Some f);
  pipes = refl;
  is_gone = refl;
  other_context = λ j other. get_or-set_other s.contexts id j (Some f) None other;
  other_pipe = λ j other. refl;
}

-- that context is there
pub context_set : (setup : Setup) (d e : ℕ) (s : DeviceSlot) (gone : ℕ → Bool) (endpoints : ℕ → ℕ → KeptEndpoint) (f : Context) → IsSlot setup d s gone endpoints
    → slice_index_or (slice_set s.contexts (endpoint_id e) (Some f)) (endpoint_id e) None ≡ Some f
context_set setup d e s gone endpoints f is = get_or-set_same s.contexts (endpoint_id e) (Some f) None (omega (arith, id-lt e, is.contexts))

-- a slot changed, by what stands in it
pub slot_changed_is : (k : Controller) (d : ℕ) (s : DeviceSlot) (f : DeviceSlot → DeviceSlot) → slice_get k.slots d ≡ Some s → slot_changed k d f ≡ record k { slots = slice_set k.slots d (f s) }
slot_changed_is k d s f there = ap (λ (o : Option DeviceSlot). option_map_or (λ (x : DeviceSlot). record k { slots = slice_set k.slots d (f x) }) o k) there

-- the slot with that change, by what stands at its endpoint
changed_is : (s : DeviceSlot) (e : ℕ) (f : Context → Context) (o : Option Context) → context_of s e ≡ o → changed s (endpoint_id e) f ≡ option_map_or (λ (c : Context). with_context s (endpoint_id e) (f c)) o s
changed_is s e f o there = ap (λ (x : Option Context). option_map_or (λ (c : Context). with_context s (endpoint_id e) (f c)) x s) there

-- the endpoint of a slot with another context
pub changed_end : (setup : Setup) (d e : ℕ) (s : DeviceSlot) (gone : ℕ → Bool) (endpoints : ℕ → ℕ → KeptEndpoint) (b : KeptEndpoint) (f : Context → Context)
    → IsSlot setup d s gone endpoints → IsEnd setup s d e (endpoints d e)
    → ((c : Context) → context_of s e ≡ Some c → HasRing setup d e (pipe_at s.pipes e) (endpoints d e) c → IsContext (f c) b × IsSame c (f c))
    → (context_of s e ≡ None → HasNone setup d e (pipe_at s.pipes e) (endpoints d e) → HasNone setup d e (pipe_at s.pipes e) b)
    → (IsPipe (pipe_at s.pipes e) (endpoints d e) → IsPipe (pipe_at s.pipes e) b)
    → IsBut (endpoint_id e) s (changed s (endpoint_id e) f) × IsEnd setup (changed s (endpoint_id e) f) d e b
changed_end setup d e s gone endpoints b f is end ring none pipe = by_context (context_of s e) refl
  where
    id : ℕ
    id = endpoint_id e

    to : (o : Option Context) → context_of s e ≡ o → IsBut id s (option_map_or (λ (c : Context). with_context s id (f c)) o s) × IsEnd setup (option_map_or (λ (c : Context). with_context s id (f c)) o s) d e b
        → IsBut id s (changed s id f) × IsEnd setup (changed s id f) d e b
    to o there h = subst (λ (t : DeviceSlot). IsBut id s t × IsEnd setup t d e b) (sym (changed_is s e f o there)) h

    has : (o : Option Context) → context_of s e ≡ o → RingIs setup d e (pipe_at s.pipes e) (endpoints d e) o
    has o there = subst (λ (x : Option Context). RingIs setup d e (pipe_at s.pipes e) (endpoints d e) x) there end.ring

    by_context : (o : Option Context) → context_of s e ≡ o → IsBut id s (changed s id f) × IsEnd setup (changed s id f) d e b
    by_context None there = to None there (but_none id s, end_from setup s d e b (pipe_at s.pipes e) None there refl (pipe end.pipe) end.script (none there (has None there)))
    by_context (Some c) there =
        let r = has (Some c) there in
        let n = ring c there r in
        to (Some c) there (
          but_context id s (f c),
          end_from setup (with_context s id (f c)) d e b (pipe_at s.pipes e) (Some (f c)) (context_set setup d e s gone endpoints (f c) is) refl (pipe end.pipe) end.script
              (ring_with setup d e (pipe_at s.pipes e) (endpoints d e) b c (f c) r n.0 n.1),
        )

-- the controller with such a change
pub holds_changed : (setup : Setup) (k : Controller) (gone : ℕ → Bool) (endpoints : ℕ → ℕ → KeptEndpoint) (orders : List RingOrder) (events : List RingEvent) (posted d e i : ℕ) (b : KeptEndpoint) (f : Context → Context)
    → HasPlain setup → Holds setup k gone endpoints orders events posted → interface_of setup d e ≡ Some i
    → ((s : DeviceSlot) (c : Context) → slice_get k.slots d ≡ Some s → context_of s e ≡ Some c → HasRing setup d e (pipe_at s.pipes e) (endpoints d e) c → IsContext (f c) b × IsSame c (f c))
    → ((s : DeviceSlot) → slice_get k.slots d ≡ Some s → context_of s e ≡ None → HasNone setup d e (pipe_at s.pipes e) (endpoints d e) → HasNone setup d e (pipe_at s.pipes e) b)
    → ((p : Pipe) → IsPipe p (endpoints d e) → IsPipe p b)
    → AllPosted (with_end endpoints d e b) orders k.commands.waits → Holds setup (slot_changed k d (λ t. changed t (endpoint_id e) f)) gone (with_end endpoints d e b) orders events posted
holds_changed setup k gone endpoints orders events posted d e i b f plain is at ring none pipe ordered =
    let there = slot_there setup k gone endpoints orders events posted d e i is at in
    let s : DeviceSlot = there.0 in
    let slot = is.each d s there.1 in
    let h = changed_end setup d e s gone endpoints b f slot (slot.ends e i at) (λ c context. ring s c there.1 context) (none s there.1) (pipe (pipe_at s.pipes e)) in
    subst (λ (v : Controller). Holds setup v gone (with_end endpoints d e b) orders events posted) (sym (slot_changed_is k d s (λ t. changed t (endpoint_id e) f) there.1))
    (holds_with setup k gone endpoints orders events posted d e i s (changed s (endpoint_id e) f) b plain is at there.1 h.0 h.1 ordered)
