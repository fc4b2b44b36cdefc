-- What one packet leaves of a slot.
use Rattle.std.proofs.Common.{◌≡◌, ℕ, refl, ap, ap₂, ◌∙◌, List, ◌++◌, length, Some, None, Option, Bool, true, false, length-set, get_or-set_other}
use Rattle.std.specs.Prelude.{◌<◌, drop, is_some, not, ◌&&◌, option_map, slice_get, slice_set, if◌then◌else◌}
use Rattle.std.specs.Option.{option_and_then, option_map_or, unwrap_or}
use Rattle.std.proofs.lemmas.Bool.{and_right}
use Rattle.usb_model.specs.declared.endpoint.EndpointState.TheVariants.{Halted}
use Rattle.usb_model.specs.declared.request.Body.{Body}
use Rattle.usb_model.specs.declared.request.Body.TheVariants.{In, Out}
use Rattle.usb_model.specs.declared.response.Response.{Response}
use Rattle.usb_model.specs.Endpoint.Status.{halts}
use Rattle.usb_model.specs.Setup.{endpoint_id}
use Rattle.usb_model.specs.Packets.{Packet}
use Rattle.usb_device.specs.Pipe.{Pipe, answer_of, bytes_after, first_of, no_pipe, pipe_after, pipe_at, stalls, taken_by}
use Rattle.usb_xhc.specs.declared.trb_at.TrbAt.{TrbAt}
use Rattle.usb_xhc.specs.Context.{Context, gone_on, gone_past}
use Rattle.usb_xhc.specs.Posts.{posted_all}
use Rattle.usb_xhc.specs.Transaction.{Served, packet_in, packet_out, packet_room, served, served_by, served_gone, working}
use Rattle.usb_xhc.specs.Controller.{Controller, served_at, told_at}
use Rattle.usb_xhc.specs.Slots.{DeviceSlot, asks, context_of, events_after, read_after, serving, serving_at, slot_after}
use Rattle.refine_rings.specs.EndpointLaws.{packet_for, pipe_behind, served_here}
use Rattle.refine_rings.specs.Laws.{out_of}
use Rattle.refine_rings.proofs.SlotChanges.{IsSame}
use Rattle.refine_rings.proofs.Lookups.{get_set, get_set_other, set_same}
use Rattle.refine_rings.proofs.Slots.{IsBut}

-- a packet leaves the endpoint its slot, id, size and ring
pub same_served : (gone : Bool) (c : Context) (a : Response) → IsSame c (served_here gone c a).context
unfolding served served_gone
same_served true c a = record { slot = refl; id = refl; size = refl; base = refl }
same_served false c a = by_code (packet_in c a) (packet_in c a).code
  where
    by_halt : (p : Packet) (t : Bool) → IsSame c (if◌then◌else◌ {A = Context} t (record (gone_on c p.bytes) { state = Halted }) (gone_past c))
    by_halt p true = record { slot = refl; id = refl; size = refl; base = refl }
    by_halt p false = record { slot = refl; id = refl; size = refl; base = refl }

    by_code : (p : Packet) (o : Option ℕ) → IsSame c (served_by c a p o).context
    by_code p None = record { slot = refl; id = refl; size = refl; base = refl }
    by_code p (Some code) = by_halt p (halts code)

-- and the device's endpoint its script
pub same_script : (gone : Bool) (out : Option (List ℕ)) (p : Pipe) → ((pipe_behind gone out p).script ≡ p.script) × ((pipe_behind gone out p).size ≡ p.size)
same_script true out p = (refl, refl)
same_script false out p = by_halt p.halted
  where
    after : Pipe
    after = record p { left = drop 1 p.left; halted = stalls (first_of p.left); taken = p.taken ++ taken_by (first_of p.left) out }

    by_halt : (t : Bool) → ((if t then p else after).script ≡ p.script) × ((if t then p else after).size ≡ p.size)
    by_halt true = (refl, refl)
    by_halt false = (refl, refl)

-- where nothing is served
pub record IsIdle (s : DeviceSlot) (e : ℕ) : Type 0 where
  pub serves : serving s e ≡ None
  pub asks : asks s e ≡ false

-- there is no ring
pub idle_none : (s : DeviceSlot) (e : ℕ) → context_of s e ≡ None → IsIdle s e
idle_none s e context = record {
  serves = ap (λ (o : Option Context). option_and_then (λ (c : Context). serving_at s.gone c (answer_of (pipe_at s.pipes e)) (working c)) o) context;
  asks = ap (λ (o : Option Context). not s.gone && is_some (option_and_then working o)) context ∙ and_right (not s.gone) false refl;
}

-- its ring has nothing to serve
pub idle_still : (s : DeviceSlot) (e : ℕ) (c : Context) → context_of s e ≡ Some c → working c ≡ None → IsIdle s e
idle_still s e c context work = record {
  serves = ap (λ (o : Option Context). option_and_then (λ (x : Context). serving_at s.gone x (answer_of (pipe_at s.pipes e)) (working x)) o) context
      ∙ (ap (serving_at s.gone c (answer_of (pipe_at s.pipes e))) work ∙ none s.gone);
  asks = ap (λ (o : Option Context). not s.gone && is_some (option_and_then working o)) context
      ∙ (ap (λ (o : Option TrbAt). not s.gone && is_some o) work ∙ and_right (not s.gone) false refl);
}
  where
    none : (g : Bool) → serving_at g c (answer_of (pipe_at s.pipes e)) None ≡ None
    none true = refl
    none false = refl

-- the controller, by the slot that is there
pub told_is : (k : Controller) (d e : ℕ) (s : DeviceSlot) → slice_get k.slots d ≡ Some s → told_at k d e ≡ option_map (λ (x : Served). x.packet) (serving s e)
told_is k d e s there = ap (λ (o : Option DeviceSlot). option_and_then (λ (v : DeviceSlot). option_map (λ (x : Served). x.packet) (serving v e)) o) there

-- and behind a packet
pub served_is : (k : Controller) (d e : ℕ) (s : DeviceSlot) (out : DeviceSlot → Option (List ℕ)) → slice_get k.slots d ≡ Some s
    → served_at k d e out ≡ record k { slots = slice_set k.slots d (slot_after s e (out s)); events = events_after s e k.events }
served_is k d e s out there =
    ap (λ (o : Option DeviceSlot). option_map_or (λ (v : DeviceSlot). record k { slots = slice_set k.slots d (slot_after v e (out v)); events = events_after v e k.events }) o k) there

-- nothing changes
pub idle_slot : (s : DeviceSlot) (e : ℕ) (out : Option (List ℕ)) → IsIdle s e → slot_after s e out ≡ s
idle_slot s e out idle =
    ap₂ (λ (a : Bool) (o : Option Served). record s {
      pipes = if a then slice_set s.pipes (endpoint_id e) (pipe_after out (pipe_at s.pipes e)) else s.pipes;
      contexts = option_map_or (λ (x : Served). slice_set s.contexts (endpoint_id e) (Some x.context)) o s.contexts;
    }) idle.asks idle.serves

-- so the controller stays
pub idle_served : (k : Controller) (d e : ℕ) (s : DeviceSlot) → slice_get k.slots d ≡ Some s → IsIdle s e → served_at k d e (λ v. None) ≡ k
idle_served k d e s there idle =
    served_is k d e s (λ v. None) there
    ∙ (ap₂ (λ (t : DeviceSlot) (o : Option Served). record k { slots = slice_set k.slots d t; events = option_map_or (λ (x : Served). posted_all 4096 k.events x.events) o k.events }) (idle_slot s e None idle) idle.serves
    ∙ ap (λ (slots : List DeviceSlot). record k { slots = slots }) (set_same k.slots d s there))

-- and nothing is told
pub idle_told : (k : Controller) (d e : ℕ) (s : DeviceSlot) → slice_get k.slots d ≡ Some s → IsIdle s e → told_at k d e ≡ None
idle_told k d e s there idle = told_is k d e s there ∙ ap (λ (o : Option Served). option_map (λ (x : Served). x.packet) o) idle.serves

-- a packet is served at this TRB of an endpoint with this context
pub record IsBusy (s : DeviceSlot) (e : ℕ) (gone : Bool) (c : Context) (first : TrbAt) : Type 0 where
  pub is_gone : s.gone ≡ gone
  pub context : context_of s e ≡ Some c
  pub work : working c ≡ Some first

-- what it leaves
abbrev pub served_in : DeviceSlot → ℕ → Bool → Context → Served
served_in s e gone c = served_here gone c (answer_of (pipe_at s.pipes e))

-- it is served
pub busy_serves : (s : DeviceSlot) (e : ℕ) (gone : Bool) (c : Context) (first : TrbAt) → IsBusy s e gone c first → serving s e ≡ Some (served_in s e gone c)
busy_serves s e gone c first busy =
    ap (λ (o : Option Context). option_and_then (λ (x : Context). serving_at s.gone x a (working x)) o) busy.context
    ∙ (ap₂ (λ (g : Bool) (o : Option TrbAt). serving_at g c a o) busy.is_gone busy.work ∙ by_gone gone)
  where
    a : Response
    a = answer_of (pipe_at s.pipes e)

    by_gone : (g : Bool) → serving_at g c a (Some first) ≡ Some (served_here g c a)
    by_gone true = refl
    by_gone false = refl

-- the device is asked where it is there
pub busy_asks : (s : DeviceSlot) (e : ℕ) (gone : Bool) (c : Context) (first : TrbAt) → IsBusy s e gone c first → asks s e ≡ not gone
busy_asks s e gone c first busy =
    ap₂ (λ (g : Bool) (o : Option Context). not g && is_some (option_and_then working o)) busy.is_gone busy.context
    ∙ (ap (λ (o : Option TrbAt). not gone && is_some o) busy.work ∙ by_gone gone)
  where
    by_gone : (g : Bool) → (not g && true) ≡ not g
    by_gone true = refl
    by_gone false = refl

-- what is sent is the packet of its TRB
pub busy_sends : (s : DeviceSlot) (e : ℕ) (gone : Bool) (c : Context) (first : TrbAt) (body : Body) → IsBusy s e gone c first → out_of e body s ≡ packet_for c first.trb body
busy_sends s e gone c first (In n) busy = refl
busy_sends s e gone c first (Out bytes) busy =
    ap (λ (o : Option Context). option_and_then (λ (x : Context). option_map (λ (f : TrbAt). packet_out x f.trb bytes) (working x)) o) busy.context
    ∙ ap (λ (o : Option TrbAt). option_map (λ (f : TrbAt). packet_out c f.trb bytes) o) busy.work

-- the slot behind it
abbrev pub pipes_behind : DeviceSlot → ℕ → Bool → Option (List ℕ) → List Pipe
pipes_behind s e true out = s.pipes
pipes_behind s e false out = slice_set s.pipes (endpoint_id e) (pipe_after out (pipe_at s.pipes e))

-- with its pipes and this context
abbrev pub slot_behind : DeviceSlot → ℕ → Bool → Option (List ℕ) → Context → DeviceSlot
slot_behind s e gone out f = record s { pipes = pipes_behind s e gone out; contexts = slice_set s.contexts (endpoint_id e) (Some f) }

-- that is the slot
pub busy_slot : (s : DeviceSlot) (e : ℕ) (gone : Bool) (c : Context) (first : TrbAt) (out : Option (List ℕ)) → IsBusy s e gone c first → slot_after s e out ≡ slot_behind s e gone out (served_in s e gone c).context
busy_slot s e gone c first out busy =
    ap₂ (λ (a : Bool) (o : Option Served). record s {
      pipes = if a then slice_set s.pipes (endpoint_id e) (pipe_after out (pipe_at s.pipes e)) else s.pipes;
      contexts = option_map_or (λ (x : Served). slice_set s.contexts (endpoint_id e) (Some x.context)) o s.contexts;
    }) (busy_asks s e gone c first busy) (busy_serves s e gone c first busy)
    ∙ ap (λ (pipes : List Pipe). record s { pipes = pipes; contexts = slice_set s.contexts (endpoint_id e) (Some (served_in s e gone c).context) }) (by_gone gone)
  where
    by_gone : (g : Bool) → (if not g then slice_set s.pipes (endpoint_id e) (pipe_after out (pipe_at s.pipes e)) else s.pipes) ≡ pipes_behind s e g out
    by_gone true = refl
    by_gone false = refl

-- its other endpoints stay
pub but_behind : (s : DeviceSlot) (e : ℕ) (gone : Bool) (out : Option (List ℕ)) (f : Context) → IsBut (endpoint_id e) s (slot_behind s e gone out f)
but_behind s e gone out f = record {
  contexts = length-set s.contexts (endpoint_id e) (Some f);
  pipes = count gone;
  is_gone = refl;
  other_context = λ j other. get_or-set_other s.contexts (endpoint_id e) j (Some f) None other;
  other_pipe = λ j other. by_gone gone j other;
}
  where
    p : Pipe
    p = pipe_after out (pipe_at s.pipes e)

    count : (g : Bool) → length (pipes_behind s e g out) ≡ length s.pipes
    count true = refl
    count false = length-set s.pipes (endpoint_id e) p

    by_gone : (g : Bool) (j : ℕ) → (j ≡ endpoint_id e → ⊥) → slice_get (pipes_behind s e g out) j ≡ slice_get s.pipes j
    by_gone true j other = refl
    by_gone false j other = get_set_other s.pipes (endpoint_id e) j p other

-- the pipe of the endpoint behind it
pub pipe_there : (s : DeviceSlot) (e : ℕ) (gone : Bool) (out : Option (List ℕ)) → endpoint_id e < length s.pipes → pipe_at (pipes_behind s e gone out) e ≡ pipe_behind gone out (pipe_at s.pipes e)
pipe_there s e true out within = refl
pipe_there s e false out within = ap (λ (o : Option Pipe). unwrap_or o no_pipe) (get_set s.pipes (endpoint_id e) (pipe_after out (pipe_at s.pipes e)) within)

-- the bytes that come
pub busy_reads : (s : DeviceSlot) (e : ℕ) (c : Context) (first : TrbAt) (bytes : List ℕ) → IsBusy s e false c first → read_after s e bytes ≡ bytes_after (answer_of (pipe_at s.pipes e)) (packet_room c) bytes
busy_reads s e c first bytes busy =
    ap₂ (λ (a : Bool) (o : Option Context). if a then bytes_after (answer_of (pipe_at s.pipes e)) (option_map_or (λ (x : Context). packet_room x) o 0) bytes else bytes) (busy_asks s e false c first busy) busy.context
