-- What the core alone keeps of an endpoint changes, or it is made new, or its device's halt is cleared.
use Rattle.std.proofs.Common.{slice_get, ◌≡◌, ℕ, refl, ap, sym, subst, subst₂, ◌∙◌, arith, List, [], ◌∷◌, Some, None, Option, false, Bool, length-set, get_or-set_other}
use Rattle.std.specs.Prelude.{slice_set}
use Rattle.std.specs.Option.{option_map_or, unwrap_or}
use Rattle.usb_model.specs.declared.endpoint.EndpointState.{EndpointState}
use Rattle.usb_model.specs.declared.response.Response.{Response}
use Rattle.usb_model.specs.Setup.{Setup, endpoint_id, script_of}
use Rattle.usb_model.specs.Kept.{KeptEndpoint, KeptTransfer, first_place, new_kept_endpoint}
use Rattle.usb_model.specs.Events.{find_at, past_kept_blanks}
use Rattle.usb_device.specs.Pipe.{Pipe, cleared, no_pipe, pipe_at, rewound}
use Rattle.usb_xhc.specs.Context.{Context, configured}
use Rattle.usb_xhc.specs.Controller.{Controller, slot_changed}
use Rattle.usb_xhc.specs.Slots.{DeviceSlot, context_of, renewed}
use Rattle.refine_rings.specs.Endpoint.{IsContext, IsPipe, Stands}
use Rattle.refine_rings.specs.EndpointLaws.{HaveTrbsOf}
use Rattle.refine_rings.proofs.Hosts as match
use Rattle.refine_world.specs.Shows.{RingEvent, RingOrder}
use Rattle.refine_rings.specs.Holds.{Holds, IsEnd, IsSlot, RingIs, with_end}
use Rattle.refine_world.specs.Known.{NoMove}
use Rattle.refine_rings.specs.Laws.{HostsAll}
use Rattle.refine_rings.proofs.SlotChanges.{context_set, slot_changed_is}
use Rattle.refine_rings.proofs.SlotHosts.{IsAt, blanks, drops, pushes, rings}
use Rattle.refine_rings.proofs.Ids.{id-lt}
use Rattle.refine_rings.proofs.Lookups.{get_set, get_set_other, set_same}
use Rattle.refine_rings.proofs.Orders.{orders_kept, orders_still, start_same}
use Rattle.refine_rings.proofs.Slots.{IsBut, but_none, end_from, holds_with, slot_there}

-- an endpoint of the same TRBs, place and state
pub record IsLike (old b : KeptEndpoint) : Type 0 where
  pub line : HaveTrbsOf old.line b.line
  pub end : b.end ≡ old.end
  pub dequeue : b.dequeue ≡ old.dequeue
  pub within : b.within ≡ old.within
  pub state : b.state ≡ old.state
  pub left : b.script_left ≡ old.script_left
  pub halted : b.device_halted ≡ old.device_halted
  pub taken : b.packets_received ≡ old.packets_received

-- its context stays
like_context : (c : Context) (old b : KeptEndpoint) → IsLike old b → IsContext c old → IsContext c b
like_context c old b like is =
    subst (λ (s : EndpointState). Stands c b.line b.end b.dequeue b.within s) (sym like.state)
    (subst (λ (n : ℕ). Stands c b.line b.end b.dequeue n old.state) (sym like.within)
    (subst₂ (λ (m n : ℕ). Stands c b.line m n old.within old.state) (sym like.end) (sym like.dequeue)
    (match.keeps c old b.line is like.line)))

-- its device's endpoint too
like_pipe : (p : Pipe) (old b : KeptEndpoint) → IsLike old b → IsPipe p old → IsPipe p b
like_pipe p old b like is = record { left = is.left ∙ sym like.left; halted = is.halted ∙ sym like.halted; taken = is.taken ∙ sym like.taken }

-- a line like an empty one is empty
no_line : (ys zs : List KeptTransfer) → HaveTrbsOf ys zs → ys ≡ [] → zs ≡ []
no_line [] [] same e = refl
no_line [] (z ∷ zs) same e = absurd same
no_line (y ∷ ys) zs same e = absurd cc

-- so its ring, or that it has none
like_ring : (setup : Setup) (d e : ℕ) (p : Pipe) (old b : KeptEndpoint) (o : Option Context) → IsLike old b → (o ≡ None → b.errand ≡ None) → RingIs setup d e p old o → RingIs setup d e p b o
like_ring setup d e p old b None like errand is = record { unsupported = is.unsupported; line = no_line old.line b.line like.line is.line; errand = errand refl; begins = like_pipe (rewound p) old b like is.begins }
like_ring setup d e p old b (Some c) like errand is = record { supported = is.supported; context = like_context c old b like is.context; slot = is.slot; id = is.id; size = is.size; fits = is.fits; base = is.base }

-- it goes on at the same place
like_start : (old b : KeptEndpoint) → IsLike old b → first_place (past_kept_blanks b.line) b.end ≡ first_place (past_kept_blanks old.line) old.end
like_start old b like = start_same old.line b.line b.end like.line ∙ ap (first_place (past_kept_blanks old.line)) like.end

-- what the core alone keeps changes
keeps : (setup : Setup) (k : Controller) (gone : ℕ → Bool) (endpoints : ℕ → ℕ → KeptEndpoint) (orders : List RingOrder) (events : List RingEvent) (posted d e i : ℕ) → IsAt setup k gone endpoints orders events posted d e i
    → (b : KeptEndpoint) → IsLike (endpoints d e) b → ((s : DeviceSlot) → slice_get k.slots d ≡ Some s → context_of s e ≡ None → b.errand ≡ None) → Holds setup k gone (with_end endpoints d e b) orders events posted
keeps setup k gone endpoints orders events posted d e i is b like errand =
    let there = slot_there setup k gone endpoints orders events posted d e i is.holds is.at in
    let s : DeviceSlot = there.0 in
    let end = (is.holds.each d s there.1).ends e i is.at in
    let new : IsEnd setup s d e b = record { pipe = like_pipe (pipe_at s.pipes e) (endpoints d e) b like end.pipe; script = end.script; ring = like_ring setup d e (pipe_at s.pipes e) (endpoints d e) b (context_of s e) like (errand s there.1) end.ring } in
    subst (λ (slots : List DeviceSlot). Holds setup (record k { slots = slots }) gone (with_end endpoints d e b) orders events posted) (set_same k.slots d s there.1)
    (holds_with setup k gone endpoints orders events posted d e i s s b is.plain is.holds is.at there.1 (but_none (endpoint_id e) s) new
    (orders_kept endpoints d e b orders k.commands.waits (like_start (endpoints d e) b like) is.holds.ordered))

-- the pipe that was set is there
pub pipe_set : (setup : Setup) (d e : ℕ) (s : DeviceSlot) (gone : ℕ → Bool) (endpoints : ℕ → ℕ → KeptEndpoint) (p : Pipe) → IsSlot setup d s gone endpoints → pipe_at (slice_set s.pipes (endpoint_id e) p) e ≡ p
pipe_set setup d e s gone endpoints p is = ap (λ (o : Option Pipe). unwrap_or o no_pipe) (get_set s.pipes (endpoint_id e) p (omega (arith, id-lt e, is.pipes)))

-- a slot with another pipe at this id
pub but_pipe : (id : ℕ) (s : DeviceSlot) (p : Pipe) → IsBut id s (record s { pipes = slice_set s.pipes id p })
but_pipe id s p = record {
  contexts = refl;
  pipes = length-set s.pipes id p;
  is_gone = refl;
  other_context = λ j other. refl;
  other_pipe = λ j other. get_set_other s.pipes id j p other;
}

-- with another pipe and context
pub but_both : (id : ℕ) (s : DeviceSlot) (p : Pipe) (c : Context) → IsBut id s (record s { pipes = slice_set s.pipes id p; contexts = slice_set s.contexts id (Some c) })
but_both id s p c = record {
  contexts = length-set s.contexts id (Some c);
  pipes = length-set s.pipes id p;
  is_gone = refl;
  other_context = λ j other. get_or-set_other s.contexts id j (Some c) None other;
  other_pipe = λ j other. get_set_other s.pipes id j p other;
}

-- in an empty line nothing is found
nothing : (y : KeptTransfer) → find_at 0 [] ≡ Some y → ⊥
unfolding find_at
nothing y h = absurd cc

-- an endpoint that is made new is a new one
pub new_context : (slot id size base : ℕ) (script : List Response) → IsContext (configured slot id size base) (new_kept_endpoint script)
new_context slot id size base script = record {
  ring = record { items = tt; row = tt; below = omega arith; few = omega arith; stands = refl; between = refl; whole = λ some. refl };
  runs = refl;
  partly = refl;
  front = λ y h. absurd (nothing y h);
  rests = λ e. (refl, refl);
}

-- its slot and its endpoint
renewed_end : (setup : Setup) (d e : ℕ) (s : DeviceSlot) (gone : ℕ → Bool) (endpoints : ℕ → ℕ → KeptEndpoint) → IsSlot setup d s gone endpoints → IsEnd setup s d e (endpoints d e)
    → IsBut (endpoint_id e) s (renewed s e) × IsEnd setup (renewed s e) d e (new_kept_endpoint (script_of setup d e))
renewed_end setup d e s gone endpoints is end = subst (λ (t : DeviceSlot). IsBut id s t × IsEnd setup t d e new) (sym (renewed_is (context_of s e) refl)) (by_context (context_of s e) refl)
  where
    id : ℕ
    id = endpoint_id e

    new : KeptEndpoint
    new = new_kept_endpoint (script_of setup d e)

    p : Pipe
    p = pipe_at s.pipes e

    made_slot : Context → DeviceSlot
    made_slot c = record s { pipes = slice_set s.pipes id (rewound p); contexts = slice_set s.contexts id (Some (configured c.slot c.id c.size c.ring.line.base)) }

    renewed_is : (o : Option Context) → context_of s e ≡ o → renewed s e ≡ option_map_or made_slot o s
    renewed_is o there = ap (λ (x : Option Context). option_map_or made_slot x s) there

    new_pipe : IsPipe (rewound p) new
    new_pipe = record { left = end.script; halted = refl; taken = refl }

    has : (o : Option Context) → context_of s e ≡ o → RingIs setup d e p (endpoints d e) o
    has o there = subst (λ (x : Option Context). RingIs setup d e p (endpoints d e) x) there end.ring

    by_context : (o : Option Context) → context_of s e ≡ o → IsBut id s (option_map_or made_slot o s) × IsEnd setup (option_map_or made_slot o s) d e new
    by_context None there =
        let none = has None there in
        let old : IsPipe p new = record {
          left = end.pipe.left ∙ sym none.begins.left ∙ end.script;
          halted = end.pipe.halted ∙ sym none.begins.halted;
          taken = end.pipe.taken ∙ sym none.begins.taken;
        } in
        (but_none id s, end_from setup s d e new p None there refl old end.script (record { unsupported = none.unsupported; line = refl; errand = refl; begins = new_pipe }))
    by_context (Some c) there =
        let r = has (Some c) there in (
          but_both id s (rewound p) (configured c.slot c.id c.size c.ring.line.base),
          end_from setup (made_slot c) d e new (rewound p) (Some (configured c.slot c.id c.size c.ring.line.base)) (context_set setup d e s gone endpoints (configured c.slot c.id c.size c.ring.line.base) is)
              (pipe_set setup d e s gone endpoints (rewound p) is) new_pipe end.script
              (record { supported = r.supported; context = new_context c.slot c.id c.size c.ring.line.base (script_of setup d e); slot = r.slot; id = r.id; size = r.size; fits = r.fits; base = r.base }),
        )

-- an endpoint is made new
renews : (setup : Setup) (k : Controller) (gone : ℕ → Bool) (endpoints : ℕ → ℕ → KeptEndpoint) (orders : List RingOrder) (events : List RingEvent) (posted d e i : ℕ) → IsAt setup k gone endpoints orders events posted d e i
    → NoMove d e orders → Holds setup (slot_changed k d (λ s. renewed s e)) gone (with_end endpoints d e (new_kept_endpoint (script_of setup d e))) orders events posted
renews setup k gone endpoints orders events posted d e i is still =
    let there = slot_there setup k gone endpoints orders events posted d e i is.holds is.at in
    let s : DeviceSlot = there.0 in
    let slot = is.holds.each d s there.1 in
    let h = renewed_end setup d e s gone endpoints slot (slot.ends e i is.at) in
    let new : KeptEndpoint = new_kept_endpoint (script_of setup d e) in
    subst (λ (v : Controller). Holds setup v gone (with_end endpoints d e new) orders events posted) (sym (slot_changed_is k d s (λ t. renewed t e) there.1))
    (holds_with setup k gone endpoints orders events posted d e i s (renewed s e) new is.plain is.holds is.at there.1 h.0 h.1 (orders_still endpoints d e new orders k.commands.waits still is.holds.ordered))

-- the halt of its device's endpoint is cleared
clears : (setup : Setup) (k : Controller) (gone : ℕ → Bool) (endpoints : ℕ → ℕ → KeptEndpoint) (orders : List RingOrder) (events : List RingEvent) (posted d e i : ℕ) → IsAt setup k gone endpoints orders events posted d e i
    → Holds setup (slot_changed k d (λ s. record s { pipes = slice_set s.pipes (endpoint_id e) (cleared (pipe_at s.pipes e)) })) gone (with_end endpoints d e (record (endpoints d e) { device_halted = false })) orders events posted
clears setup k gone endpoints orders events posted d e i is =
    let there = slot_there setup k gone endpoints orders events posted d e i is.holds is.at in
    let s : DeviceSlot = there.0 in
    let slot = is.holds.each d s there.1 in
    let end = slot.ends e i is.at in
    let p : Pipe = pipe_at s.pipes e in
    let new : IsEnd setup (record s { pipes = slice_set s.pipes (endpoint_id e) (cleared p) }) d e after =
    end_from setup (record s { pipes = slice_set s.pipes (endpoint_id e) (cleared p) }) d e after (cleared p) (context_of s e) refl (pipe_set setup d e s gone endpoints (cleared p) slot)
    (record { left = end.pipe.left; halted = refl; taken = end.pipe.taken }) end.script (ring p (context_of s e) end.ring) in
    subst (λ (v : Controller). Holds setup v gone (with_end endpoints d e after) orders events posted)
    (sym (slot_changed_is k d s (λ t. record t { pipes = slice_set t.pipes (endpoint_id e) (cleared (pipe_at t.pipes e)) }) there.1))
    (holds_with setup k gone endpoints orders events posted d e i s (record s { pipes = slice_set s.pipes (endpoint_id e) (cleared p) }) after is.plain is.holds is.at there.1 (but_pipe (endpoint_id e) s (cleared p)) new
    (orders_kept endpoints d e after orders k.commands.waits refl is.holds.ordered))
  where
    after : KeptEndpoint
    after = record (endpoints d e) { device_halted = false }

    ring : (p : Pipe) (o : Option Context) → RingIs setup d e p (endpoints d e) o → RingIs setup d e (cleared p) after o
    ring p None none = record { unsupported = none.unsupported; line = none.line; errand = none.errand; begins = record { left = none.begins.left; halted = refl; taken = none.begins.taken } }
    ring p (Some c) r = record {
      supported = r.supported;
      context = record { ring = r.context.ring; runs = r.context.runs; partly = r.context.partly; front = λ y h. let f = r.context.front y h in record { begun = f.begun; fits = f.fits }; rests = r.context.rests };
      slot = r.slot;
      id = r.id;
      size = r.size;
      fits = r.fits;
      base = r.base;
    }

-- all of it
pub hosts : HostsAll
hosts setup k gone endpoints orders events posted d e i plain holds at =
    let is : IsAt setup k gone endpoints orders events posted d e i = record { plain = plain; holds = holds; at = at } in
    record {
      pushes = pushes setup k gone endpoints orders events posted d e i is;
      blanks = blanks setup k gone endpoints orders events posted d e i is;
      drops = drops setup k gone endpoints orders events posted d e i is;
      rings = rings setup k gone endpoints orders events posted d e i is;
      keeps = λ b line end dequeue within state left halted taken errand. keeps setup k gone endpoints orders events posted d e i is b
          (record { line = line; end = end; dequeue = dequeue; within = within; state = state; left = left; halted = halted; taken = taken }) errand;
      renews = renews setup k gone endpoints orders events posted d e i is;
      clears = clears setup k gone endpoints orders events posted d e i is;
    }
