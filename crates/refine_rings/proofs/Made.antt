-- A controller's slots are those of its setup; made new they hold a new core.
use Rattle.std.proofs.Common.{◌≡◌, ℕ, zero, suc, ◌+◌, ◌*◌, ◌≤◌, ◌<◌, ◌%◌, Bool, true, false, refl, ap, sym, subst, ◌∙◌, arith, List, [], ◌∷◌, length, map, Option, Some, None, slice_get, lt-ltb, get_or}
use Rattle.std.specs.Prelude.{nat_lt, not, option_map, ◌&&◌, is_some, if◌then◌else◌}
use Rattle.std.specs.Option.{option_and_then, option_map_or, unwrap_or}
use Rattle.std.proofs.lemmas.Bool.{and_from}
use Rattle.std.proofs.lemmas.List.{length-map}
use Rattle.std.proofs.lemmas.List.FromFn.{get_or-map-range_with_len, length-map-range_with_len}
use Rattle.std.proofs.lemmas.Option.{same_Some, slice_get-map, slice_get_within}
use Rattle.usb_model.specs.declared.response.Response.{Response}
use Rattle.usb_model.specs.declared.setup.DeviceSetup.{DeviceSetup}
use Rattle.usb_model.specs.declared.setup.EndpointInfo.{EndpointInfo}
use Rattle.usb_model.specs.declared.request.Kind.TheVariants.{Control}
use Rattle.usb_model.specs.Requests.{is_unsupported}
use Rattle.usb_model.specs.Setup.{Setup, endpoint_id, info_of, interface_of, is_in, kind_of, packet_size_of, script_at, script_of}
use Rattle.usb_tables.specs.Tables.{is_plain}
use Rattle.usb_descriptors.specs.Table.{IsNumbered, IsTable, info_at}
use Rattle.usb_model.specs.Kept.{KeptEndpoint, new_kept_endpoint}
use Rattle.usb_device.specs.Pipe.{Pipe, no_pipe, pipe_at, rewound}
use Rattle.usb_device.specs.Scripts.{info_by}
use Rattle.usb_xhc.specs.Context.{Context, configured}
use Rattle.refine_rings.specs.Endpoint.{IsPipe}
use Rattle.usb_xhc.specs.Made.{context_for, context_made, contexts_for, ring_base, slot_for}
use Rattle.usb_xhc.specs.Slots.{DeviceSlot, as_made, context_of, slot_renewed}
use Rattle.refine_rings.specs.Holds.{IsEnd, IsSlot, RingIs}
use Rattle.refine_rings.specs.Laws.{AddsSlot, IsOfHeld, MakesCore}
use Rattle.refine_rings.specs.Made.{IsSlotOf, RingOf}
use Rattle.refine_rings.proofs.Fine.{found_in}
use Rattle.refine_rings.proofs.Found.{IsFound, all_plain, find_by_id, found, info_is}
use Rattle.refine_rings.proofs.Ids.{id-lt}
use Rattle.refine_rings.proofs.Lookups.{get_within}
use Rattle.refine_rings.proofs.Renews.{new_context}
use Rattle.refine_rings.proofs.Slots.{end_from}

-- the id of an endpoint with a number isn't 0
id_above : (e : ℕ) → 0 < e % 16 → nat_lt 0 (endpoint_id e) ≡ true
id_above e some = by_test (is_in e)
  where
    by_test : (b : Bool) → nat_lt 0 (2 * (e % 16) + (if b then 1 else 0)) ≡ true
    by_test true = lt-ltb 0 (2 * (e % 16) + 1) (omega (arith, some))
    by_test false = lt-ltb 0 (2 * (e % 16) + 0) (omega (arith, some))

-- an address that is numbered is plain
plain_one : (e : ℕ) → IsNumbered e → is_plain e ≡ true
plain_one e n = and_from _ _ (lt-ltb e 256 n.byte) (lt-ltb (e % 128) 16 n.plain)

-- an endpoint of a configuration has its ring at the slot
ring_added : (d : ℕ) (x : DeviceSetup) (pipes : List Pipe) → IsTable x.config.endpoints → (e : ℕ) (z : EndpointInfo) → info_at x.config e ≡ Some z → RingOf d e z (context_of (slot_for (suc d) x.config pipes) e)
unfolding contexts_for
ring_added d x pipes table e z here = subst (λ (o : Option Context). RingOf d e z o) (sym context) (by_kind (is_unsupported z.kind) refl)
  where
    id : ℕ
    id = endpoint_id e

    numbered : (f : ℕ) (y : EndpointInfo) → info_at x.config f ≡ Some y → IsNumbered f
    numbered f y there = (found_in x.config.endpoints f y table.numbered table.sized there).0

    plain_by : (f : ℕ) (o : Option EndpointInfo) → info_at x.config f ≡ o → is_some o ≡ true → is_plain f ≡ true
    plain_by f None none some = absurd cc
    plain_by f (Some y) there some = plain_one f (numbered f y there)

    by_id : info_by x.config id ≡ info_at x.config e
    by_id = find_by_id x.config.endpoints e (plain_one e (numbered e z here)) (all_plain x.config.endpoints (λ f some. plain_by f (info_at x.config f) refl some))

    context : context_of (slot_for (suc d) x.config pipes) e ≡ context_made (suc d) id z
    context =
        get_or-map-range_with_len (context_for (suc d) x.config) 0 32 id id None (id-lt e) (omega arith)
        ∙ ap (option_and_then (λ (y : EndpointInfo). context_made (suc d) id y)) (by_id ∙ here)

    ring_if : (u : Bool) → is_unsupported z.kind ≡ u → (n : Bool) → n ≡ true → RingOf d e z (if not u && n then Some (configured (suc d) id z.packet_size (ring_base (suc d) id)) else None)
    ring_if true is n some = is
    ring_if false is n some = rw some (record { supported = is; slot = refl; id = refl; size = refl; base = refl })

    by_kind : (u : Bool) → is_unsupported z.kind ≡ u → RingOf d e z (context_made (suc d) id z)
    by_kind u is = subst (λ (b : Bool). RingOf d e z (if not b && nat_lt 0 id then Some (configured (suc d) id z.packet_size (ring_base (suc d) id)) else None)) (sym is)
        (ring_if u is (nat_lt 0 id) (id_above e (numbered e z here).number))

-- the slot of a device as it is added
pub added : AddsSlot
unfolding contexts_for
added d x pipes table scripts sizes = record {
  contexts = length-map-range_with_len (context_for (suc d) x.config) 0 32;
  scripts = scripts;
  sizes = sizes;
  rings = ring_added d x pipes table;
}

-- an endpoint of a slot that is made new
context_renewed : (s : DeviceSlot) (e : ℕ) → context_of (slot_renewed s) e ≡ option_map as_made (context_of s e)
context_renewed s e = at s.contexts (endpoint_id e)
  where
    at : (l : List (Option Context)) (k : ℕ) → get_or (map (option_map as_made) l) k None ≡ option_map as_made (get_or l k None)
    at [] k = refl
    at (o ∷ os) zero = refl
    at (o ∷ os) (suc k) = at os k

pipe_renewed : (s : DeviceSlot) (e : ℕ) → pipe_at (slot_renewed s).pipes e ≡ rewound (pipe_at s.pipes e)
pipe_renewed s e = ap (λ (o : Option Pipe). unwrap_or o no_pipe) (slice_get-map rewound s.pipes (endpoint_id e)) ∙ by_pipe (slice_get s.pipes (endpoint_id e))
  where
    by_pipe : (o : Option Pipe) → unwrap_or (option_map rewound o) no_pipe ≡ rewound (unwrap_or o no_pipe)
    by_pipe None = refl
    by_pipe (Some p) = refl

-- is a new one
new_end : (setup : Setup) (d e i : ℕ) (x : DeviceSetup) (s : DeviceSlot) → slice_get setup d ≡ Some x → IsSlotOf d x s → interface_of setup d e ≡ Some i → IsEnd setup (slot_renewed s) d e (new_kept_endpoint (script_of setup d e))
new_end setup d e i x s there of at =
    end_from setup (slot_renewed s) d e new (rewound p) (option_map as_made (context_of s e)) (context_renewed s e) (pipe_renewed s e) pipe (sym script) (ring (context_of s e) (of.rings e z here))
  where
    f : IsFound setup d e
    f = found setup d e i at

    z : EndpointInfo
    z = f.info

    id : ℕ
    id = endpoint_id e

    p : Pipe
    p = pipe_at s.pipes e

    new : KeptEndpoint
    new = new_kept_endpoint (script_of setup d e)

    here : info_at x.config e ≡ Some z
    here = ap (λ (v : DeviceSetup). info_at v.config e) (same_Some x f.device (sym there ∙ f.there)) ∙ f.here

    by_pipe : (o : Option Pipe) → unwrap_or (option_map (λ (q : Pipe). q.script) o) [] ≡ (unwrap_or o no_pipe).script
    by_pipe None = refl
    by_pipe (Some q) = refl

    script : script_of setup d e ≡ p.script
    script =
        ap (λ (o : Option EndpointInfo). option_map_or (λ (y : EndpointInfo). script_at setup d id) o []) f.is
        ∙ (ap (λ (o : Option DeviceSetup). unwrap_or (option_and_then (λ (v : DeviceSetup). slice_get v.scripts id) o) []) there
        ∙ (ap (λ (l : List (List Response)). unwrap_or (slice_get l id) []) of.scripts
        ∙ (ap (λ (o : Option (List Response)). unwrap_or o []) (slice_get-map (λ (q : Pipe). q.script) s.pipes id)
        ∙ by_pipe (slice_get s.pipes id))))

    pipe : IsPipe (rewound p) new
    pipe = record { left = sym script; halted = refl; taken = refl }

    size : z.packet_size ≡ packet_size_of setup d e
    size = sym (ap (λ (o : Option EndpointInfo). option_map_or (λ (y : EndpointInfo). y.packet_size) o 0) f.is)

    kind : is_unsupported (kind_of setup d e) ≡ is_unsupported z.kind
    kind = ap (λ (o : Option EndpointInfo). is_unsupported (option_map_or (λ (y : EndpointInfo). y.kind) o Control)) f.is

    ring : (o : Option Context) → RingOf d e z o → RingIs setup d e (rewound p) new (option_map as_made o)
    ring None none = record { unsupported = kind ∙ none; line = refl; errand = refl; begins = pipe }
    ring (Some c) has = record {
      supported = kind ∙ has.supported;
      context = new_context c.slot c.id c.size c.ring.line.base (script_of setup d e);
      slot = has.slot;
      id = has.id;
      size = has.size ∙ size;
      fits = omega (arith, has.size, of.sizes e z here has.supported);
      base = has.base;
    }

-- the scripts stay
scripts_renewed : (pipes : List Pipe) → map (λ (p : Pipe). p.script) (map rewound pipes) ≡ map (λ (p : Pipe). p.script) pipes
scripts_renewed [] = refl
scripts_renewed (p ∷ ps) = ap (λ (l : List (List Response)). p.script ∷ l) (scripts_renewed ps)

-- a slot that is made new is its device's
new_slot : (setup : Setup) (d : ℕ) (x : DeviceSetup) (s : DeviceSlot) → slice_get setup d ≡ Some x → IsSlotOf d x s → length (slot_renewed s).pipes ≡ 32 → IsSlot setup d (slot_renewed s) (λ _. false) (λ a e. new_kept_endpoint (script_of setup a e))
new_slot setup d x s there of long = record {
  contexts = length-map s.contexts (option_map as_made) ∙ of.contexts;
  pipes = long;
  is_gone = refl;
  scripts = λ y h. ap (λ (v : DeviceSetup). v.scripts) (same_Some y x (sym h ∙ there)) ∙ (of.scripts ∙ sym (scripts_renewed s.pipes));
  ends = λ e i at. new_end setup d e i x s there of at;
}

-- a controller that is made new holds a new core
pub made : MakesCore
made setup k plain is laws = record {
  slots = length-map k.slots slot_renewed ∙ is.slots;
  each = λ d t there. by_slot d t (slice_get k.slots d) refl there;
  ordered = tt;
  told = refl;
  count = refl;
}
  where
    by_slot : (d : ℕ) (t : DeviceSlot) (o : Option DeviceSlot) → slice_get k.slots d ≡ o → slice_get (map slot_renewed k.slots) d ≡ Some t → IsSlot setup d t (λ _. false) (λ a e. new_kept_endpoint (script_of setup a e))
    by_slot d t None none there =
        let both : None ≡ Some t = sym (slice_get-map slot_renewed k.slots d ∙ ap (option_map slot_renewed) none) ∙ there in
        absurd cc
    by_slot d t (Some s) at there =
        let it : slot_renewed s ≡ t = same_Some (slot_renewed s) t (sym (slice_get-map slot_renewed k.slots d ∙ ap (option_map slot_renewed) at) ∙ there) in
        let x = get_within setup d (omega (arith, is.slots, slice_get_within k.slots d s at)) in
        let lawful = laws d t there in
        subst (λ (v : DeviceSlot). IsSlot setup d v (λ _. false) (λ a e. new_kept_endpoint (script_of setup a e))) it
        (new_slot setup d x.0 s x.1 (is.each d x.0 s x.1 at) (ap (λ (v : DeviceSlot). length v.pipes) it ∙ lawful.all))

-- the slot of a held core is of the core's setup
slot_held : (setup : Setup) (d : ℕ) (x : DeviceSetup) (s : DeviceSlot) (gone : ℕ → Bool) (endpoints : ℕ → ℕ → KeptEndpoint) → slice_get setup d ≡ Some x → IsSlot setup d s gone endpoints → IsSlotOf d x s
slot_held setup d x s gone endpoints there is = record {
  contexts = is.contexts;
  scripts = is.scripts x there;
  sizes = λ e z here supported. size e z here supported (context_of s e) (end e z here).ring;
  rings = λ e z here. ring e z here (context_of s e) (end e z here).ring;
}
  where
    info : (e : ℕ) (z : EndpointInfo) → info_at x.config e ≡ Some z → info_of setup d e ≡ Some z
    info e z here = info_is setup d e x z there here

    end : (e : ℕ) (z : EndpointInfo) → info_at x.config e ≡ Some z → IsEnd setup s d e (endpoints d e)
    end e z here = is.ends e z.interface (ap (option_map (λ (y : EndpointInfo). y.interface)) (info e z here))

    kind : (e : ℕ) (z : EndpointInfo) → info_at x.config e ≡ Some z → is_unsupported (kind_of setup d e) ≡ is_unsupported z.kind
    kind e z here = ap (λ (o : Option EndpointInfo). is_unsupported (option_map_or (λ (y : EndpointInfo). y.kind) o Control)) (info e z here)

    packet : (e : ℕ) (z : EndpointInfo) → info_at x.config e ≡ Some z → packet_size_of setup d e ≡ z.packet_size
    packet e z here = ap (λ (o : Option EndpointInfo). option_map_or (λ (y : EndpointInfo). y.packet_size) o 0) (info e z here)

    size : (e : ℕ) (z : EndpointInfo) → info_at x.config e ≡ Some z → is_unsupported z.kind ≡ false → (o : Option Context) → RingIs setup d e (pipe_at s.pipes e) (endpoints d e) o → z.packet_size ≤ (pipe_at s.pipes e).size
    size e z here supported None none = let both : true ≡ false = sym none.unsupported ∙ (kind e z here ∙ supported) in absurd cc
    size e z here supported (Some c) has = omega (arith, has.fits, has.size, packet e z here)

    ring : (e : ℕ) (z : EndpointInfo) → info_at x.config e ≡ Some z → (o : Option Context) → RingIs setup d e (pipe_at s.pipes e) (endpoints d e) o → RingOf d e z o
    ring e z here None none = sym (kind e z here) ∙ none.unsupported
    ring e z here (Some c) has = record {
      supported = sym (kind e z here) ∙ has.supported;
      slot = has.slot;
      id = has.id;
      size = has.size ∙ packet e z here;
      base = has.base;
    }

-- and the controller
pub is_of : IsOfHeld
is_of setup k gone endpoints orders events posted is = record {
  slots = is.slots;
  each = λ d x s there at. slot_held setup d x s gone endpoints there (is.each d s at);
}
