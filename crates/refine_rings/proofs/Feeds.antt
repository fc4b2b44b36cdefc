-- A controller whose device is fed holds the core where more is left.
use Rattle.std.proofs.Common.{◌≡◌, ℕ, zero, suc, ◌<◌, ◌==◌, ◌&&◌, Bool, true, false, nat_lt, List, [], ◌∷◌, ◌++◌, length, map, Option, Some, None, slice_get, slice_set, ap, ap₂, sym, subst, ◌∙◌, refl, arith, append-nil, length-set}
use Rattle.std.specs.Prelude.{if◌then◌else◌, is_some, option_map}
use Rattle.std.specs.Option.{option_and_then, option_map_or, unwrap_or}
use Rattle.std.specs.List.{list_all}
use Rattle.std.proofs.lemmas.Bool.{and_from, and_parts, eq-eqb, eqb-true}
use Rattle.std.proofs.lemmas.List.Folds.{list_all-append}
use Rattle.std.proofs.lemmas.Option.{same_Some, slice_get-map, slice_get_within}
use Rattle.usb_model.specs.declared.errand.Errand.{Errand}
use Rattle.usb_model.specs.declared.errand.Errand.TheVariants as errand
use Rattle.usb_model.specs.declared.request.Kind.TheVariants.{Control}
use Rattle.usb_model.specs.declared.response.Response.{Response}
use Rattle.usb_model.specs.declared.setup.DeviceSetup.{DeviceSetup}
use Rattle.usb_model.specs.declared.setup.EndpointInfo.{EndpointInfo}
use Rattle.usb_model.specs.Direction.{is_of_direction}
use Rattle.usb_model.specs.Requests.{is_unsupported}
use Rattle.usb_model.specs.Setup.{Setup, endpoint_id, info_of, interface_of, is_in, kind_of}
use Rattle.usb_trb.specs.declared.kind.TrbKind.{TrbKind}
use Rattle.usb_model.specs.Kept.{KeptEndpoint}
use Rattle.usb_device.specs.Feeds.{may_be_fed, pipe_fed}
use Rattle.usb_device.specs.Pipe.{Pipe, no_pipe, pipe_at}
use Rattle.usb_device.specs.Scripts.{script_by}
use Rattle.usb_device.proofs.Feeds.{at_other, at_set, fits}
use Rattle.usb_device.proofs.Fits.{same-direction}
use Rattle.usb_xhc.specs.Context.{Context}
use Rattle.usb_xhc.specs.Controller.{Controller}
use Rattle.usb_xhc.specs.Feeds.{controller_fed, device_may_be_fed, slot_fed}
use Rattle.usb_xhc.specs.Slots.{DeviceSlot, context_of}
use Rattle.refine_world.specs.Shows.{RingEvent, RingOrder}
use Rattle.refine_world.specs.Fed.{changed_at, device_fed, fed, fed_at, has_script}
use Rattle.refine_world.specs.FedCore.{kept_with}
use Rattle.refine_world.specs.Living.{GoesOn, More}
use Rattle.refine_world.proofs.Effects.{info_same, size_same}
use Rattle.refine_world.proofs.Fed.{fed_goes_on, got}
use Rattle.refine_rings.specs.Endpoint.{IsPipe}
use Rattle.refine_rings.specs.Feeds.{FeedsCore, ends_with}
use Rattle.refine_rings.specs.Holds.{AllPosted, HasNone, HasRing, Holds, IsEnd, IsPosted, IsSlot, RingIs}
use Rattle.refine_rings.specs.Made.{AreLawful, IsRead}
use Rattle.refine_rings.proofs.Ids.{id-lt}
use Rattle.refine_rings.proofs.Lookups.{get_set, get_set_other}
use Rattle.refine_rings.proofs.SlotChanges.{slot_changed_is}
use Rattle.refine_rings.proofs.Slots.{end_from}

-- an endpoint with these answers behind its script
abbrev pub pipe_with : List Response → Pipe → Pipe
pipe_with rest p = record p { script = p.script ++ rest; left = p.left ++ rest }

none_more : (p : Pipe) → pipe_with [] p ≡ p
none_more p = ap₂ (λ (x y : List Response). record p { script = x; left = y }) (append-nil p.script) (append-nil p.left)

-- what the configurations say is the same
pub interface_same : (setup longer : Setup) (more : More) (d e : ℕ) → GoesOn setup longer more → interface_of longer d e ≡ interface_of setup d e
interface_same setup longer more d e g = ap (option_map (λ (x : EndpointInfo). x.interface)) (info_same setup longer more d e g)

kind_same : (setup longer : Setup) (more : More) (d e : ℕ) → GoesOn setup longer more → kind_of longer d e ≡ kind_of setup d e
kind_same setup longer more d e g = ap (λ o. option_map_or (λ (x : EndpointInfo). x.kind) o Control) (info_same setup longer more d e g)

-- a ring doesn't look at what is left
ring_more : (setup longer : Setup) (more : More) (d e : ℕ) (p : Pipe) (b : KeptEndpoint) (o : Option Context) → GoesOn setup longer more
    → RingIs setup d e p b o → RingIs longer d e (pipe_with (more d e) p) (kept_with (more d e) b) o
ring_more setup longer more d e p b None g is = record {
  unsupported = ap is_unsupported (kind_same setup longer more d e g) ∙ is.unsupported;
  line = is.line;
  errand = is.errand;
  begins = record { left = ap (λ (l : List Response). l ++ more d e) is.begins.left; halted = is.begins.halted; taken = is.begins.taken };
}
ring_more setup longer more d e p b (Some c) g is = record {
  supported = ap is_unsupported (kind_same setup longer more d e g) ∙ is.supported;
  context = is.context;
  slot = is.slot;
  id = is.id;
  size = is.size ∙ sym (size_same setup longer more d e g);
  fits = is.fits;
  base = is.base;
}

-- an endpoint of a slot, where its device has more left
end_more : (setup longer : Setup) (more : More) (s t : DeviceSlot) (d e : ℕ) (b : KeptEndpoint) → GoesOn setup longer more → context_of t e ≡ context_of s e
    → pipe_at t.pipes e ≡ pipe_with (more d e) (pipe_at s.pipes e) → IsEnd setup s d e b → IsEnd longer t d e (kept_with (more d e) b)
end_more setup longer more s t d e b g c p is =
    end_from longer t d e (kept_with (more d e) b) (pipe_with (more d e) (pipe_at s.pipes e)) (context_of s e) c p
    (record { left = ap (λ (l : List Response). l ++ more d e) is.pipe.left; halted = is.pipe.halted; taken = is.pipe.taken })
    (ap (λ (l : List Response). l ++ more d e) is.script ∙ sym (g.scripts d e))
    (ring_more setup longer more d e (pipe_at s.pipes e) b (context_of s e) g is.ring)

-- the scripts behind the change, as pipes have them
scripts_fed : (a : Response) (i : ℕ) (ps : List Pipe) → changed_at (λ s. s ++ a ∷ []) i (map (λ (p : Pipe). p.script) ps) ≡ map (λ (p : Pipe). p.script) (slice_set ps i (pipe_fed a (unwrap_or (slice_get ps i) no_pipe)))
scripts_fed a i [] = refl
scripts_fed a zero (p ∷ ps) = refl
scripts_fed a (suc i) (p ∷ ps) = ap (λ xs. p.script ∷ xs) (scripts_fed a i ps)

pub length_changed : {A : Type 0} (f : A → A) (i : ℕ) (xs : List A) → length (changed_at f i xs) ≡ length xs
length_changed f i [] = refl
length_changed f zero (x ∷ xs) = refl
length_changed f (suc i) (x ∷ xs) = ap suc (length_changed f i xs)

-- the device that is fed, and the others
there_fed : (setup : Setup) (dev id : ℕ) (more : List Response) → slice_get (fed setup dev id more) dev ≡ option_map (device_fed id more) (slice_get setup dev)
there_fed setup dev id more =
    got (device_fed id more) dev dev setup ∙ ap (λ b. if b then option_map (device_fed id more) (slice_get setup dev) else slice_get setup dev) (eq-eqb dev dev refl)

there_still : (setup : Setup) (dev id : ℕ) (more : List Response) (d : ℕ) → (dev == d) ≡ false → slice_get (fed setup dev id more) d ≡ slice_get setup d
there_still setup dev id more d apart =
    got (device_fed id more) dev d setup ∙ ap (λ b. if b then option_map (device_fed id more) (slice_get setup d) else slice_get setup d) apart

-- an endpoint of an interface is there
is_there : (o : Option EndpointInfo) (i : ℕ) → option_map (λ (x : EndpointInfo). x.interface) o ≡ Some i → is_some o ≡ true
is_there None i h = absurd cc
is_there (Some x) i h = refl

-- a slot has a script at each id
scripted : (setup : Setup) (d e : ℕ) (s : DeviceSlot) (gone : ℕ → Bool) (endpoints : ℕ → ℕ → KeptEndpoint) (o : Option DeviceSetup) → slice_get setup d ≡ o → IsSlot setup d s gone endpoints → is_some o ≡ true
    → is_some (option_and_then (λ (x : DeviceSetup). slice_get x.scripts (endpoint_id e)) o) ≡ true
scripted setup d e s gone endpoints None at is some = absurd cc
scripted setup d e s gone endpoints (Some x) at is some =
    ap (λ (xs : List (List Response)). is_some (slice_get xs (endpoint_id e))) (is.scripts x at)
    ∙ ap is_some (slice_get-map (λ (p : Pipe). p.script) s.pipes (endpoint_id e))
    ∙ mapped (slice_get s.pipes (endpoint_id e)) (slice_get_in s.pipes (endpoint_id e) (omega (arith, id-lt e, is.pipes)))
  where
    mapped : (o : Option Pipe) → is_some o ≡ true → is_some (option_map (λ (p : Pipe). p.script) o) ≡ true
    mapped None h = absurd cc
    mapped (Some p) h = refl

    slice_get_in : (ps : List Pipe) (i : ℕ) → i < length ps → is_some (slice_get ps i) ≡ true
    slice_get_in [] i l = absurd (omega (arith, l))
    slice_get_in (p ∷ ps) zero l = refl
    slice_get_in (p ∷ ps) (suc i) l = slice_get_in ps i (omega (arith, l))

device_there : (setup : Setup) (d e i : ℕ) → interface_of setup d e ≡ Some i → is_some (slice_get setup d) ≡ true
unfolding info_of
device_there setup d e i at = by_device (slice_get setup d) refl
  where
    by_device : (o : Option DeviceSetup) → slice_get setup d ≡ o → is_some o ≡ true
    by_device None none = absurd (cc (at, none))
    by_device (Some x) there = refl

-- an endpoint of the device that is fed
pipe_more : (setup : Setup) (dev ep : ℕ) (a : Response) (s : DeviceSlot) (gone : ℕ → Bool) (endpoints : ℕ → ℕ → KeptEndpoint) (e i : ℕ) → IsSlot setup dev s gone endpoints → interface_of setup dev e ≡ Some i
    → pipe_at (slot_fed ep a s).pipes e ≡ pipe_with (fed_at setup dev (endpoint_id ep) (a ∷ []) dev e) (pipe_at s.pipes e)
pipe_more setup dev ep a s gone endpoints e i is at = by_id (endpoint_id ep == endpoint_id e) refl
  where
    new : Pipe
    new = pipe_fed a (pipe_at s.pipes ep)

    by_id : (b : Bool) → (endpoint_id ep == endpoint_id e) ≡ b
        → pipe_at (slice_set s.pipes (endpoint_id ep) new) e ≡ pipe_with (if (dev == dev) && ((endpoint_id ep == endpoint_id e) && (is_some (info_of setup dev e) && has_script setup dev (endpoint_id ep))) then a ∷ [] else []) (pipe_at s.pipes e)
    by_id true same =
        let id : endpoint_id ep ≡ endpoint_id e = eqb-true (endpoint_id ep) (endpoint_id e) same in
        let few : endpoint_id ep < length s.pipes = omega (arith, id-lt ep, is.pipes) in
        let script : has_script setup dev (endpoint_id ep) ≡ true = scripted setup dev ep s gone endpoints (slice_get setup dev) refl is (device_there setup dev e i at) in
        at_set s.pipes (endpoint_id ep) e new (sym id) few
        ∙ ap (λ j. pipe_fed a (unwrap_or (slice_get s.pipes j) no_pipe)) id
        ∙ rw (eq-eqb dev dev refl, same, is_there (info_of setup dev e) i at, script) refl
    by_id false apart =
        let other : endpoint_id e ≡ endpoint_id ep → ⊥ = λ same. absurd (cc (apart, eq-eqb (endpoint_id ep) (endpoint_id e) (sym same))) in
        at_other s.pipes (endpoint_id ep) e new other ∙ sym (none_more (pipe_at s.pipes e)) ∙ rw (eq-eqb dev dev refl, apart) refl

-- the slot of the device that is fed
slot_more : (setup : Setup) (dev ep : ℕ) (a : Response) (s : DeviceSlot) (gone : ℕ → Bool) (endpoints : ℕ → ℕ → KeptEndpoint) → IsSlot setup dev s gone endpoints
    → IsSlot (fed setup dev (endpoint_id ep) (a ∷ [])) dev (slot_fed ep a s) gone (ends_with (fed_at setup dev (endpoint_id ep) (a ∷ [])) endpoints)
slot_more setup dev ep a s gone endpoints is = record {
  contexts = is.contexts;
  pipes = length-set s.pipes (endpoint_id ep) (pipe_fed a (pipe_at s.pipes ep)) ∙ is.pipes;
  is_gone = is.is_gone;
  scripts = λ x at. by_device (slice_get setup dev) refl x (sym (there_fed setup dev (endpoint_id ep) (a ∷ [])) ∙ at);
  ends = λ e i at.
      let here = sym (interface_same setup longer more dev e g) ∙ at in
      end_more setup longer more s (slot_fed ep a s) dev e (endpoints dev e) g refl (pipe_more setup dev ep a s gone endpoints e i is here) (is.ends e i here);
}
  where
    more : More
    more = fed_at setup dev (endpoint_id ep) (a ∷ [])

    longer : Setup
    longer = fed setup dev (endpoint_id ep) (a ∷ [])

    g : GoesOn setup longer more
    g = fed_goes_on setup dev (endpoint_id ep) (a ∷ [])

    by_device : (o : Option DeviceSetup) → slice_get setup dev ≡ o → (x : DeviceSetup) → option_map (device_fed (endpoint_id ep) (a ∷ [])) o ≡ Some x
        → x.scripts ≡ map (λ (p : Pipe). p.script) (slot_fed ep a s).pipes
    by_device None none x at = absurd cc
    by_device (Some y) there x at =
        ap (λ (z : DeviceSetup). z.scripts) (sym (same_Some (device_fed (endpoint_id ep) (a ∷ []) y) x at))
        ∙ ap (changed_at (λ l. l ++ a ∷ []) (endpoint_id ep)) (is.scripts y there)
        ∙ scripts_fed a (endpoint_id ep) s.pipes

-- the slot of another one
slot_still : (setup : Setup) (dev ep : ℕ) (a : Response) (d : ℕ) (s : DeviceSlot) (gone : ℕ → Bool) (endpoints : ℕ → ℕ → KeptEndpoint) → (dev == d) ≡ false → IsSlot setup d s gone endpoints
    → IsSlot (fed setup dev (endpoint_id ep) (a ∷ [])) d s gone (ends_with (fed_at setup dev (endpoint_id ep) (a ∷ [])) endpoints)
slot_still setup dev ep a d s gone endpoints apart is = record {
  contexts = is.contexts;
  pipes = is.pipes;
  is_gone = is.is_gone;
  scripts = λ x at. is.scripts x (sym (there_still setup dev (endpoint_id ep) (a ∷ []) d apart) ∙ at);
  ends = λ e i at.
      let here = sym (interface_same setup longer more d e g) ∙ at in
      end_more setup longer more s s d e (endpoints d e) g refl (sym (none_more (pipe_at s.pipes e)) ∙ rw apart refl) (is.ends e i here);
}
  where
    more : More
    more = fed_at setup dev (endpoint_id ep) (a ∷ [])

    longer : Setup
    longer = fed setup dev (endpoint_id ep) (a ∷ [])

    g : GoesOn setup longer more
    g = fed_goes_on setup dev (endpoint_id ep) (a ∷ [])

-- orders don't look at what is left
posted_more : (rest : List Response) (b : KeptEndpoint) (d e : ℕ) (x : Errand) (k : TrbKind) → IsPosted b d e x k → IsPosted (kept_with rest b) d e x k
posted_more rest b d e errand.Stop k is = is
posted_more rest b d e errand.Reset k is = is
posted_more rest b d e errand.Move k is = is

all_posted_more : (more : More) (endpoints : ℕ → ℕ → KeptEndpoint) (os : List RingOrder) (ks : List TrbKind) → AllPosted endpoints os ks → AllPosted (ends_with more endpoints) os ks
all_posted_more more endpoints [] [] is = tt
all_posted_more more endpoints (o ∷ os) (k ∷ ks) is = (posted_more (more o.dev o.ep) (endpoints o.dev o.ep) o.dev o.ep o.errand k is.0, all_posted_more more endpoints os ks is.1)
all_posted_more more endpoints [] (k ∷ ks) is = absurd is
all_posted_more more endpoints (o ∷ os) [] is = absurd is

-- the slot where a device that may be fed is
pub may_there : (k : Controller) (dev ep : ℕ) (a : Response) → device_may_be_fed dev ep a k ≡ true → (s : DeviceSlot) × (slice_get k.slots dev ≡ Some s) × (may_be_fed ep a (pipe_at s.pipes ep) ≡ true)
may_there k dev ep a may = by_slot (slice_get k.slots dev) refl may
  where
    by_slot : (o : Option DeviceSlot) → slice_get k.slots dev ≡ o → option_map_or (λ (s : DeviceSlot). may_be_fed ep a (pipe_at s.pipes ep)) o false ≡ true
        → (s : DeviceSlot) × (slice_get k.slots dev ≡ Some s) × (may_be_fed ep a (pipe_at s.pipes ep) ≡ true)
    by_slot None at is = absurd cc
    by_slot (Some s) at is = (s, at, is)

-- the controller
pub holds_fed : FeedsCore
holds_fed setup k gone endpoints orders events posted dev ep a may h =
    subst (λ (v : Controller). Holds longer v gone (ends_with more endpoints) orders events posted) (sym (slot_changed_is k dev old (slot_fed ep a) at))
    (record {
      slots = length-set k.slots dev new ∙ h.slots ∙ sym (length_changed (device_fed (endpoint_id ep) (a ∷ [])) dev setup);
      each = λ d t there. each d t (dev == d) refl there;
      ordered = all_posted_more more endpoints orders k.commands.waits h.ordered;
      told = h.told;
      count = h.count;
    })
  where
    more : More
    more = fed_at setup dev (endpoint_id ep) (a ∷ [])

    longer : Setup
    longer = fed setup dev (endpoint_id ep) (a ∷ [])

    old : DeviceSlot
    old = (may_there k dev ep a may).0

    at : slice_get k.slots dev ≡ Some old
    at = (may_there k dev ep a may).1

    new : DeviceSlot
    new = slot_fed ep a old

    each : (d : ℕ) (t : DeviceSlot) (b : Bool) → (dev == d) ≡ b → slice_get (slice_set k.slots dev new) d ≡ Some t → IsSlot longer d t gone (ends_with more endpoints)
    each d t true same there =
        let one : dev ≡ d = eqb-true dev d same in
        let is : new ≡ t = same_Some new t (sym (get_set k.slots dev new (slice_get_within k.slots dev old at)) ∙ ap (slice_get (slice_set k.slots dev new)) one ∙ there) in
        subst (λ (z : ℕ). IsSlot longer z t gone (ends_with more endpoints)) one (subst (λ (z : DeviceSlot). IsSlot longer dev z gone (ends_with more endpoints)) is (slot_more setup dev ep a old gone endpoints (h.each dev old at)))
    each d t false apart there =
        let other : d ≡ dev → ⊥ = λ same. absurd (cc (apart, eq-eqb dev d (sym same))) in
        slot_still setup dev ep a d t gone endpoints apart (h.each d t (sym (get_set_other k.slots dev d new other) ∙ there))

-- scripts that a device keeps the law by, where one goes on with an answer of its direction
lawful_more : (ep : ℕ) (a : Response) (scripts : List (List Response)) → is_of_direction (is_in ep) a ≡ true → AreLawful scripts → AreLawful (changed_at (λ l. l ++ a ∷ []) (endpoint_id ep) scripts)
lawful_more ep a scripts goes is = record {
  all = length_changed (λ l. l ++ a ∷ []) (endpoint_id ep) scripts ∙ is.all;
  fit = λ e. ap (λ (o : Option (List Response)). list_all (is_of_direction (is_in e)) (unwrap_or o [])) (got (λ l. l ++ a ∷ []) (endpoint_id ep) (endpoint_id e) scripts) ∙ by_id e (endpoint_id ep == endpoint_id e) refl (slice_get scripts (endpoint_id e)) (is.fit e);
}
  where
    by_id : (e : ℕ) (b : Bool) → (endpoint_id ep == endpoint_id e) ≡ b → (o : Option (List Response)) → list_all (is_of_direction (is_in e)) (unwrap_or o []) ≡ true
        → list_all (is_of_direction (is_in e)) (unwrap_or (if b then option_map (λ l. l ++ a ∷ []) o else o) []) ≡ true
    by_id e true same None all = refl
    by_id e true same (Some l) all =
        let one : is_of_direction (is_in e) a ≡ true = ap (λ (inward : Bool). is_of_direction inward a) (same-direction e ep (sym (eqb-true (endpoint_id ep) (endpoint_id e) same))) ∙ goes in
        list_all-append (is_of_direction (is_in e)) l (a ∷ []) ∙ and_from (list_all (is_of_direction (is_in e)) l) (is_of_direction (is_in e) a && true) all (and_from (is_of_direction (is_in e) a) true one refl)
    by_id e false apart o all = all

-- what was read is read, behind a feed
pub read_fed : (setup : Setup) (k : Controller) (dev ep : ℕ) (a : Response) → device_may_be_fed dev ep a k ≡ true → ((d : ℕ) (x : DeviceSetup) → slice_get setup d ≡ Some x → IsRead x)
    → (d : ℕ) (x : DeviceSetup) → slice_get (fed setup dev (endpoint_id ep) (a ∷ [])) d ≡ Some x → IsRead x
read_fed setup k dev ep a may read d x there = by_device (dev == d) refl
  where
    goes : is_of_direction (is_in ep) a ≡ true
    goes = let m = may_there k dev ep a may in fits ep a (pipe_at m.0.pipes ep) m.2

    fed_one : (y : DeviceSetup) → IsRead y → IsRead (device_fed (endpoint_id ep) (a ∷ []) y)
    fed_one y is = record { table = is.table; short = is.short; lawful = lawful_more ep a y.scripts goes is.lawful }

    by_setup : (o : Option DeviceSetup) → slice_get setup dev ≡ o → option_map (device_fed (endpoint_id ep) (a ∷ [])) o ≡ Some x → IsRead x
    by_setup None none at = absurd cc
    by_setup (Some y) is at = subst IsRead (same_Some (device_fed (endpoint_id ep) (a ∷ []) y) x at) (fed_one y (read dev y is))

    by_device : (b : Bool) → (dev == d) ≡ b → IsRead x
    by_device true same =
        by_setup (slice_get setup dev) refl (sym (there_fed setup dev (endpoint_id ep) (a ∷ [])) ∙ ap (slice_get (fed setup dev (endpoint_id ep) (a ∷ []))) (eqb-true dev d same) ∙ there)
    by_device false apart = read d x (sym (there_still setup dev (endpoint_id ep) (a ∷ []) d apart) ∙ there)
