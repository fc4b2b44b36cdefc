-- Parts that are fed show the world where more is left.
use Rattle.std.proofs.Common.{◌≡◌, ℕ, zero, suc, ◌<◌, ◌≤◌, ◌==◌, ◌&&◌, Bool, true, false, nat_lt, List, [], ◌∷◌, ◌++◌, length, map, Option, Some, None, slice_get, slice_set, ap, sym, subst, ◌∙◌, refl, arith, lt-ltb, ltb-true}
use Rattle.std.specs.Option.{option_and_then, option_map, option_map_or, unwrap_or}
use Rattle.std.proofs.lemmas.Bool.{and_from, and_parts, eq-eqb, eqb-true}
use Rattle.std.proofs.lemmas.Option.{same_Some, slice_get-map, slice_get_within}
use Rattle.usb_model.specs.declared.handle.Handle.{Handle}
use Rattle.usb_model.specs.declared.response.Response.{Response}
use Rattle.usb_model.specs.declared.result.TransferResult.{TransferResult}
use Rattle.usb_model.specs.declared.setup.DeviceSetup.{DeviceSetup}
use Rattle.usb_model.specs.declared.setup.EndpointInfo.{EndpointInfo}
use Rattle.usb_model.specs.Limits.{longest_script}
use Rattle.usb_model.specs.Requests.{is_unsupported}
use Rattle.usb_model.specs.Setup.{Setup, endpoint_id, info_of, interface_of, is_in, kind_of, script_at}
use Rattle.usb_model.specs.World.{World, holder}
use Rattle.usb_model.specs.Kept.{KeptEndpoint}
use Rattle.usb_device.specs.Feeds.{may_be_fed}
use Rattle.usb_device.specs.Pipe.{Pipe, no_pipe, pipe_at}
use Rattle.usb_device.specs.Scripts.{is_answer}
use Rattle.usb_xhc.specs.Context.{Context}
use Rattle.usb_xhc.specs.Controller.{Controller}
use Rattle.usb_xhc.specs.Feeds.{controller_fed, slot_fed}
use Rattle.usb_xhc.specs.Slots.{DeviceSlot, context_of}
use Rattle.usb_tables.specs.TransfersInFlight.{keys_at, line_at}
use Rattle.refine_world.specs.Lively.{ends_from}
use Rattle.refine_world.specs.Shows.{Core}
use Rattle.refine_world.specs.Fed.{changed_at, device_fed, fed, fed_at}
use Rattle.refine_world.specs.FedCore.{core_with, kept_with}
use Rattle.refine_world.specs.Living.{GoesOn, More, world_with}
use Rattle.refine_world.proofs.Fed.{fed_goes_on}
use Rattle.refine_world.proofs.FedCore.{shows_fed}
use Rattle.refine_world.proofs.Worlds.{holder_same}
use Rattle.refine_rings.specs.Holds.{IsSlot, RingIs}
use Rattle.refine_rings.specs.Made.{IsRead}
use Rattle.refine_rings.proofs.Feeds.{holds_fed, interface_same, length_changed, may_there, read_fed}
use Rattle.refine_rings.proofs.Fine as made
use Rattle.refine_rings.proofs.Lookups.{get_set, get_set_other}
use Rattle.refine_rings.proofs.SlotChanges.{slot_changed_is}
use Rattle.refine_rings.proofs.Slots.{slot_there}
use Rattle.refine_core.specs.Feeds.{FeedsFeedable, FeedsOnlyFeedable, FeedsWorlds, IsFeedable, may_be_fed_at, state_fed}
use Rattle.refine_core.specs.State.{AllNameBuffers, Keeps, KeepsEnd, KeepsName, NameBuffers, State}

-- what a change of a script leaves as it is
same_mapped : {A B : Type 0} (g : A → B) (f : A → A) (i : ℕ) (xs : List A) → ((x : A) → g (f x) ≡ g x) → map g (changed_at f i xs) ≡ map g xs
same_mapped g f i [] same = refl
same_mapped g f zero (x ∷ xs) same = ap (λ y. y ∷ map g xs) (same x)
same_mapped g f (suc i) (x ∷ xs) same = ap (λ ys. g x ∷ ys) (same_mapped g f i xs same)

same_ends : (id : ℕ) (more : List Response) (i n : ℕ) (xs : Setup) → ends_from n (changed_at (device_fed id more) i xs) ≡ ends_from n xs
same_ends id more i n [] = refl
same_ends id more zero n (x ∷ xs) = refl
same_ends id more (suc i) n (x ∷ xs) = ap (λ ys. map (λ (y : EndpointInfo). (n, y.address)) x.config.endpoints ++ ys) (same_ends id more i (suc n) xs)

module _ {P : Type 0} where
  named_same : (s t : State P) (h : ℕ) (x : Handle) (results : List TransferResult) → t.claims ≡ s.claims → t.callers ≡ s.callers → KeepsName s h x results → KeepsName t h x results
  named_same s t h x results claims callers q = record {
    device = rw claims q.device;
    number = rw callers q.number;
    callback = λ n. rw callers (q.callback n);
    called = λ e plain. rw callers (q.called e plain);
    waiting = λ e plain. rw callers (q.waiting e plain);
    plain = q.plain;
  }

  end_same : (s t : State P) (name : Option ℕ) (d e : ℕ) (rest : List Response) (b : KeptEndpoint) → t.flights ≡ s.flights → t.outstanding ≡ s.outstanding → KeepsEnd s name d e b → KeepsEnd t name d e (kept_with rest b)
  end_same s t name d e rest b flights outstanding q = record { line = rw flights q.line; errand = rw outstanding q.errand }

  buffers_fed : (s : State P) (dev ep : ℕ) (a : Response) → may_be_fed_at dev ep a s ≡ true → NameBuffers s → NameBuffers (state_fed dev ep a s)
  buffers_fed s dev ep a may named d e v x there at = by_device (dev == d) refl
    where
      old : DeviceSlot
      old = (may_there s.controller dev ep a may).0

      old_at : slice_get s.controller.slots dev ≡ Some old
      old_at = (may_there s.controller dev ep a may).1

      now : slice_get (slice_set s.controller.slots dev (slot_fed ep a old)) d ≡ Some v
      now = ap (λ (k : Controller). slice_get k.slots d) (sym (slot_changed_is s.controller dev old (slot_fed ep a) old_at)) ∙ there

      by_device : (b : Bool) → (dev == d) ≡ b → AllNameBuffers x.size (keys_at s.flights.keys d e) (line_at s.flights d e) x.ring.line.items
      by_device true same =
          let one : dev ≡ d = eqb-true dev d same in
          let is : slot_fed ep a old ≡ v =
          same_Some (slot_fed ep a old) v (sym (get_set s.controller.slots dev (slot_fed ep a old) (slice_get_within s.controller.slots dev old old_at)) ∙ ap (slice_get (slice_set s.controller.slots dev (slot_fed ep a old))) one ∙ now) in
          named d e old x (ap (slice_get s.controller.slots) (sym one) ∙ old_at) (ap (λ (z : DeviceSlot). context_of z e) is ∙ at)
      by_device false apart =
          let other : d ≡ dev → ⊥ = λ same. absurd (cc (apart, eq-eqb dev d (sym same))) in
          named d e v x (sym (get_set_other s.controller.slots dev d (slot_fed ep a old) other) ∙ now) at

  -- the parts keep the core where more is left
  keeps_fed : (setup : Setup) (s : State P) (c : Core) (dev ep : ℕ) (a : Response) → may_be_fed_at dev ep a s ≡ true → Keeps setup s c
      → Keeps (fed setup dev (endpoint_id ep) (a ∷ [])) (state_fed dev ep a s) (core_with (fed_at setup dev (endpoint_id ep) (a ∷ [])) c)
  keeps_fed setup s c dev ep a may k = record {
    set = same_mapped (λ (x : DeviceSetup). x.config) (device_fed (endpoint_id ep) (a ∷ [])) dev setup (λ x. refl) ∙ k.set;
    plain = (made.fine longer read).0;
    fine = (made.fine longer read).2;
    read = read;
    few = omega (arith, k.few, length_changed (device_fed (endpoint_id ep) (a ∷ [])) dev setup);
    bounded = subst (λ (xs : List (ℕ × ℕ)). length xs ≤ 120) (sym (same_ends (endpoint_id ep) (a ∷ []) dev 0 setup)) k.bounded;
    lanes = k.lanes;
    keyed = k.keyed;
    cells = k.cells;
    buffers = buffers_fed s dev ep a may k.buffers;
    held = holds_fed setup s.controller c.gone c.endpoints c.orders c.events c.posted dev ep a may k.held;
    claimed = k.claimed;
    named = λ h. named_same s (state_fed dev ep a s) h (c.names h) _ refl refl (k.named h);
    ended = k.ended;
    ended_plain = k.ended_plain;
    ends = λ d e i at.
        subst (λ (name : Option ℕ). KeepsEnd (state_fed dev ep a s) name d e (kept_with (more d e) (c.endpoints d e))) (sym (holder_same setup longer more c.claims d e g))
        (end_same s (state_fed dev ep a s) (holder setup c.claims d e) d e (more d e) (c.endpoints d e) refl refl (k.ends d e i (sym (interface_same setup longer more d e g) ∙ at)));
    free = λ d e i at none. k.free d e i (sym (interface_same setup longer more d e g) ∙ at) (sym (holder_same setup longer more c.claims d e g) ∙ none);
  }
    where
      more : More
      more = fed_at setup dev (endpoint_id ep) (a ∷ [])

      longer : Setup
      longer = fed setup dev (endpoint_id ep) (a ∷ [])

      g : GoesOn setup longer more
      g = fed_goes_on setup dev (endpoint_id ep) (a ∷ [])

      read : (d : ℕ) (x : DeviceSetup) → slice_get longer d ≡ Some x → IsRead x
      read = read_fed setup s.controller dev ep a may k.read

pub feeds : {P : Type 0} → FeedsWorlds P
feeds s dev ep a may setup w shows =
    let more = fed_at setup dev (endpoint_id ep) (a ∷ []) in (
      core_with more shows.0,
      keeps_fed setup s shows.0 dev ep a may shows.1,
      shows_fed setup (fed setup dev (endpoint_id ep) (a ∷ [])) more w shows.0 (fed_goes_on setup dev (endpoint_id ep) (a ∷ [])) shows.1.fine shows.2,
    )

-- the script of a slot's pipe is the device's
script_is : (setup : Setup) (d ep : ℕ) (s : DeviceSlot) (gone : ℕ → Bool) (endpoints : ℕ → ℕ → KeptEndpoint) (x : DeviceSetup) → slice_get setup d ≡ Some x → IsSlot setup d s gone endpoints
    → script_at setup d (endpoint_id ep) ≡ (pipe_at s.pipes ep).script
script_is setup d ep s gone endpoints x there is =
    ap (λ (o : Option DeviceSetup). unwrap_or (option_and_then (λ (y : DeviceSetup). slice_get y.scripts (endpoint_id ep)) o) []) there
    ∙ ap (λ (xs : List (List Response)). unwrap_or (slice_get xs (endpoint_id ep)) []) (is.scripts x there)
    ∙ ap (λ (o : Option (List Response)). unwrap_or o []) (slice_get-map (λ (p : Pipe). p.script) s.pipes (endpoint_id ep))
    ∙ by_pipe (slice_get s.pipes (endpoint_id ep))
  where
    by_pipe : (o : Option Pipe) → unwrap_or (option_map (λ (p : Pipe). p.script) o) [] ≡ (unwrap_or o no_pipe).script
    by_pipe None = refl
    by_pipe (Some p) = refl

nothing_there : (setup : Setup) (d ep : ℕ) → slice_get setup d ≡ None → interface_of setup d ep ≡ None
unfolding info_of
nothing_there setup d ep none = rw none refl

script_none : (setup : Setup) (d ep : ℕ) → slice_get setup d ≡ None → script_at setup d (endpoint_id ep) ≡ []
script_none setup d ep none = ap (λ (o : Option DeviceSetup). unwrap_or (option_and_then (λ (y : DeviceSetup). slice_get y.scripts (endpoint_id ep)) o) []) none

pub only_feedable : {P : Type 0} → FeedsOnlyFeedable P
only_feedable s setup w dev ep a shows may = record { answer = parts.0; room = by_device (slice_get setup dev) refl }
  where
    there : (v : DeviceSlot) × (slice_get s.controller.slots dev ≡ Some v) × (may_be_fed ep a (pipe_at v.pipes ep) ≡ true)
    there = may_there s.controller dev ep a may

    p : Pipe
    p = pipe_at there.0.pipes ep

    rest : (is_answer (is_in ep) a && nat_lt (length p.script) longest_script) ≡ true
    rest = (and_parts (nat_lt 0 p.size) (is_answer (is_in ep) a && nat_lt (length p.script) longest_script) there.2).1

    parts : (is_answer (is_in ep) a ≡ true) × (nat_lt (length p.script) longest_script ≡ true)
    parts = and_parts (is_answer (is_in ep) a) (nat_lt (length p.script) longest_script) rest

    few : length p.script < longest_script
    few = ltb-true (length p.script) longest_script parts.1

    by_device : (o : Option DeviceSetup) → slice_get setup dev ≡ o → length (script_at setup dev (endpoint_id ep)) < longest_script
    by_device None none = subst (λ (l : List Response). length l < longest_script) (sym (script_none setup dev ep none)) (omega arith)
    by_device (Some x) at = subst (λ (l : List Response). length l < longest_script) (sym (script_is setup dev ep there.0 shows.0.gone shows.0.endpoints x at (shows.1.held.each dev there.0 there.1))) few

pub feedable : {P : Type 0} → FeedsFeedable P
feedable s setup w dev ep i a shows at supported is =
    ap (λ (o : Option DeviceSlot). option_map_or (λ (v : DeviceSlot). may_be_fed ep a (pipe_at v.pipes ep)) o false) old_at
    ∙ and_from (nat_lt 0 p.size) (is_answer (is_in ep) a && nat_lt (length p.script) longest_script) (lt-ltb 0 p.size (sized (context_of old ep) (slot.ends ep i at).ring))
    (and_from (is_answer (is_in ep) a) (nat_lt (length p.script) longest_script) is.answer (lt-ltb (length p.script) longest_script (by_device (slice_get setup dev) refl)))
  where
    c : Core
    c = shows.0

    there : (v : DeviceSlot) × (slice_get s.controller.slots dev ≡ Some v)
    there = slot_there setup s.controller c.gone c.endpoints c.orders c.events c.posted dev ep i shows.1.held at

    old : DeviceSlot
    old = there.0

    old_at : slice_get s.controller.slots dev ≡ Some old
    old_at = there.1

    slot : IsSlot setup dev old c.gone c.endpoints
    slot = shows.1.held.each dev old old_at

    p : Pipe
    p = pipe_at old.pipes ep

    sized : (o : Option Context) → RingIs setup dev ep p (c.endpoints dev ep) o → 0 < p.size
    sized None ring = absurd (cc (ring.unsupported, supported))
    sized (Some x) ring = omega (arith, ring.fits, ring.size, shows.1.fine.sizes dev ep i at supported)

    by_device : (o : Option DeviceSetup) → slice_get setup dev ≡ o → length p.script < longest_script
    by_device None none = absurd (cc (at, none_at none))
      where
        none_at : slice_get setup dev ≡ None → interface_of setup dev ep ≡ None
        none_at gone = nothing_there setup dev ep gone
    by_device (Some x) here = subst (λ (l : List Response). length l < longest_script) (script_is setup dev ep old c.gone c.endpoints x here slot) is.room
