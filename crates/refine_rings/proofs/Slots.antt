-- Slots of which one has another endpoint.
use Rattle.std.proofs.Common.{◌≡◌, ℕ, zero, suc, refl, ap, sym, subst, subst₂, ◌∙◌, arith, List, [], ◌∷◌, length, map, get_or, Some, None, Option, inl, inr, ◌⊎◌, length-set}
use Rattle.std.specs.Prelude.{slice_get, slice_index_or, slice_set, Bool}
use Rattle.std.specs.Option.{unwrap_or}
use Rattle.std.proofs.lemmas.Bool.{cases_eq}
use Rattle.std.proofs.lemmas.List.{ext_get_or, length-map}
use Rattle.std.proofs.lemmas.Option.{same_Some, slice_get_within}
use Rattle.usb_model.specs.declared.response.Response.{Response}
use Rattle.usb_model.specs.Setup.{Setup, endpoint_id, interface_of, script_of}
use Rattle.usb_model.specs.Kept.{KeptEndpoint}
use Rattle.usb_device.specs.Pipe.{Pipe, no_pipe, pipe_at}
use Rattle.usb_xhc.specs.Context.{Context}
use Rattle.usb_xhc.specs.Controller.{Controller}
use Rattle.usb_xhc.specs.Slots.{DeviceSlot, context_of}
use Rattle.refine_rings.specs.Endpoint.{IsPipe}
use Rattle.refine_world.specs.Shows.{RingEvent, RingOrder}
use Rattle.refine_rings.specs.Holds.{AllPosted, Holds, IsEnd, IsSlot, RingIs, with_end}
use Rattle.refine_rings.specs.Laws.{HasPlain}
use Rattle.refine_rings.proofs.Ends.{at_other, beside, here}
use Rattle.refine_rings.proofs.Ids.{has_device, same_id}
use Rattle.refine_rings.proofs.Lookups.{get_set, get_set_other, get_within}

-- a slot that differs from another at the endpoint of this id alone
pub record IsBut (id : ℕ) (s t : DeviceSlot) : Type 0 where
  pub contexts : length t.contexts ≡ length s.contexts
  pub pipes : length t.pipes ≡ length s.pipes
  pub is_gone : t.gone ≡ s.gone
  pub other_context : (j : ℕ) → (j ≡ id → ⊥) → slice_index_or t.contexts j None ≡ slice_index_or s.contexts j None
  pub other_pipe : (j : ℕ) → (j ≡ id → ⊥) → slice_get t.pipes j ≡ slice_get s.pipes j

-- it differs nowhere from itself
pub but_none : (id : ℕ) (s : DeviceSlot) → IsBut id s s
but_none id s = record { contexts = refl; pipes = refl; is_gone = refl; other_context = λ j o. refl; other_pipe = λ j o. refl }

-- an endpoint of a slot is one of a slot that has the same there
end_kept : (setup : Setup) (s t : DeviceSlot) (d e : ℕ) (b : KeptEndpoint) → context_of t e ≡ context_of s e → pipe_at t.pipes e ≡ pipe_at s.pipes e → IsEnd setup s d e b → IsEnd setup t d e b
end_kept setup s t d e b c p is = record {
  pipe = subst (λ (x : Pipe). IsPipe x b) (sym p) is.pipe;
  script = ap (λ (x : Pipe). x.script) p ∙ is.script;
  ring = subst₂ (λ (x : Pipe) (o : Option Context). RingIs setup d e x b o) (sym p) (sym c) is.ring;
}

-- an endpoint by its parts
pub end_from : (setup : Setup) (t : DeviceSlot) (d e : ℕ) (b : KeptEndpoint) (p : Pipe) (o : Option Context) → context_of t e ≡ o → pipe_at t.pipes e ≡ p
    → IsPipe p b → p.script ≡ script_of setup d e → RingIs setup d e p b o → IsEnd setup t d e b
end_from setup t d e b p o is_context is_pipe pipe script ring = record {
  pipe = subst (λ (x : Pipe). IsPipe x b) (sym is_pipe) pipe;
  script = ap (λ (x : Pipe). x.script) is_pipe ∙ script;
  ring = subst₂ (λ (x : Pipe) (y : Option Context). RingIs setup d e x b y) (sym is_pipe) (sym is_context) ring;
}

-- the same scripts, where that endpoint has the same
same_scripts : (id : ℕ) (s t : DeviceSlot) → IsBut id s t → (unwrap_or (slice_get t.pipes id) no_pipe).script ≡ (unwrap_or (slice_get s.pipes id) no_pipe).script → map (λ (p : Pipe). p.script) t.pipes ≡ map (λ (p : Pipe). p.script) s.pipes
same_scripts id s t but same = ext_get_or [] _ _ (length-map t.pipes script ∙ but.pipes ∙ sym (length-map s.pipes script)) (λ j below. by_id j (cases_eq j id))
  where
    script : Pipe → List Response
    script p = p.script

    at : (l : List Pipe) (j : ℕ) → get_or (map script l) j [] ≡ (unwrap_or (slice_get l j) no_pipe).script
    at [] j = refl
    at (p ∷ ps) zero = refl
    at (p ∷ ps) (suc j) = at ps j

    by_id : (j : ℕ) → (j ≡ id) ⊎ (j ≡ id → ⊥) → get_or (map script t.pipes) j [] ≡ get_or (map script s.pipes) j []
    by_id j (inl it) = at t.pipes j ∙ (ap (λ (n : ℕ). (unwrap_or (slice_get t.pipes n) no_pipe).script) it ∙ (same ∙ (ap (λ (n : ℕ). (unwrap_or (slice_get s.pipes n) no_pipe).script) (sym it) ∙ sym (at s.pipes j))))
    by_id j (inr other) = at t.pipes j ∙ (ap (λ (o : Option Pipe). (unwrap_or o no_pipe).script) (but.other_pipe j other) ∙ sym (at s.pipes j))

-- the device's slot with another endpoint
slot_with : (setup : Setup) (d e i : ℕ) (s t : DeviceSlot) (gone : ℕ → Bool) (endpoints : ℕ → ℕ → KeptEndpoint) (b : KeptEndpoint) → HasPlain setup → interface_of setup d e ≡ Some i
    → IsBut (endpoint_id e) s t → IsSlot setup d s gone endpoints → IsEnd setup t d e b → IsSlot setup d t gone (with_end endpoints d e b)
slot_with setup d e i s t gone endpoints b plain at but is end = record {
  contexts = but.contexts ∙ is.contexts;
  pipes = but.pipes ∙ is.pipes;
  is_gone = but.is_gone ∙ is.is_gone;
  scripts = λ x there. is.scripts x there ∙ sym (same_scripts (endpoint_id e) s t but (end.script ∙ sym (is.ends e i at).script));
  ends = λ f j h. by_end f j h (cases_eq e f);
}
  where
    by_end : (f j : ℕ) → interface_of setup d f ≡ Some j → (e ≡ f) ⊎ (e ≡ f → ⊥) → IsEnd setup t d f (with_end endpoints d e b d f)
    by_end f j h (inl same) = subst (λ (x : ℕ). IsEnd setup t d x (with_end endpoints d e b d x)) same (subst (λ (x : KeptEndpoint). IsEnd setup t d e x) (sym (here endpoints d e b)) end)
    by_end f j h (inr other) =
        let apart : endpoint_id f ≡ endpoint_id e → ⊥ = λ same. other (sym (same_id f e (plain d f j h) (plain d e i at) same)) in
        subst (λ (x : KeptEndpoint). IsEnd setup t d f x) (sym (beside endpoints d e b d f other))
        (end_kept setup s t d f (endpoints d f) (but.other_context (endpoint_id f) apart) (ap (λ (o : Option Pipe). unwrap_or o no_pipe) (but.other_pipe (endpoint_id f) apart)) (is.ends f j h))

-- another device's slot
slot_beside : (setup : Setup) (d e dev : ℕ) (s : DeviceSlot) (gone : ℕ → Bool) (endpoints : ℕ → ℕ → KeptEndpoint) (b : KeptEndpoint) → (d ≡ dev → ⊥) → IsSlot setup dev s gone endpoints → IsSlot setup dev s gone (with_end endpoints d e b)
slot_beside setup d e dev s gone endpoints b other is = record {
  contexts = is.contexts;
  pipes = is.pipes;
  is_gone = is.is_gone;
  scripts = is.scripts;
  ends = λ f j h. subst (λ (x : KeptEndpoint). IsEnd setup s dev f x) (sym (at_other endpoints d e b dev f other)) (is.ends f j h);
}

-- the slots of all devices
abbrev pub AllSlots : Setup → List DeviceSlot → (ℕ → Bool) → (ℕ → ℕ → KeptEndpoint) → Type 0
AllSlots setup slots gone endpoints = (d : ℕ) (s : DeviceSlot) → slice_get slots d ≡ Some s → IsSlot setup d s gone endpoints

-- with another endpoint of one
pub slots_with : (setup : Setup) (slots : List DeviceSlot) (d e i : ℕ) (s t : DeviceSlot) (gone : ℕ → Bool) (endpoints : ℕ → ℕ → KeptEndpoint) (b : KeptEndpoint) → HasPlain setup → interface_of setup d e ≡ Some i
    → slice_get slots d ≡ Some s → IsBut (endpoint_id e) s t → AllSlots setup slots gone endpoints → IsEnd setup t d e b → AllSlots setup (slice_set slots d t) gone (with_end endpoints d e b)
slots_with setup slots d e i s t gone endpoints b plain at there but all end = λ dev u h. by_device dev u h (cases_eq d dev)
  where
    by_device : (dev : ℕ) (u : DeviceSlot) → slice_get (slice_set slots d t) dev ≡ Some u → (d ≡ dev) ⊎ (d ≡ dev → ⊥) → IsSlot setup dev u gone (with_end endpoints d e b)
    by_device dev u h (inl same) =
        let it : t ≡ u = same_Some t u (sym (get_set slots d t (slice_get_within slots d s there)) ∙ ap (slice_get (slice_set slots d t)) same ∙ h) in
        subst₂ (λ (x : ℕ) (v : DeviceSlot). IsSlot setup x v gone (with_end endpoints d e b)) same it
        (slot_with setup d e i s t gone endpoints b plain at but (all d s there) end)
    by_device dev u h (inr other) =
        slot_beside setup d e dev u gone endpoints b other (all dev u (sym (get_set_other slots d dev t (λ same. other (sym same))) ∙ h))

-- the controller with this slot holds the core with this endpoint
pub holds_with : (setup : Setup) (k : Controller) (gone : ℕ → Bool) (endpoints : ℕ → ℕ → KeptEndpoint) (orders : List RingOrder) (events : List RingEvent) (posted d e i : ℕ) (s t : DeviceSlot) (b : KeptEndpoint)
    → HasPlain setup → Holds setup k gone endpoints orders events posted → interface_of setup d e ≡ Some i → slice_get k.slots d ≡ Some s → IsBut (endpoint_id e) s t → IsEnd setup t d e b
    → AllPosted (with_end endpoints d e b) orders k.commands.waits → Holds setup (record k { slots = slice_set k.slots d t }) gone (with_end endpoints d e b) orders events posted
holds_with setup k gone endpoints orders events posted d e i s t b plain is at there but end ordered = record {
  slots = length-set k.slots d t ∙ is.slots;
  each = slots_with setup k.slots d e i s t gone endpoints b plain at there but is.each end;
  ordered = ordered;
  told = is.told;
  count = is.count;
}

-- an endpoint's device has a slot
pub slot_there : (setup : Setup) (k : Controller) (gone : ℕ → Bool) (endpoints : ℕ → ℕ → KeptEndpoint) (orders : List RingOrder) (events : List RingEvent) (posted d e i : ℕ)
    → Holds setup k gone endpoints orders events posted → interface_of setup d e ≡ Some i → (s : DeviceSlot) × (slice_get k.slots d ≡ Some s)
slot_there setup k gone endpoints orders events posted d e i is at = get_within k.slots d (omega (arith, is.slots, has_device setup d e i at))
