-- A device is gone.
use Rattle.std.proofs.Common.{◌≡◌, ℕ, refl, ap, sym, subst, subst₂, ◌∙◌, Some, None, Option, Bool, true, inl, inr, ◌⊎◌, length-set}
use Rattle.std.specs.Prelude.{slice_get, slice_set}
use Rattle.std.specs.Option.{option_map_or}
use Rattle.std.proofs.lemmas.Bool.{cases_eq}
use Rattle.std.proofs.lemmas.Option.{same_Some, slice_get_within}
use Rattle.usb_model.specs.Setup.{Setup}
use Rattle.usb_model.specs.Kept.{KeptEndpoint}
use Rattle.usb_xhc.specs.Controller.{slot_changed}
use Rattle.usb_xhc.specs.Slots.{DeviceSlot}
use Rattle.refine_rings.specs.Holds.{Holds, IsSlot}
use Rattle.refine_rings.specs.Laws.{UnplugsCore}
use Rattle.refine_rings.proofs.Lookups.{get_set, get_set_other}

-- the slot of a device that is gone
abbrev gone_slot : DeviceSlot → DeviceSlot
gone_slot s = record s { gone = true }

-- is what a device that is gone has
gone_now : (setup : Setup) (d : ℕ) (s : DeviceSlot) (gone now : ℕ → Bool) (endpoints : ℕ → ℕ → KeptEndpoint) → now d ≡ true → IsSlot setup d s gone endpoints → IsSlot setup d (gone_slot s) now endpoints
gone_now setup d s gone now endpoints left is = record {
  contexts = is.contexts;
  pipes = is.pipes;
  is_gone = sym left;
  scripts = is.scripts;
  ends = λ e i h. let end = is.ends e i h in record { pipe = end.pipe; script = end.script; ring = end.ring };
}

-- the others stay as they are
still_there : (setup : Setup) (d : ℕ) (s : DeviceSlot) (gone now : ℕ → Bool) (endpoints : ℕ → ℕ → KeptEndpoint) → now d ≡ gone d → IsSlot setup d s gone endpoints → IsSlot setup d s now endpoints
still_there setup d s gone now endpoints same is = record { contexts = is.contexts; pipes = is.pipes; is_gone = is.is_gone ∙ sym same; scripts = is.scripts; ends = is.ends }

-- the controller without the device
pub unplugs : UnplugsCore
unplugs setup k gone now endpoints orders events posted d is left others = by_slot (slice_get k.slots d) refl
  where
    to : (o : Option DeviceSlot) → slice_get k.slots d ≡ o → Holds setup (option_map_or (λ (s : DeviceSlot). record k { slots = slice_set k.slots d (gone_slot s) }) o k) now endpoints orders events posted
        → Holds setup (slot_changed k d (λ s. gone_slot s)) now endpoints orders events posted
    to o there h = subst (λ (x : Option DeviceSlot). Holds setup (option_map_or (λ (s : DeviceSlot). record k { slots = slice_set k.slots d (gone_slot s) }) x k) now endpoints orders events posted) (sym there) h

    other_slot : (dev : ℕ) (u : DeviceSlot) → slice_get k.slots dev ≡ Some u → (dev ≡ d → ⊥) → IsSlot setup dev u now endpoints
    other_slot dev u h other = still_there setup dev u gone now endpoints (others dev other) (is.each dev u h)

    none_there : slice_get k.slots d ≡ None → (dev : ℕ) (u : DeviceSlot) → slice_get k.slots dev ≡ Some u → (dev ≡ d → ⊥)
    none_there none dev u h same =
        let both : None ≡ Some u = sym none ∙ (ap (slice_get k.slots) (sym same) ∙ h) in
        absurd cc

    by_device : (s : DeviceSlot) → slice_get k.slots d ≡ Some s → (dev : ℕ) (u : DeviceSlot) → slice_get (slice_set k.slots d (gone_slot s)) dev ≡ Some u → (d ≡ dev) ⊎ (d ≡ dev → ⊥) → IsSlot setup dev u now endpoints
    by_device s there dev u h (inl same) =
        let it : gone_slot s ≡ u = same_Some (gone_slot s) u (sym (get_set k.slots d (gone_slot s) (slice_get_within k.slots d s there)) ∙ ap (slice_get (slice_set k.slots d (gone_slot s))) same ∙ h) in
        subst₂ (λ (x : ℕ) (v : DeviceSlot). IsSlot setup x v now endpoints) same it (gone_now setup d s gone now endpoints left (is.each d s there))
    by_device s there dev u h (inr other) =
        other_slot dev u (sym (get_set_other k.slots d dev (gone_slot s) (λ same. other (sym same))) ∙ h) (λ same. other (sym same))

    by_slot : (o : Option DeviceSlot) → slice_get k.slots d ≡ o → Holds setup (slot_changed k d (λ s. gone_slot s)) now endpoints orders events posted
    by_slot None none = to None none (record {
      slots = is.slots;
      each = λ dev u h. other_slot dev u h (none_there none dev u h);
      ordered = is.ordered;
      told = is.told;
      count = is.count;
    })
    by_slot (Some s) there = to (Some s) there (record {
      slots = length-set k.slots d (gone_slot s) ∙ is.slots;
      each = λ dev u h. by_device s there dev u h (cases_eq d dev);
      ordered = is.ordered;
      told = is.told;
      count = is.count;
    })
