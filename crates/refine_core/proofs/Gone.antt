-- Which devices are gone, and which there are.
use Rattle.std.proofs.Common.{◌≡◌, ℕ, Bool, true, false, refl, ap, sym, subst, ◌∙◌, arith, ◌<◌, List, [], ◌∷◌, length, Option, Some, None, is_some}
use Rattle.std.specs.Prelude.{slice_get, ◌||◌, ◌&&◌, ◌==◌, if◌then◌else◌}
use Rattle.std.specs.Option.{option_map, option_map_or}
use Rattle.std.proofs.lemmas.Bool.{eqb-true}
use Rattle.std.proofs.lemmas.Option.{slice_get_within, slice_get-map}
use Rattle.usb_model.specs.declared.setup.DeviceSetup.{DeviceSetup}
use Rattle.usb_model.specs.declared.setup.Configuration.{Configuration}
use Rattle.usb_model.specs.declared.step.Step.{Step}
use Rattle.usb_model.specs.declared.step.Step.TheVariants.{Unplug}
use Rattle.usb_model.specs.Machine.Turns.{gone_after}
use Rattle.usb_model.specs.Setup.{Setup, endpoints_of, interfaces_of, is_device}
use Rattle.usb_model.specs.World.{Turn, World, is_blocked, machine_of, new_world, owner_of, turn, turn_by, turn_of, turn_of_nobody, world_after, world_from}
use Rattle.usb_model.specs.Machine.Turns.{effect}
use Rattle.usb_tables.specs.Holders as claims
use Rattle.usb_tables.specs.Holders.{Holding, IsSetup, has_device}
use Rattle.usb_xhc.specs.Slots.{DeviceSlot}
use Rattle.refine_world.specs.Shows.{Core, Shows}
use Rattle.refine_rings.proofs.Lookups.{get_within}
use Rattle.refine_core.specs.Handles.{gone_in}
use Rattle.refine_core.specs.State.{Keeps, State}

-- a device's configuration in the tables
pub config_is : (v : Holding) (setup : Setup) (d : ℕ) → IsSetup v setup → slice_get v.configs d ≡ option_map (λ x. x.config) (slice_get setup d)
config_is v setup d same = ap (λ (l : List Configuration). slice_get l d) (sym same) ∙ slice_get-map (λ (x : DeviceSetup). x.config) setup d

-- whether there is such a device
pub device_is : (v : Holding) (setup : Setup) (d : ℕ) → IsSetup v setup → has_device v d ≡ is_device setup d
device_is v setup d same = ap (λ (o : Option Configuration). is_some o) (config_is v setup d same) ∙ by_device (slice_get setup d)
  where
    by_device : (o : Option DeviceSetup) → is_some (option_map (λ x. x.config) o) ≡ is_some o
    by_device None = refl
    by_device (Some x) = refl

-- its interfaces
pub interfaces_are : (v : Holding) (setup : Setup) (d : ℕ) → IsSetup v setup → claims.interfaces_of v d ≡ interfaces_of setup d
interfaces_are v setup d same = ap (λ (o : Option Configuration). option_map_or (λ (x : Configuration). x.interfaces) o []) (config_is v setup d same) ∙ by_device (slice_get setup d)
  where
    by_device : (o : Option DeviceSetup) → option_map_or (λ (x : Configuration). x.interfaces) (option_map (λ x. x.config) o) [] ≡ option_map_or (λ (x : DeviceSetup). x.config.interfaces) o []
    by_device None = refl
    by_device (Some x) = refl

-- its endpoints
pub endpoints_are : (v : Holding) (setup : Setup) (d : ℕ) → IsSetup v setup → option_map_or (λ (x : Configuration). x.endpoints) (slice_get v.configs d) [] ≡ endpoints_of setup d
endpoints_are v setup d same = ap (λ (o : Option Configuration). option_map_or (λ (x : Configuration). x.endpoints) o []) (config_is v setup d same) ∙ by_device (slice_get setup d)
  where
    by_device : (o : Option DeviceSetup) → option_map_or (λ (x : Configuration). x.endpoints) (option_map (λ x. x.config) o) [] ≡ option_map_or (λ (x : DeviceSetup). x.config.endpoints) o []
    by_device None = refl
    by_device (Some x) = refl

-- only devices are gone
abbrev OnlyDevices : Setup → (ℕ → Bool) → Type 0
OnlyDevices setup gone = (d : ℕ) → gone d ≡ true → is_device setup d ≡ true

only_after : (setup : Setup) (gone : ℕ → Bool) (step : Step) → OnlyDevices setup gone → OnlyDevices setup (λ d. gone_after setup gone step d)
only_after setup gone (Unplug dev) only d left = by_gone (gone d) refl left
  where
    by_same : (a b : Bool) → (dev == d) ≡ a → is_device setup dev ≡ b → (a && b) ≡ true → is_device setup d ≡ true
    by_same true true same device both = ap (is_device setup) (sym (eqb-true dev d same)) ∙ device
    by_same true false same device both = absurd cc
    by_same false b same device both = absurd cc

    by_gone : (b : Bool) → gone d ≡ b → (b || ((dev == d) && is_device setup dev)) ≡ true → is_device setup d ≡ true
    by_gone true is either = only d is
    by_gone false is either = by_same (dev == d) (is_device setup dev) refl refl either
only_after setup gone _ only d left = only d left

only_nobody : (setup : Setup) (w : World) (step : Step) → OnlyDevices setup w.gone → OnlyDevices setup (turn_of_nobody setup w step).world.gone
unfolding turn_of_nobody
only_nobody setup w (Unplug dev) only d left = only_after setup w.gone (Unplug dev) only d left
only_nobody setup w _ only d left = only d left

only_of : (setup : Setup) (h : ℕ) (w : World) (step : Step) → OnlyDevices setup w.gone → OnlyDevices setup (turn_of setup h w step).world.gone
unfolding turn_of world_after
only_of setup h w step only d = by_blocked _ _ (only d) (only_after setup w.gone step only d) (is_blocked setup h w (effect setup h (machine_of setup h w) step).change)
  where
    by_blocked : (x y : Turn) → (x.world.gone d ≡ true → is_device setup d ≡ true) → (y.world.gone d ≡ true → is_device setup d ≡ true) → (b : Bool) → (if b then x else y).world.gone d ≡ true → is_device setup d ≡ true
    by_blocked x y p q true left = p left
    by_blocked x y p q false left = q left

only_turn : (setup : Setup) (w : World) (step : Step) → OnlyDevices setup w.gone → OnlyDevices setup (turn setup w step).world.gone
unfolding turn
only_turn setup w step only = by_owner (owner_of setup w step)
  where
    by_owner : (o : Option ℕ) → OnlyDevices setup (turn_by setup o w step).world.gone
    by_owner None = only_nobody setup w step only
    by_owner (Some h) = only_of setup h w step only

only_from : (setup : Setup) (w : World) (steps : List Step) → OnlyDevices setup w.gone → OnlyDevices setup (world_from setup w steps).gone
unfolding world_from
only_from setup w [] only = only
only_from setup w (step ∷ steps) only = only_from setup (turn setup w step).world steps (only_turn setup w step only)

only_new : (setup : Setup) → OnlyDevices setup (new_world setup).gone
unfolding new_world
only_new setup d left = absurd cc

-- only a device that is there is gone
pub gone_device : (setup : Setup) (w : World) (c : Core) (d : ℕ) → Shows setup w c → c.gone d ≡ true → is_device setup d ≡ true
gone_device setup w c d shows = subst (λ (f : ℕ → Bool). OnlyDevices setup f) (sym (shows.gone ∙ ap (λ (x : World). x.gone) shows.reached)) (only_from setup (new_world setup) shows.steps (only_new setup)) d

module _ {P : Type 0} where
  -- a device that is there has a slot
  slot_is : (setup : Setup) (s : State P) (c : Core) (d : ℕ) → Keeps setup s c → is_device setup d ≡ true → (x : DeviceSlot) × (slice_get s.controller.slots d ≡ Some x)
  slot_is setup s c d keeps device = by_device (slice_get setup d) refl device
    where
      by_device : (o : Option DeviceSetup) → slice_get setup d ≡ o → is_some o ≡ true → (x : DeviceSlot) × (slice_get s.controller.slots d ≡ Some x)
      by_device None is there = absurd cc
      by_device (Some x) is there =
          let within : d < length setup = slice_get_within setup d x is in
          get_within s.controller.slots d (omega (arith, within, keeps.held.slots))

  -- whether it is gone
  gone_there : (setup : Setup) (s : State P) (c : Core) (d : ℕ) → Keeps setup s c → is_device setup d ≡ true → gone_in s.controller d ≡ c.gone d
  gone_there setup s c d keeps device =
      let slot = slot_is setup s c d keeps device in
      ap (λ (o : Option DeviceSlot). option_map_or (λ x. x.gone) o false) slot.1 ∙ (keeps.held.each d slot.0 slot.1).is_gone

  -- one that isn't there has none
  no_slot : (setup : Setup) (s : State P) (c : Core) (d : ℕ) → Keeps setup s c → is_device setup d ≡ false → gone_in s.controller d ≡ false
  no_slot setup s c d keeps device = by_slot (slice_get s.controller.slots d) refl
    where
      by_slot : (o : Option DeviceSlot) → slice_get s.controller.slots d ≡ o → gone_in s.controller d ≡ false
      by_slot None is = ap (λ (o : Option DeviceSlot). option_map_or (λ x. x.gone) o false) is
      by_slot (Some x) is =
          let within : d < length s.controller.slots = slice_get_within s.controller.slots d x is in
          let there = get_within setup d (omega (arith, within, keeps.held.slots)) in
          let both : false ≡ true = sym device ∙ ap (λ (o : Option DeviceSetup). is_some o) there.1 in
          absurd cc

  -- the devices that are gone are those of the core
  pub gone_is : (setup : Setup) (w : World) (s : State P) (c : Core) (d : ℕ) → Keeps setup s c → Shows setup w c → gone_in s.controller d ≡ c.gone d
  gone_is setup w s c d keeps shows = by_device (is_device setup d) refl (c.gone d) refl
    where
      by_device : (b : Bool) → is_device setup d ≡ b → (t : Bool) → c.gone d ≡ t → gone_in s.controller d ≡ c.gone d
      by_device true device t left = gone_there setup s c d keeps device
      by_device false device true left =
          let both : false ≡ true = sym device ∙ gone_device setup w c d shows left in
          absurd cc
      by_device false device false left = no_slot setup s c d keeps device ∙ sym left
