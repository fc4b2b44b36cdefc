-- The parts as they are made.
use Rattle.std.specs.Prelude.{◌≡◌, ℕ, ◌≤◌, List, [], ◌∷◌, length, map, slice_get, Some, None}
use Rattle.usb_model.specs.declared.setup.Configuration.{Configuration}
use Rattle.usb_model.specs.declared.setup.DeviceSetup.{DeviceSetup}
use Rattle.usb_model.specs.Setup.{Setup}
use Rattle.usb_descriptors.specs.Table.{IsTable}
use Rattle.usb_tables.specs.Holders.{device_of, owner_of}
use Rattle.usb_tables.specs.Outstanding.{sent_at}
use Rattle.usb_xhc.specs.Controller.{AreLawfulAll, Controller, all_renewed}
use Rattle.usb_xhc.specs.Slots.{DeviceSlot}
use Rattle.usb_tables.specs.TransfersInFlight.{keys_at, line_at}
use Rattle.usb_tables.specs.HandleStates.{callback_at, callbacks_at, number_of, results_at}
use Rattle.refine_rings.specs.Made.{IsSlotOf}
use Rattle.refine_core.specs.State.{State}

-- devices that wait to be run: their configurations, and the controller that has them at its slots
pub record Devices : Type 0 where
  pub configs : List Configuration
  pub controller : Controller

-- as the definitions have them
abbrev pub setup_from : List Configuration → List DeviceSlot → Setup
setup_from [] slots = []
setup_from (c ∷ cs) [] = []
setup_from (c ∷ cs) (s ∷ ss) = record { config = c; scripts = map (λ p. p.script) s.pipes } ∷ setup_from cs ss

abbrev pub setup_of : Devices → Setup
setup_of x = setup_from x.configs x.controller.slots

-- a slot for each configuration, whatever was done there
pub record AreReady (x : Devices) : Type 0 where
  pub as_many : length x.configs ≡ length x.controller.slots
  pub few : length x.configs ≤ 4
  pub each : (d : ℕ) (v : DeviceSetup) (s : DeviceSlot) → slice_get (setup_of x) d ≡ Some v → slice_get x.controller.slots d ≡ Some s → IsSlotOf d v s
  pub tables : (d : ℕ) (v : DeviceSetup) → slice_get (setup_of x) d ≡ Some v → IsTable v.config.endpoints × (length v.config.endpoints ≤ 30)

-- nothing is kept yet of any name or endpoint, and the controller is made new
pub record AreUnused {P : Type 0} (s : State P) (x : Devices) : Type 0 where
  pub configs : s.claims.configs ≡ x.configs
  pub closed : (h : ℕ) → device_of s.claims h ≡ None
  pub free : (d i : ℕ) → owner_of s.claims d i ≡ None
  pub controller : s.controller ≡ all_renewed x.controller
  pub laws : AreLawfulAll s.controller.slots
  pub lanes : length s.flights.lines ≡ 128
  pub lines : (d e : ℕ) → line_at s.flights d e ≡ []
  pub keyed : length s.flights.keys ≡ 128
  pub keys : (d e : ℕ) → keys_at s.flights.keys d e ≡ []
  pub ended : s.flights.ended ≡ []
  pub numbers : (h : ℕ) → number_of s.callers h ≡ 0
  pub callbacks : (h n : ℕ) → callback_at s.callers h n ≡ None
  pub results : (h id : ℕ) → results_at s.callers h id ≡ 0
  pub called : (h id : ℕ) → callbacks_at s.callers h id ≡ 0
  pub cells : length s.outstanding ≡ 128
  pub errands : (d e : ℕ) → sent_at s.outstanding d e ≡ None
