-- Who holds what, read off the world.
use Rattle.std.specs.Prelude.{◌≡◌, ◌≢◌, ℕ, false, ◌⊎◌, [], Contains, Some, None, slice_get}
use Rattle.std.specs.List.{AllByRecursion}
use Rattle.usb_model.specs.declared.step.Step.{Step}
use Rattle.usb_model.specs.declared.step.Step.TheVariants.{Claim, Reset}
use Rattle.usb_model.specs.declared.setup.DeviceSetup.{DeviceSetup}
use Rattle.usb_model.specs.Setup.{Setup, interface_of}
use Rattle.usb_model.specs.World.{World}

-- the device has an interface of this number (USB 2.0, 9.6.5)
pub record HasInterface (setup : Setup) (dev i : ℕ) : Type 0 where
  pub device : DeviceSetup
  pub there : slice_get setup dev ≡ Some device
  pub listed : Contains device.config.interfaces i

-- the name has opened the device, which isn't gone
pub record HasOpened (w : World) (h dev : ℕ) : Type 0 where
  pub opened : (w.names h).device ≡ Some dev
  pub there : w.gone dev ≡ false

-- another name than h holds the interface
pub record AnotherHolds (w : World) (h dev i : ℕ) : Type 0 where
  pub g : ℕ
  pub holds : w.claims dev i ≡ Some g
  pub another : g ≢ h

-- the name holds the interface of this endpoint
pub record HoldsEndpoint (setup : Setup) (w : World) (h dev ep : ℕ) : Type 0 where
  pub i : ℕ
  pub within : interface_of setup dev ep ≡ Some i
  pub holds : w.claims dev i ≡ Some h

-- nobody does: it has no interface, or one that is free
abbrev pub NobodyHolds : Setup → World → ℕ → ℕ → Type 0
NobodyHolds setup w dev ep = (interface_of setup dev ep ≡ None) ⊎ ((i : ℕ) × (interface_of setup dev ep ≡ Some i) × (w.claims dev i ≡ None))

-- quiet to the name: no transfer in its line, no errand, no result of the name's that waits, none of its transfers in a callback
pub record IsQuiet (w : World) (h dev ep : ℕ) : Type 0 where
  pub line : (w.endpoints dev ep).line ≡ []
  pub errand : (w.endpoints dev ep).errand ≡ None
  pub results : AllByRecursion (λ x. x.name ≡ h → x.piece.request.ep ≢ ep) w.results
  pub callbacks : AllByRecursion (λ x. x.request.ep ≢ ep) (w.names h).in_callbacks

-- so is each endpoint of the device whose interface the name holds
abbrev pub AreQuiet : Setup → World → ℕ → ℕ → Type 0
AreQuiet setup w h dev = (ep : ℕ) → HoldsEndpoint setup w h dev ep → IsQuiet w h dev ep

-- another handle holds the interface that is claimed; or one of the device that is reset, where all endpoints of the caller's are quiet; else never
abbrev pub IsHeldByAnother : Setup → World → Step → Type 0
IsHeldByAnother setup w (Claim h i) = (dev : ℕ) × HasOpened w h dev × HasInterface setup dev i × AnotherHolds w h dev i
IsHeldByAnother setup w (Reset h) = (dev : ℕ) × HasOpened w h dev × AreQuiet setup w h dev × ((i : ℕ) × HasInterface setup dev i × AnotherHolds w h dev i)
IsHeldByAnother setup w _ = ⊥
