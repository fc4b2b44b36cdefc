-- The laws of a run, together.
use Rattle.std.specs.Prelude.{ℕ, List}
use Rattle.usb_model.specs.declared.step.Step.{Step}
use Rattle.usb_model.specs.Laws.Account.{account}
use Rattle.usb_model.specs.Laws.Bound.{AskedEnds}
use Rattle.usb_model.specs.Laws.Callbacks.{CallsInOrder, CallsOnce}
use Rattle.usb_model.specs.Laws.Cut.{CutsAt, IsCut}
use Rattle.usb_model.specs.Laws.Places.{KeepsPlaces}
use Rattle.usb_model.specs.Setup.{Setup, packet_size_of, script_of}
use Rattle.usb_model.specs.World.{new_world, world_from}

-- what transfers moved is a cut of what devices answered; each transfer is in one place; what was asked to end ends
pub record ObeysLaws (setup : Setup) (steps : List Step) : Type 0 where
  pub cut : (d e : ℕ) → CutsAt setup steps d e
  pub places : (h : ℕ) → KeepsPlaces setup steps h
  pub ends : (h : ℕ) → AskedEnds setup steps h

-- the cut law at an endpoint where a run ends, with nothing asked of the setup
abbrev pub IsCutAt : Setup → List Step → ℕ → ℕ → Type 0
IsCutAt setup steps d e = IsCut (packet_size_of setup d e) (script_of setup d e) (account setup d e steps) ((world_from setup (new_world setup) steps).endpoints d e)

-- what holds of the run of a core: all of that at each endpoint, whatever its device says or answers; and callbacks are called once at most, and in order
pub record IsLawfulRun (setup : Setup) (steps : List Step) : Type 0 where
  pub cut : (d e : ℕ) → IsCutAt setup steps d e
  pub places : (h : ℕ) → KeepsPlaces setup steps h
  pub ends : (h : ℕ) → AskedEnds setup steps h
  pub once : (h : ℕ) → CallsOnce setup steps h
  pub order : (h : ℕ) → CallsInOrder setup steps h
