-- A world in which nothing is left to be done.
use Rattle.std.specs.Prelude.{◌≡◌, ℕ, find, false, [], None}
use Rattle.usb_model.specs.declared.step.Step.TheVariants.{Command, Deliver, Take}
use Rattle.usb_model.specs.Setup.{Setup}
use Rattle.usb_model.specs.World.{World}
use Rattle.usb_core.specs.Pending.{does_something, in_circle, serves}

-- no packet, no order, no event and no result waits in a world, and no transfer is in its callback
pub record IsAtRest (setup : Setup) (w : World) : Type 0 where
  pub packets : find (λ x. serves setup w x.0 x.1) (in_circle None) ≡ None
  pub orders : does_something setup w Command ≡ false
  pub events : does_something setup w Deliver ≡ false
  pub results : does_something setup w Take ≡ false
  pub callbacks : (h : ℕ) → ((w.names h).in_callbacks ≡ [] → ⊥) → ⊥
