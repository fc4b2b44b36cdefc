-- Of which errand a completion is, as the code answers it.
use Rattle.std.specs.Prelude.{◌≡◌, ℕ, suc, List, ◌∷◌, Option, Some, None}
use Rattle.usb_model.specs.declared.errand.Errand.{Errand}
use Rattle.usb_model.specs.Setup.{Setup}
use Rattle.usb_tables.specs.declared.held.HeldEndpoint.{HeldEndpoint}
use Rattle.refine_world.specs.Shows.{Completes, Core, RingEvent}
use Rattle.refine_core.specs.Deliveries.{SentIs, Settles}
use Rattle.refine_core.specs.State.{State}

module _ {P : Type 0} where
  -- an endpoint of the device of the oldest event, a completion: what this answers
  abbrev pub EndIs : Setup → State P → Core → (pointer code slot d e : ℕ) → Option (ℕ × Errand) → Type 0
  EndIs setup s c pointer code slot d e o = slot ≡ suc d → (index : ℕ) (rest : List RingEvent) → c.events ≡ Completes d index code ∷ rest → SentIs setup c d index e o

  -- no completion is stray
  abbrev pub SenderIs : Setup → State P → Core → ℕ → Option (HeldEndpoint × Errand) → Type 0
  SenderIs setup s c code None = ⊥
  SenderIs setup s c code (Some x) = Settles setup s c x.0.name x.0.dev x.0.ep x.1 code
