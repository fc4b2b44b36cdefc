-- Events and orders in a row.
use Rattle.std.specs.Prelude.{◌≡◌, ℕ, zero, suc, Bool, true, false, List, [], ◌∷◌, Option, Some, None, if◌then◌else◌}
use Rattle.std.specs.Option.{option_map_or}
use Rattle.usb_model.specs.declared.step.Step.{Step}
use Rattle.usb_model.specs.declared.step.Step.TheVariants.{Command, Deliver, Take}
use Rattle.usb_model.specs.Setup.{Setup}
use Rattle.usb_model.specs.World.{World, turn}
use Rattle.refine_world.specs.Calls.{step_core}
use Rattle.refine_world.specs.Shows.{Core}
use Rattle.refine_core.specs.State.{Keeps, State}
use Rattle.usb_core.specs.Pending.{does_something}

-- what is to be done next in a world where no result waits: an event, or else an order
abbrev pub next_drained : Setup → World → Option Step
next_drained setup w = if does_something setup w Take then None else (if does_something setup w Deliver then Some Deliver else (if does_something setup w Command then Some Command else None))

-- so many steps of that kind, from a world on; fewer where nothing is left of them, or a result waits
unfoldable pub drained_steps : ℕ → Setup → World → List Step
drained_steps zero setup w = []
drained_steps (suc most) setup w = option_map_or (λ step. step ∷ drained_steps most setup (turn setup w step).world) (next_drained setup w) []

-- what is next was done, and this core is kept now; or there was nothing, and the core is kept still
abbrev pub DrainsOne : {P : Type 0} → Setup → World → Core → Bool → State P → Type 0
DrainsOne {P} setup w c true new = (step : Step) × (next_drained setup w ≡ Some step) × Keeps setup new (step_core setup c step).core
DrainsOne {P} setup w c false new = (next_drained setup w ≡ None) × Keeps setup new c
