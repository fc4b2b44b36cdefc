-- A Serve that wants for an answer: it says Nak and changes nothing, and without such Serves each run is one over longer scripts too.
use Rattle.std.specs.Prelude.{◌≡◌, ℕ, Bool, true, false, not, ◌&&◌, List, [], ◌∷◌, Option, Some, None, is_some, if◌then◌else◌}
use Rattle.usb_model.specs.declared.reply.Reply.TheVariants.{Nak}
use Rattle.usb_model.specs.declared.item.Item.{Item}
use Rattle.usb_model.specs.declared.step.Step.{Step}
use Rattle.usb_model.specs.declared.step.Step.TheVariants.{Serve}
use Rattle.usb_model.specs.Setup.{Setup, packet_size_of}
use Rattle.usb_model.specs.Endpoint.{first_waiting, outcome_of}
use Rattle.usb_model.specs.World.{World, new_world, holder, turn, world_from}
use Rattle.refine_world.specs.Living.{More, GoesOn, is_wanting, world_with}

-- whether a step wants for an answer
abbrev pub wants : Setup → World → Step → Bool
wants setup w (Serve d ep) = is_some (holder setup w.claims d ep) && (not (w.gone d) && is_wanting (w.endpoints d ep))
wants setup w _ = false

-- the first transfer that waits at an endpoint that is held isn't at its end: so it is in each world that a run reaches
abbrev pub IsOpen : Setup → World → Type 0
IsOpen setup w = (h d ep : ℕ) (x : Item) → holder setup w.claims d ep ≡ Some h → first_waiting (w.endpoints d ep).line ≡ Some x → (outcome_of (packet_size_of setup d ep) x).code ≡ None

-- the steps that don't want
unfoldable pub wanting_none : Setup → World → List Step → List Step
wanting_none setup w [] = []
wanting_none setup w (step ∷ steps) =
    if wants setup w step then wanting_none setup (turn setup w step).world steps
    else step ∷ wanting_none setup (turn setup w step).world steps

-- a step that wants changes nothing
abbrev pub WantChangesNothing : Type 0
WantChangesNothing = (setup : Setup) (w : World) (step : Step) → IsOpen setup w → wants setup w step ≡ true → (turn setup w step).world ≡ w

-- so a world that a run reaches is reached over longer scripts too, but that more is left: by the steps that don't want
abbrev pub ReachedLonger : Type 0
ReachedLonger = (setup longer : Setup) (more : More) (steps : List Step) → GoesOn setup longer more
    → ((begun : List Step) → IsOpen setup (world_from setup (new_world setup) begun))
    → world_from longer (new_world longer) (wanting_none setup (new_world setup) steps) ≡ world_with more (world_from setup (new_world setup) steps)
