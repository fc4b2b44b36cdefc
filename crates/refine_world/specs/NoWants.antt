-- Runs in which nothing is wanted: they stay so over longer scripts, where they are the same.
use Rattle.std.specs.Prelude.{◌≡◌, false, List, [], ◌∷◌}
use Rattle.usb_model.specs.declared.step.Step.{Step}
use Rattle.usb_model.specs.Setup.{Setup}
use Rattle.usb_model.specs.World.{World, new_world, turn}
use Rattle.usb_model.specs.World.Journal.{journal}
use Rattle.refine_world.specs.Living.{More, GoesOn}
use Rattle.refine_world.specs.Wanting.{wants}

-- no step of a run wants for an answer
abbrev pub WantsNone : Setup → World → List Step → Type 0
WantsNone setup w [] = Unit {0}
WantsNone setup w (step ∷ steps) = (wants setup w step ≡ false) × WantsNone setup (turn setup w step).world steps

-- what a book keeps of its journal: it may be fed whenever this holds, and then it holds still
abbrev pub KeepsWantingNone : Type 0
KeepsWantingNone = (setup longer : Setup) (more : More) (steps : List Step) → GoesOn setup longer more → WantsNone setup (new_world setup) steps
    → WantsNone longer (new_world longer) steps × (journal longer steps ≡ journal setup steps)
