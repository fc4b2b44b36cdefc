-- A run that stays within its scripts is the run over the longer ones.
use Rattle.std.proofs.Common.{◌≡◌, List, [], ◌∷◌, refl, ap, ap₂, ◌∙◌}
use Rattle.usb_model.specs.declared.step.Step.{Step}
use Rattle.usb_model.specs.Setup.{Setup}
use Rattle.usb_model.specs.World.{World, Turn, new_world, turn, world_from}
use Rattle.usb_model.specs.World.Journal.{Place, journal, journal_from}
use Rattle.refine_world.specs.Living.{More, GoesOn, StaysWithin, IsUnseen, GoesOnUnseen, world_with}
use Rattle.refine_world.proofs.Worlds.{turn_same, new_same, turn_with}

pub journal_same : (setup longer : Setup) (more : More) (w : World) (steps : List Step) → GoesOn setup longer more → StaysWithin setup more w steps
    → journal_from longer (world_with more w) steps ≡ journal_from setup w steps
unfolding journal_from
journal_same setup longer more w [] g free = refl
journal_same setup longer more w (step ∷ steps) g free =
    ap (λ t. record { step = step; entry = t.entry } ∷ journal_from longer t.world steps) (turn_same setup longer more w step g free.0)
    ∙ ap (λ l. record { step = step; entry = (turn setup w step).entry } ∷ l) (journal_same setup longer more (turn setup w step).world steps g free.1)

pub world_same : (setup longer : Setup) (more : More) (w : World) (steps : List Step) → GoesOn setup longer more → StaysWithin setup more w steps
    → world_from longer (world_with more w) steps ≡ world_with more (world_from setup w steps)
unfolding world_from
world_same setup longer more w [] g free = refl
world_same setup longer more w (step ∷ steps) g free =
    ap (λ t. world_from longer t.world steps) (turn_same setup longer more w step g free.0) ∙ world_same setup longer more (turn setup w step).world steps g free.1

pub goes_on_unseen : GoesOnUnseen
unfolding journal
goes_on_unseen setup longer more steps g free = record {
  same_journal = ap (λ w. journal_from longer w steps) (new_same setup longer more g) ∙ journal_same setup longer more (new_world setup) steps g free;
  same_world = ap (λ w. world_from longer w steps) (new_same setup longer more g) ∙ world_same setup longer more (new_world setup) steps g free;
}
