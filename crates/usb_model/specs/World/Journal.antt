-- What is told of a run, and a handle's part of it.
use Rattle.std.specs.Prelude.{◌≡◌, ◌++◌, ℕ, Bool, true, false, not, ◌&&◌, ◌||◌, List, [], ◌∷◌, map}
use Rattle.std.specs.List.{filter}
use Rattle.usb_model.specs.declared.refused.Refused.TheVariants.{HeldElsewhere}
use Rattle.usb_model.specs.declared.reply.Reply.{Reply}
use Rattle.usb_model.specs.declared.reply.Reply.TheVariants.{Refused}
use Rattle.usb_model.specs.declared.entry.Entry.{Entry}
use Rattle.usb_model.specs.declared.step.Step.{Step}
use Rattle.usb_model.specs.declared.step.Step.TheVariants.{Unplug}
use Rattle.usb_model.specs.Setup.{Setup}
use Rattle.usb_model.specs.World.{World, new_world, is_its, turn}

-- one place of the journal: a step and its entry
pub record Place : Type 0 where
  pub step : Step
  pub entry : Entry

unfoldable pub journal_from : Setup → World → List Step → List Place
journal_from setup w [] = []
journal_from setup w (step ∷ steps) = record { step = step; entry = (turn setup w step).entry } ∷ journal_from setup (turn setup w step).world steps

abbrev pub entries_in : List Place → List Entry
entries_in places = map (λ x. x.entry) places

abbrev pub steps_in : List Place → List Step
steps_in places = map (λ x. x.step) places

-- the journal of a run from the world with no name open
unfoldable pub journal : Setup → List Step → List Place
journal setup steps = journal_from setup (new_world setup) steps

-- one entry for each step
abbrev pub world_run : Setup → List Step → List Entry
world_run setup steps = entries_in (journal setup steps)

abbrev pub is_held_elsewhere : Reply → Bool
is_held_elsewhere (Refused HeldElsewhere) = true
is_held_elsewhere _ = false

abbrev pub is_unplug : Step → Bool
is_unplug (Unplug dev) = true
is_unplug _ = false

-- whether a place is the handle's own: its entry has the handle as owner, and isn't that another held an interface; an Unplug is every handle's own
abbrev pub is_own : ℕ → Place → Bool
is_own h x = is_unplug x.step || (is_its h x.entry.owner && not (is_held_elsewhere x.entry.reply))

abbrev pub own_places : ℕ → List Place → List Place
own_places h places = filter (is_own h) places

-- a handle's own steps
abbrev pub own : Setup → List Step → ℕ → List Step
own setup steps h = steps_in (own_places h (journal setup steps))

-- and its entries
abbrev pub entries : Setup → List Step → ℕ → List Entry
entries setup steps h = entries_in (own_places h (journal setup steps))

-- the entries of a run from a world
abbrev pub run_from : Setup → World → List Step → List Entry
run_from setup w steps = entries_in (journal_from setup w steps)

-- ys begins with xs
abbrev pub IsBeginning : {A : Type 0} → List A → List A → Type 0
IsBeginning {A = A} xs ys = (rest : List A) × (ys ≡ xs ++ rest)
