-- A handle's part of a run, by its steps and its entries.
use Rattle.std.specs.Prelude.{ℕ, List, [], ◌∷◌}
use Rattle.usb_model.specs.declared.entry.Entry.{Entry}
use Rattle.usb_model.specs.declared.step.Step.{Step}
use Rattle.usb_model.specs.World.Journal.{Place, entries_in, own_places, steps_in}

-- each step with its entry, as far as there are both
unfoldable pub places_of : List Step → List Entry → List Place
places_of [] entries = []
places_of (step ∷ steps) [] = []
places_of (step ∷ steps) (entry ∷ entries) = record { step = step; entry = entry } ∷ places_of steps entries

-- the handle's own steps of these
abbrev pub own_steps : ℕ → List Step → List Entry → List Step
own_steps h steps entries = steps_in (own_places h (places_of steps entries))

-- and its own entries
abbrev pub own_entries : ℕ → List Step → List Entry → List Entry
own_entries h steps entries = entries_in (own_places h (places_of steps entries))
