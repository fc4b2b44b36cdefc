-- A run that is fed: steps, then scripts that go on, then further steps.
use Rattle.std.specs.Prelude.{◌≡◌, ℕ, List, [], ◌∷◌, ◌++◌}
use Rattle.usb_model.specs.declared.entry.Entry.{Entry}
use Rattle.usb_model.specs.declared.step.Step.{Step}
use Rattle.usb_model.specs.Setup.{Setup}
use Rattle.usb_model.specs.Machine.Turns.{alone}
use Rattle.usb_model.specs.World.{World, new_world, world_from}
use Rattle.usb_model.specs.World.Journal.{Place, journal, journal_from, entries_in, own, own_places}
use Rattle.refine_world.specs.Living.{More, GoesOn, StaysWithin, world_with}

-- steps, and how the scripts then go on
pub record Stretch : Type 0 where
  pub steps : List Step
  pub longer : Setup
  pub more : More

-- what is fed in all
abbrev pub fed_in : List Stretch → More
fed_in [] d ep = []
fed_in (s ∷ ss) d ep = s.more d ep ++ fed_in ss d ep

-- the devices at the end
abbrev pub setup_after : Setup → List Stretch → Setup
setup_after setup [] = setup
setup_after setup (s ∷ ss) = setup_after s.longer ss

abbrev pub steps_in : List Stretch → List Step
steps_in [] = []
steps_in (s ∷ ss) = s.steps ++ steps_in ss

-- the world where more stands ready once these steps were made
abbrev pub world_fed : Setup → World → Stretch → World
world_fed setup w s = world_with s.more (world_from setup w s.steps)

-- a fed run's journal, and the world where it ends
unfoldable pub fed_journal : Setup → World → List Stretch → List Place
fed_journal setup w [] = []
fed_journal setup w (s ∷ ss) = journal_from setup w s.steps ++ fed_journal s.longer (world_fed setup w s) ss

unfoldable pub fed_world : Setup → World → List Stretch → World
fed_world setup w [] = w
fed_world setup w (s ∷ ss) = fed_world s.longer (world_fed setup w s) ss

-- scripts only go on, and no step meets the end of one that goes on later
abbrev pub IsFed : Setup → World → List Stretch → Type 0
IsFed setup w [] = Unit {0}
IsFed setup w (s ∷ ss) = GoesOn setup s.longer s.more × StaysWithin setup (fed_in (s ∷ ss)) w s.steps × IsFed s.longer (world_fed setup w s) ss

-- then all is as if the last scripts had stood there from the beginning: the journal, the world where it ends, and each handle's part, which is the handle's alone
pub record IsAsIfKnown (setup : Setup) (ss : List Stretch) : Type 0 where
  pub same_journal : fed_journal setup (new_world setup) ss ≡ journal (setup_after setup ss) (steps_in ss)
  pub same_world : fed_world setup (new_world setup) ss ≡ world_from (setup_after setup ss) (new_world (setup_after setup ss)) (steps_in ss)
  pub isolated : (h : ℕ) → entries_in (own_places h (fed_journal setup (new_world setup) ss)) ≡ alone (setup_after setup ss) (own (setup_after setup ss) (steps_in ss) h) h

abbrev pub FedAsIfKnown : Type 0
FedAsIfKnown = (setup : Setup) (ss : List Stretch) → IsFed setup (new_world setup) ss → IsAsIfKnown setup ss
