-- Places in a row as they are entered, before a caller is told of them.
use Rattle.std.specs.Prelude.{◌≡◌, ◌≤◌, ℕ, List, ◌++◌, length, map, replicate, Some}
use Rattle.usb_model.specs.declared.entry.Entry.{Entry}
use Rattle.usb_model.specs.declared.step.Step.{Step}
use Rattle.usb_model.specs.declared.step.Step.TheVariants.{Take}
use Rattle.usb_model.specs.Setup.{Setup}
use Rattle.usb_model.specs.World.Journal.{run_from}
use Rattle.usb_core.specs.Public.{Carries, Kept, State, StillCarries, called_entry}
use Rattle.usb_core.specs.declared.results.Taken.{Taken}
use Rattle.usb_recorder.specs.declared.place.Place.{Place}
use Rattle.usb_journal.specs.Booked.{Booked, Replays, asked, asks, entries_of, world_where}
use Rattle.usb_journal.specs.Rows.{AreKept, new_places}
use Rattle.usb_receipts.specs.Rule.{BeginsWith}
use Rattle.usb_journal.specs.Seen.{Positioned}
use Rattle.usb_journal.specs.Timers.{timers_of}

-- places behind a journal, for the bearer of a position: one for each of these steps, with these entries
pub record IsRow (caller moment : ℕ) (steps : List Step) (told : List Entry) (first : List Place) (before : Positioned) (later : List Place) (after : Positioned) : Type 0 where
  pub places : List Place
  pub journal : later ≡ first ++ places
  pub each : map asked places ≡ asks caller moment steps
  pub entries : entries_of places ≡ told
  pub own : after.own ≡ before.own ++ places
  pub number : after.number ≡ before.number
  pub seen : after.seen ≡ later

-- a core made these steps, each at a place: the entries are those of the run, the core shows the world behind it, and the timers stay
pub record DoesRow {P : Type 0} (setup : Setup) (moment : ℕ) (steps : List Step) (old : State P) (first : List Place) (before : Positioned) (new : State P) (later : List Place) (after : Positioned) : Type 0 where
  pub row : IsRow before.number moment steps (run_from setup (world_where setup first) steps) first before later after
  pub run : Replays setup later new
  pub timers : timers_of later ≡ timers_of first
  pub carries : StillCarries old new

-- these results went out, in order, each at a place, and with the payload that was kept with its transfer
pub record TakesRow {P : Type 0} (taken : List (Taken P)) (old : Booked P) (before : Positioned) (new : Booked P) (after : Positioned) : Type 0 where
  pub row : IsRow before.number old.moment (replicate (length taken) Take) (run_from old.setup (world_where old.setup old.journal) (replicate (length taken) Take)) old.journal before new.journal after
  pub entries : entries_of (new_places old new) ≡ map (λ t. called_entry (Some t.returned)) taken
  pub carries : (kept : Kept P) → Carries kept old.core → AreKept kept taken × Carries kept new.core
  pub setup : new.setup ≡ old.setup
  pub moment : new.moment ≡ old.moment

-- a position stands in a journal: no further than its end, and it had seen a beginning of it
pub record StandsIn (before : Positioned) (journal : List Place) : Type 0 where
  pub above : before.position ≤ length journal
  pub began : BeginsWith before.seen journal
