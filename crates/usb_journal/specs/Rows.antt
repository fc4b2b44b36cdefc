-- Steps in a row, each at a place of its own.
use Rattle.std.specs.Prelude.{◌≡◌, ◌≤◌, ◌+◌, ◌&&◌, ◌||◌, not, ℕ, zero, suc, false, true, Bool, List, [], ◌∷◌, ◌++◌, drop, length, map, Some}
use Rattle.usb_model.specs.declared.entry.Entry.{Entry}
use Rattle.usb_model.specs.declared.reply.Reply.{Reply}
use Rattle.usb_model.specs.declared.reply.Reply.TheVariants.{Ended, Moved, Settled}
use Rattle.usb_model.specs.declared.step.Step.{Step}
use Rattle.usb_model.specs.declared.step.Step.TheVariants.{Command, Deliver}
use Rattle.usb_model.specs.Setup.{Setup}
use Rattle.usb_model.specs.World.{World, turn}
use Rattle.usb_model.specs.World.Journal.{run_from}
use Rattle.usb_core.specs.Public.{Kept, does_something, serves}
use Rattle.usb_core.specs.declared.results.Taken.{Taken}
use Rattle.usb_recorder.specs.declared.place.Place.{Place}
use Rattle.usb_journal.specs.declared.rows.Row.{Row}
use Rattle.usb_journal.specs.Booked.{Booked, Sees, asked, asks, entries_of, world_where}
use Rattle.usb_journal.specs.Seen.{Positioned}

-- the places that a book has more than before
abbrev pub new_places : {P : Type 0} → (old new : Booked P) → List Place
new_places old new = drop (length old.journal) new.journal

-- steps in a row were made for the bearer of a position: one place each, behind the journal so far, with the entries of the run there
pub record EntersRow {P : Type 0} (steps : List Step) (old : Booked P) (before : Positioned) (row : Row) (new : Booked P) (after : Positioned) : Type 0 where
  pub first : row.first ≡ length old.journal
  pub above : before.position ≤ row.first
  pub count : row.count ≡ length steps
  pub journal : new.journal ≡ old.journal ++ new_places old new
  pub each : map asked (new_places old new) ≡ asks before.number old.moment steps
  pub entries : entries_of (new_places old new) ≡ run_from old.setup (world_where old.setup old.journal) steps
  pub position : after.position ≡ row.first + row.count
  pub own : after.own ≡ before.own ++ new_places old new
  pub number : after.number ≡ before.number
  pub saw : Sees before old.journal after new.journal
  pub setup : new.setup ≡ old.setup
  pub moment : new.moment ≡ old.moment

-- packets at an endpoint may stop behind one with this reply, in the world behind it: it moved no bytes of a transfer that goes on; and where it ended one, no other packet does anything there
abbrev pub MayStop : Setup → World → (d e : ℕ) → Reply → Type 0
MayStop setup w d e (Moved n bytes) = ⊥
MayStop setup w d e (Ended n code) = serves setup w d e ≡ false
MayStop setup w d e reply = Unit {0}

-- the same of the last of these
abbrev pub MayStopBehind : Setup → World → (d e : ℕ) → List Entry → Type 0
MayStopBehind setup w d e [] = ⊥
MayStopBehind setup w d e (x ∷ []) = MayStop setup w d e x.reply
MayStopBehind setup w d e (x ∷ y ∷ xs) = MayStopBehind setup w d e (y ∷ xs)

-- a packet moved bytes of a transfer that goes on, or ended one
abbrev pub is_progress : Reply → Bool
is_progress (Moved n bytes) = true
is_progress (Ended n code) = true
is_progress reply = false

-- each of these did
abbrev pub AreProgress : List Entry → Type 0
AreProgress [] = Unit {0}
AreProgress (x ∷ xs) = (is_progress x.reply ≡ true) × AreProgress xs

-- each of these but the last did
abbrev pub GoOn : List Entry → Type 0
GoOn [] = Unit {0}
GoOn (x ∷ []) = Unit {0}
GoOn (x ∷ y ∷ xs) = (is_progress x.reply ≡ true) × GoOn (y ∷ xs)

-- a packet ended a transfer
abbrev pub is_end : Reply → Bool
is_end (Ended n code) = true
is_end reply = false

-- whether one of these ended a transfer
abbrev pub ends_any : List Entry → Bool
ends_any [] = false
ends_any (x ∷ xs) = is_end x.reply || ends_any xs

-- an errand ended
abbrev pub is_settled : Reply → Bool
is_settled (Settled ep errand ok) = true
is_settled reply = false

-- whether the oldest event leaves nothing for the controller: by it no errand ends, and behind it no order waits
abbrev pub is_quiet : Setup → World → Bool
is_quiet setup w = not (is_settled (turn setup w Deliver).entry.reply) && not (does_something setup (turn setup w Deliver).world Command)

-- whether so many events from a world on leave nothing: each of them, where it is the oldest
abbrev pub are_quiet : Setup → World → ℕ → Bool
are_quiet setup w zero = true
are_quiet setup w (suc count) = is_quiet setup w && are_quiet setup (turn setup w Deliver).world count

-- each payload is what is kept under the name and the number that its callback is given
abbrev pub AreKept : {P : Type 0} → Kept P → List (Taken P) → Type 0
AreKept kept [] = Unit {0}
AreKept kept (t ∷ ts) = (kept t.returned.h t.returned.n ≡ Some t.payload) × AreKept kept ts
