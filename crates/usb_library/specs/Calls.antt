-- What contracts see of the library's values, and what a call makes.
use Rattle.std.specs.Prelude.{◌≡◌, ◌≤◌, ◌+◌, ◌-◌, ◌^◌, ◌||◌, not, find, is_some, min, ℕ, Bool, true, false, List, [], ◌∷◌, ◌++◌, drop, length, map, Option, Some, None}
use Rattle.atomic_table.specs.Seated.{TableId}
use Rattle.usb_model.specs.declared.entry.Entry.{Entry}
use Rattle.usb_model.specs.declared.refused.Refused.{Refused}
use Rattle.usb_model.specs.declared.reply.Reply.{Reply}
use Rattle.usb_model.specs.declared.reply.Reply.TheVariants.{Idle, Refused as IsRefused}
use Rattle.usb_model.specs.declared.step.Step.{Step}
use Rattle.usb_model.specs.declared.step.Step.TheVariants.{Command, Deliver, Take}
use Rattle.usb_model.specs.Setup.{Setup}
use Rattle.usb_model.specs.World.{World}
use Rattle.usb_model.specs.World.Due.{due}
use Rattle.usb_model.specs.World.Journal.{run_from}
use Rattle.usb_journal.specs.declared.events.Events.{Events}
use Rattle.usb_recorder.specs.declared.place.Place.{Place}
use Rattle.usb_journal.specs.declared.rows.Row.{Row}
use Rattle.usb_core.specs.Public.{IsPending, does_something, serves}
use Rattle.usb_core.specs.declared.pending.Pending.{Pending}
use Rattle.usb_core.specs.Pending.{in_circle}
use Rattle.usb_journal.specs.Booked.{HasEvents, IsRun, asked, asks, dated, entries_of, next_entry, world_where}
use Rattle.usb_journal.specs.Seen.{Receipted, places_of, receipts_from}
use Rattle.usb_receipts.specs.Rule.{BeginsWith}

-- what a library is made of: the name and the parts of its ledger, the log of its journal, and its devices
pub record Opened : Type 0 where
  pub name : ℕ
  pub parts : ℕ
  pub table : TableId
  pub setup : Setup

-- a caller: its number, what the journal began with when it was last called or looked, how many places that is, which of them are its own, and how many of its calls have no place, since memory was refused
pub record Calling : Type 0 where
  pub number : ℕ
  pub seen : List Place
  pub position : ℕ
  pub own : List Place
  pub missed : ℕ

-- memory was refused to a call, which is counted; a u64 counts no further than to its last number
abbrev pub misses : Calling → Calling
misses c = record c { missed = min (c.missed + 1) (2 ^ 64 - 1) }

-- a call makes a step: the receipt's place is above the caller's earlier ones, and has this step of this caller, as the last of its own, with the entry of the definitions' turn where the run of the journal before it ends
pub record Makes (setup : Setup) (step : Step) (old new : Calling) (r : Receipted) : Type 0 where
  pub asked : r.entry.step ≡ step
  pub by : r.entry.caller ≡ old.number
  pub above : old.position ≤ r.place
  pub position : new.position ≡ r.place + 1
  pub own : new.own ≡ old.own ++ r.entry ∷ []
  pub number : new.number ≡ old.number
  pub missed : new.missed ≡ old.missed
  pub before : List Place
  pub began : BeginsWith old.seen before
  pub place : r.place ≡ length before
  pub saw : new.seen ≡ before ++ r.entry ∷ []
  pub entry : r.entry.entry ≡ next_entry setup before step

-- a call makes steps in a row: one place each, consecutive and above the caller's earlier ones, which have these steps of this caller, as the last of its own, with the entries of the definitions' run from where that of the journal before them ends
pub record MakesRow (setup : Setup) (steps : List Step) (old : Calling) (row : Row) (new : Calling) : Type 0 where
  pub before : List Place
  pub moment : ℕ
  pub places : List Place
  pub first : row.first ≡ length before
  pub count : row.count ≡ length steps
  pub above : old.position ≤ row.first
  pub position : new.position ≡ row.first + row.count
  pub each : map asked places ≡ asks old.number moment steps
  pub entries : entries_of places ≡ run_from setup (world_where setup before) steps
  pub own : new.own ≡ old.own ++ places
  pub number : new.number ≡ old.number
  pub missed : new.missed ≡ old.missed
  pub began : BeginsWith old.seen before
  pub saw : new.seen ≡ before ++ places

-- the entries of a row that a caller made last
abbrev pub row_entries : Row → Calling → List Entry
row_entries row c = entries_of (drop row.first c.seen)

-- what a caller had seen, by its number
abbrev pub position_of : Calling → ℕ × List Place
position_of c = (c.number, c.seen)

-- a caller's own places are those of its number in a journal, which began with what the caller had seen
pub record Knows (journal : List Place) (c : Calling) : Type 0 where
  pub own : c.own ≡ places_of c.number journal
  pub began : BeginsWith c.seen journal

-- time is moved on to now, or it is later: one Expire for each transfer that is due then, at consecutive places behind the journal so far, which are the caller's last
pub record Ticks (setup : Setup) (now : ℕ) (past : List Place) (old : Calling) (given : List Receipted) (new : Calling) : Type 0 where
  pub before : List Place
  pub moment : ℕ
  pub places : List Place
  pub late : now ≤ moment
  pub each : map asked places ≡ asks old.number moment (due setup (dated before) moment)
  pub receipts : given ≡ receipts_from (length before) places
  pub own : new.own ≡ old.own ++ places
  pub number : new.number ≡ old.number
  pub missed : new.missed ≡ old.missed
  pub behind : BeginsWith past before
  pub began : BeginsWith old.seen before
  pub saw : new.seen ≡ before ++ places

-- a caller looks: it sees the journal so far, and its own places are what they were
pub record LooksOn (old new : Calling) : Type 0 where
  pub number : new.number ≡ old.number
  pub own : new.own ≡ old.own
  pub missed : new.missed ≡ old.missed
  pub began : BeginsWith old.seen new.seen

-- what is to be done where the run of a journal's steps ends
abbrev pub ShowsPending : Setup → List Place → Pending → Type 0
ShowsPending setup seen pending = IsRun setup seen × ((after : Option (ℕ × ℕ)) × IsPending setup (world_where setup seen) after pending)

-- what there is to do with events there
abbrev pub ShowsEvents : Setup → List Place → Events → Type 0
ShowsEvents setup seen events = IsRun setup seen × HasEvents setup seen events

-- whether there is work of the controller's part: a packet or an order
abbrev pub has_work : Pending → Bool
has_work look = is_some look.serve || look.command

-- whether there is an event or a result
abbrev pub has_events : Events → Bool
has_events look = look.deliver || look.take

-- there is nothing at all to do, and no transfer is in its callback
abbrev pub is_nothing : Pending → Bool
is_nothing look = not (has_work look || (look.deliver || (look.take || look.out)))

-- nothing is to be done in a world, and no transfer is in its callback
pub record IsAtRest (setup : Setup) (w : World) : Type 0 where
  pub packets : find (λ x. serves setup w x.0 x.1) (in_circle None) ≡ None
  pub orders : does_something setup w Command ≡ false
  pub events : does_something setup w Deliver ≡ false
  pub results : does_something setup w Take ≡ false
  pub callbacks : (h : ℕ) → ((w.names h).in_callbacks ≡ [] → ⊥) → ⊥

-- a look shows neither a packet nor an order
abbrev pub LacksWork : Setup → List Place → Type 0
LacksWork setup seen = (look : Pending) × ShowsPending setup seen look × (has_work look ≡ false)

-- a look shows neither an event nor a result
abbrev pub LacksEvents : Setup → List Place → Type 0
LacksEvents setup seen = (look : Events) × ShowsEvents setup seen look × (has_events look ≡ false)

-- why a step was refused
abbrev pub refusal : Reply → Option Refused
refusal (IsRefused why) = Some why
refusal reply = None

-- whether something was done: the step was neither refused nor idle
abbrev pub changes : Reply → Bool
changes Idle = false
changes (IsRefused why) = false
changes reply = true
