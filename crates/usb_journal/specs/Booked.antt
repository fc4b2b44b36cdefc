-- What contracts see of a book, and what one more place of it is.
use Rattle.std.specs.Prelude.{◌≡◌, ◌≤◌, ◌+◌, ℕ, List, [], ◌∷◌, ◌++◌, length, map, Option, Some, None, Result, Ok, Err}
use Rattle.usb_model.specs.declared.entry.Entry.{Entry}
use Rattle.usb_model.specs.declared.refused.Refused.{Refused}
use Rattle.usb_model.specs.declared.refused.Refused.TheVariants.{NoMem}
use Rattle.usb_model.specs.declared.reply.Reply.TheVariants.{Number, Refused as IsRefused}
use Rattle.usb_model.specs.declared.request.Request.{Request}
use Rattle.usb_model.specs.declared.step.Step.{Step}
use Rattle.usb_model.specs.declared.step.Step.TheVariants.{Answer, Deliver, Submit, Take}
use Rattle.usb_model.specs.declared.verdict.Verdict.TheVariants.{AgainWith}
use Rattle.usb_model.specs.Setup.{Setup}
use Rattle.usb_model.specs.World.{World, new_world, turn, world_from}
use Rattle.usb_model.specs.World.Due.{Dated}
use Rattle.usb_model.specs.World.Journal.{world_run}
use Rattle.usb_core.specs.Public.{ShowsWorld, State, Stays, StillCarries, does_something}
use Rattle.usb_core.specs.declared.submission.SubmitError.{SubmitError}
use Rattle.usb_journal.specs.declared.events.Events.{Events}
use Rattle.usb_recorder.specs.declared.place.Place.{Place}
use Rattle.usb_journal.specs.declared.record.RecordError.{RecordError}
use Rattle.usb_receipts.specs.Rule.{BeginsWith}
use Rattle.usb_journal.specs.Seen.{Positioned, Receipted}

-- a book: its devices, the journal, the moment, and the core
pub record Booked (P : Type 0) : Type 0 where
  pub setup : Setup
  pub journal : List Place
  pub moment : ℕ
  pub core : State P

-- a book that is closed: its devices, the journal, the core, and the positions that came back, each by its number with what it had seen
pub record Closes (P : Type 0) : Type 0 where
  pub setup : Setup
  pub journal : List Place
  pub core : State P
  pub back : List (ℕ × List Place)

abbrev pub steps_of : List Place → List Step
steps_of journal = map (λ p. p.step) journal

abbrev pub entries_of : List Place → List Entry
entries_of journal = map (λ p. p.entry) journal

-- the world where the run of a journal's steps ends
abbrev pub world_where : Setup → List Place → World
world_where setup journal = world_from setup (new_world setup) (steps_of journal)

-- what there is to do with events where a journal ends
abbrev pub HasEvents : Setup → List Place → Events → Type 0
HasEvents setup journal events =
    (events.deliver ≡ does_something setup (world_where setup journal) Deliver) × (events.take ≡ does_something setup (world_where setup journal) Take)

-- the entry of one step more
abbrev pub next_entry : Setup → List Place → Step → Entry
next_entry setup journal step = (turn setup (world_where setup journal) step).entry

-- the entries of a journal are those of the run of its steps
abbrev pub IsRun : Setup → List Place → Type 0
IsRun setup journal = entries_of journal ≡ world_run setup (steps_of journal)

-- so they are, and a core shows the world where that run ends
abbrev pub Replays : {P : Type 0} → Setup → List Place → State P → Type 0
Replays setup journal core = IsRun setup journal × ShowsWorld setup core (world_where setup journal)

-- the receipt for one step more, with this entry
abbrev pub next_receipt : {P : Type 0} → Booked P → Step → ℕ → Entry → Receipted
next_receipt b step caller entry = record {
  place = length b.journal;
  entry = record { step = step; caller = caller; entry = entry; moment = b.moment };
}

-- the entry of a submission of name h that is answered so
abbrev pub answer_entry : {G P : Type 0} → ℕ → Result ℕ (SubmitError G P) → Entry
answer_entry h (Ok n) = record { owner = Some h; reply = Number n }
answer_entry h (Err x) = record { owner = Some h; reply = IsRefused x.why }

-- the request of a submission
abbrev pub request_in : Step → Option Request
request_in (Submit h request) = Some request
request_in step = None

-- the bytes of a submission from within a callback, where they are other ones
abbrev pub new_bytes_in : Step → Option (List ℕ)
new_bytes_in (Answer h n (AgainWith bytes)) = Some bytes
new_bytes_in step = None

-- the payload that comes back of a submission
abbrev pub payload_back : {G P : Type 0} → Result ℕ (SubmitError G P) → Option P
payload_back (Ok n) = None
payload_back (Err x) = Some x.payload

-- a submission was turned down for this
abbrev pub turned_down : {G P : Type 0} → Refused → G → P → Result (Result ℕ (SubmitError G P)) (RecordError G P)
turned_down NoMem given payload = Err (record { given = given; payload = payload })
turned_down why given payload = Ok (Err (record { why = why; given = given; payload = payload }))

-- what a submission is answered, unless memory was wanting
abbrev pub unless_no_memory : {G P : Type 0} → Result ℕ (SubmitError G P) → Result (Result ℕ (SubmitError G P)) (RecordError G P)
unless_no_memory (Ok n) = Ok (Ok n)
unless_no_memory (Err x) = turned_down x.why x.given x.payload

-- a journal began with what was seen for a position before, and all of it is seen afterwards
abbrev pub Sees : Positioned → (before : List Place) → Positioned → (after : List Place) → Type 0
Sees old before new after = BeginsWith old.seen before × (new.seen ≡ after)

-- a position was moved to the end of a journal: the bearer's own places are what they were, and all that is seen is the run of its steps
pub record Looks (setup : Setup) (old new : Positioned) : Type 0 where
  pub number : new.number ≡ old.number
  pub own : new.own ≡ old.own
  pub began : BeginsWith old.seen new.seen
  pub run : IsRun setup new.seen

-- a position was moved behind this place, which is its bearer's
abbrev pub IsMoved : Positioned → Receipted → Positioned → Type 0
IsMoved old receipt new =
    (old.position ≤ receipt.place) × (new.position ≡ receipt.place + 1) × (new.own ≡ old.own ++ receipt.entry ∷ [])
    × (new.number ≡ old.number)

-- nothing changed that anybody sees
pub record IsSame {P : Type 0} (old new : Booked P) : Type 0 where
  pub setup : new.setup ≡ old.setup
  pub journal : new.journal ≡ old.journal
  pub moment : new.moment ≡ old.moment
  pub core : Stays old.core new.core
  pub carries : StillCarries old.core new.core

-- the places as the definitions of time have them
abbrev pub dated : List Place → List Dated
dated journal = map (λ p. record { place = record { step = p.step; entry = p.entry }; moment = p.moment }) journal

-- what was asked for at a place
pub record Asked : Type 0 where
  pub step : Step
  pub caller : ℕ
  pub moment : ℕ

abbrev pub asked : Place → Asked
asked p = record { step = p.step; caller = p.caller; moment = p.moment }

-- these steps, asked for by a caller at a moment
abbrev pub asks : ℕ → ℕ → List Step → List Asked
asks caller moment steps = map (λ step. record { step = step; caller = caller; moment = moment }) steps
