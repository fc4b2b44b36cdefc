-- What the workers make of each look: of all that it showed steps in a row, and what callbacks answer.
use Rattle.std.specs.Prelude.{◌≡◌, ◌≤◌, ◌<◌, ◌^◌, ◌⊎◌, ℕ, zero, suc, Bool, true, false, List, [], ◌∷◌, count_by, map, replicate, Option, Some, None}
use Rattle.usb_model.specs.declared.reply.Reply.{Reply}
use Rattle.usb_model.specs.declared.reply.Reply.TheVariants.{Called, Number}
use Rattle.usb_model.specs.declared.reply.Returned.{Returned}
use Rattle.usb_model.specs.declared.step.Step.{Step}
use Rattle.usb_model.specs.declared.step.Step.TheVariants.{Answer, Command, Deliver, Serve, Take}
use Rattle.usb_model.specs.declared.verdict.Rule.{Rule}
use Rattle.usb_model.specs.declared.verdict.Verdict.{Verdict}
use Rattle.usb_model.specs.declared.verdict.Verdict.TheVariants.{Stop}
use Rattle.usb_model.specs.Numbers.{is_stop}
use Rattle.usb_model.specs.Setup.{Setup}
use Rattle.usb_core.specs.Public.{called_entry, does_something}
use Rattle.usb_core.specs.declared.pending.Pending.{Pending}
use Rattle.usb_core.specs.Callbacks.{Fits}
use Rattle.usb_journal.specs.declared.events.Events.{Events}
use Rattle.usb_recorder.specs.declared.place.Place.{Place}
use Rattle.usb_journal.specs.declared.rows.Row.{Row}
use Rattle.usb_journal.specs.Booked.{world_where}
use Rattle.usb_journal.specs.Seen.{Receipted}
use Rattle.usb_library.specs.Calls.{Calling, LooksOn, Makes, MakesRow, misses, row_entries}

-- a caller to whom memory was refused so often, in a row
unfoldable pub missed_by : ℕ → Calling → Calling
missed_by zero c = c
missed_by (suc k) c = misses (missed_by k c)

-- whether a reply accepts a submission
abbrev pub is_accepted : Reply → Bool
is_accepted (Number n) = true
is_accepted reply = false

-- whether a reply tells a callback something
abbrev pub is_called : Reply → Bool
is_called (Called r) = true
is_called reply = false

-- how many callbacks were told something, among these places
abbrev pub called_in : List Place → ℕ
called_in places = count_by (λ p. is_called p.entry.reply) places

-- a verdict that a callback may give where it is told this, of those that suit the name, and that fits its rule; or Stop, where more than so many callbacks were told something
abbrev pub MayAnswer : {C : Type 0} → (rounds : ℕ) → (C → ℕ → Type 0) → (C → Returned → Verdict → Type 0) → (C → Rule) → Calling → Returned → Verdict → Type 0
MayAnswer {C} rounds suits may_answer rule old x v = ((c : C) × suits c x.h × may_answer c x v × Fits (rule c) x v) ⊎ ((v ≡ Stop) × (rounds < called_in old.own))

-- how a worker's part ended: what it saw last has nothing of its part; or memory was refused to it a hundred times at least
abbrev pub HasEnded : (List Place → Type 0) → Calling → Type 0
HasEnded Lacks c = Lacks c.seen ⊎ (100 ≤ c.missed)

-- how often memory was refused in a row is no more than the caller counts
abbrev pub AreCounted : ℕ → Calling → Type 0
AreCounted refused c = (refused ≤ c.missed) × (refused < 2 ^ 32)

-- setup: of the library's devices
module _ (setup : Setup) where
  -- a step is made for a caller; or memory is refused to it, which the caller counts
  pub data Does (step : Step) (old new : Calling) : Type 0 where
    made : (r : Receipted) → Makes setup step old new r → Does step old new
    missed : new ≡ misses old → Does step old new

  -- it is where a look showed that it does something, and nothing is elsewhere
  abbrev pub DoesIf : Bool → Step → Calling → Calling → Type 0
  DoesIf true step old new = Does step old new
  DoesIf false step old new = new ≡ old

  -- packets in a row are made at an endpoint, at least one; or memory is refused, which the caller counts
  pub data ServesRow (dev ep : ℕ) (old new : Calling) : Type 0 where
    made : (row : Row) → 0 < row.count → MakesRow setup (replicate row.count (Serve dev ep)) old row new → ServesRow dev ep old new
    missed : new ≡ misses old → ServesRow dev ep old new

  -- they are at the endpoint where a look showed a packet, if it showed one
  abbrev pub Serves : Option (ℕ × ℕ) → Calling → Calling → Type 0
  Serves None old new = new ≡ old
  Serves (Some at) old new = ServesRow at.0 at.1 old new

  -- nothing is to be done by such a step where a caller has seen the journal
  abbrev pub HasNone : Step → Calling → Type 0
  HasNone step c = does_something setup (world_where setup c.seen) step ≡ false

  -- events in a row are handled, none only where none waits; or memory is refused
  pub data DeliversRow (old new : Calling) : Type 0 where
    made : (row : Row) → (row.count ≡ 0 → HasNone Deliver new) → MakesRow setup (replicate row.count Deliver) old row new → DeliversRow old new
    missed : new ≡ misses old → DeliversRow old new

  -- they are where a look showed an event
  abbrev pub DeliversIf : Bool → Calling → Calling → Type 0
  DeliversIf true old new = DeliversRow old new
  DeliversIf false old new = new ≡ old

  -- a look of the controller's worker: packets in a row where it showed one, then the order
  pub record Controls (look : Pending) (old new : Calling) : Type 0 where
    pub between : Calling
    pub packet : Serves look.serve old between
    pub order : DoesIf look.command Command between new

  -- the end of a transfer's callback is told, after memory was refused to it some times or never; or the worker gives up behind such a refusal, where memory was refused to it a hundred times at least
  pub data Ends (h n : ℕ) (old new : Calling) : Type 0 where
    told : (k : ℕ) (r : Receipted) → Makes setup (Answer h n Stop) (missed_by k old) new r → Ends h n old new
    given_up : (k : ℕ) → new ≡ missed_by (suc k) old → 100 ≤ new.missed → Ends h n old new

  -- what comes of the resubmission that a verdict asks for, if it asks for one; left: whether the callback isn't called again
  pub data Resubmits (h n : ℕ) (v : Verdict) (left : Bool) (old new : Calling) : Type 0 where
    asks_none : v ≡ Stop → left ≡ true → new ≡ old → Resubmits h n v left old new
    accepted : is_stop v ≡ false → left ≡ false → (r : Receipted) → Makes setup (Answer h n v) old new r → is_accepted r.entry.entry.reply ≡ true → Resubmits h n v left old new
    refused : is_stop v ≡ false → left ≡ true → (r : Receipted) → Makes setup (Answer h n v) old new r → is_accepted r.entry.entry.reply ≡ false → Resubmits h n v left old new
    missed : is_stop v ≡ false → left ≡ true → new ≡ misses old → Resubmits h n v left old new

  -- the verdict of a transfer's callback is told: its resubmission is accepted; or it asks for none, or that is refused or finds no memory, and behind it the end is told
  pub data Tells (h n : ℕ) (v : Verdict) (old new : Calling) : Type 0 where
    goes_on : Resubmits h n v false old new → Tells h n v old new
    ends : (between : Calling) → Resubmits h n v true old between → Ends h n between new → Tells h n v old new

  -- the oldest results are taken out in a row, and are these: none only where none waits; or there is no memory for the first
  pub data Takes (given : List Returned) (old new : Calling) : Type 0 where
    out : (row : Row) → (row.count ≡ 0 → HasNone Take new) → MakesRow setup (replicate row.count Take) old row new → row_entries row new ≡ map (λ x. called_entry (Some x)) given → Takes given old new
    missed : given ≡ [] → new ≡ misses old → Takes given old new

  -- of the callbacks of these results verdicts are told that may be given, by the caller as it is then, one behind another
  abbrev pub TellsAll : (Calling → Returned → Verdict → Type 0) → List Returned → Calling → Calling → Type 0
  TellsAll may [] old new = new ≡ old
  TellsAll may (x ∷ xs) old new = (between : Calling) × (v : Verdict) × may old x v × Tells x.h x.n v old between × TellsAll may xs between new

  -- results are taken out in a row, and behind it the verdicts of their callbacks are told, in the same order
  pub record CallsBackAll (may : Calling → Returned → Verdict → Type 0) (old new : Calling) : Type 0 where
    pub results : List Returned
    pub between : Calling
    pub taken : Takes results old between
    pub told : TellsAll may results between new

  -- where a look showed a result
  abbrev pub CallsBackIf : (Calling → Returned → Verdict → Type 0) → Bool → Calling → Calling → Type 0
  CallsBackIf may true old new = CallsBackAll may old new
  CallsBackIf may false old new = new ≡ old

  -- a look of the worker that handles events: events in a row where it showed one, then results
  pub record Handles (may : Calling → Returned → Verdict → Type 0) (look : Events) (old new : Calling) : Type 0 where
    pub between : Calling
    pub event : DeliversIf look.deliver old between
    pub result : CallsBackIf may look.take between new

-- look by look: what each showed is what there was to be seen in the journal so far, and is made
pub data Rounds {Look : Type 0} (Shows : List Place → Look → Type 0) (Act : Look → Calling → Calling → Type 0) (old : Calling) : Calling → Type 0 where
  none : Rounds Shows Act old old
  more : (look : Look) (between looked new : Calling) → Rounds Shows Act old between → LooksOn between looked → Shows looked.seen look → Act look looked new → Rounds Shows Act old new
  last : (between new : Calling) → Rounds Shows Act old between → LooksOn between new → Rounds Shows Act old new
