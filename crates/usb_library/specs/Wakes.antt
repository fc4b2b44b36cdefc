-- For whom a step makes work that wasn't there before it.
use Rattle.std.specs.Prelude.{◌≡◌, ℕ, Bool, true, false, ◌⊎◌, List, take, if◌then◌else◌}
use Rattle.usb_model.specs.declared.reply.Reply.{Reply}
use Rattle.usb_model.specs.declared.reply.Reply.TheVariants.{Ended, Settled}
use Rattle.usb_model.specs.declared.step.Step.{Step}
use Rattle.usb_model.specs.declared.step.Step.TheVariants.{Answer, Command, Deliver, Serve, Submit, Take}
use Rattle.usb_model.specs.declared.verdict.Verdict.{Verdict}
use Rattle.usb_model.specs.declared.verdict.Verdict.TheVariants.{Stop}
use Rattle.usb_model.specs.Setup.{Setup}
use Rattle.usb_model.specs.World.{World, new_world, turn, world_from}
use Rattle.usb_core.specs.Public.{does_something, serves}
use Rattle.usb_library.specs.declared.wakes.WorkerPart.{WorkerPart}
use Rattle.usb_library.specs.declared.wakes.WorkerPart.TheVariants.{Controller, Events}
use Rattle.usb_library.specs.declared.wakes.Work.{Work}
use Rattle.usb_library.specs.declared.wakes.Work.TheVariants.{Any, None, Of}
use Rattle.usb_recorder.specs.declared.place.Place.{Place}
use Rattle.usb_journal.specs.Booked.{world_where}
use Rattle.usb_library.specs.Calls.{changes}

-- there is something to do for a worker: a packet or an order for the controller's, an event or a result for that of events
abbrev pub HasWork : Setup → World → WorkerPart → Type 0
HasWork setup w Controller = ((d e : ℕ) × (serves setup w d e ≡ true)) ⊎ (does_something setup w Command ≡ true)
HasWork setup w Events = (does_something setup w Deliver ≡ true) ⊎ (does_something setup w Take ≡ true)

-- whether one of the workers is that of a part
abbrev pub is_part : WorkerPart → WorkerPart → Bool
is_part Controller Controller = true
is_part Events Events = true
is_part _ _ = false

-- whether work is said to be for a part
abbrev pub names : Work → WorkerPart → Bool
names None part = false
names (Of p) part = is_part p part
names Any part = true

-- each worker that has work afterwards had some before, or is named
abbrev pub Wakes : Setup → (before after : World) → Work → Type 0
Wakes setup before after work = (part : WorkerPart) → HasWork setup after part → HasWork setup before part ⊎ (names work part ≡ true)

-- the same of the steps of a journal from a place on: of the worlds where its run stood before that place, and where it ends
abbrev pub WakesSince : Setup → List Place → ℕ → Work → Type 0
WakesSince setup journal place work = Wakes setup (world_where setup (take place journal)) (world_where setup journal) work

-- for whom a packet makes work: a transfer that ended has its event
abbrev pub of_packet : Reply → Work
of_packet (Ended n code) = Of Events
of_packet _ = None

-- for whom an event makes work: an errand ended and its endpoint runs again, or an order waits
abbrev pub of_event : Reply → Bool → Work
of_event (Settled ep errand ok) has_order = Of Controller
of_event _ has_order = if has_order then Of Controller else None

-- for whom the end of a callback makes work: for nobody, but where the transfer is submitted again
abbrev pub of_verdict : Verdict → Work
of_verdict Stop = None
of_verdict _ = Of Controller

-- for whom a step makes work that changed something, by the reply and whether an order waits then
abbrev pub of_change : Step → Reply → Bool → Work
of_change (Serve dev ep) reply has_order = of_packet reply
of_change Deliver reply has_order = of_event reply has_order
of_change Take reply has_order = None
of_change (Submit h request) reply has_order = Of Controller
of_change (Answer h n verdict) reply has_order = of_verdict verdict
of_change _ reply has_order = Any

-- for nobody, where nothing changed
abbrev pub if_changed : Bool → Work → Work
if_changed changed work = if changed then work else None

-- for whom a step makes work; what is refused or idle, for nobody
abbrev pub work_of : Step → Reply → Bool → Work
work_of step reply has_order = if_changed (changes reply) (of_change step reply has_order)

-- a step behind a run: each worker that has work after it had some before, or is named by the rule
abbrev pub NamesNewWork : Setup → List Step → Step → Type 0
NamesNewWork setup steps step =
    let w : World = world_from setup (new_world setup) steps in
    let after : World = (turn setup w step).world in
    Wakes setup w after (work_of step (turn setup w step).entry.reply (does_something setup after Command))
