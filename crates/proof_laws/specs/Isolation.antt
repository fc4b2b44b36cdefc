-- Isolation: what a handle sees of a run, and what its part of a plan stands for, are what they are alone.
use Rattle.std.specs.Prelude.{◌≡◌, ◌≢◌, ◌↔◌, ℕ, ◌<◌, ◌≤◌, ◌==◌, ◌&&◌, List, ◌∷◌, ◌++◌, map, Option, Some, None}
use Rattle.std.specs.List.{filter, AllByRecursion}
use Rattle.std.specs.List.Sorted.{IsStrictlyIncreasing}
use Rattle.usb_model.specs.declared.refused.Refused.TheVariants.{HeldElsewhere}
use Rattle.usb_model.specs.declared.reply.Reply.TheVariants.{Called, Idle, Refused}
use Rattle.usb_model.specs.declared.reply.Returned.{Returned}
use Rattle.usb_model.specs.declared.entry.Entry.{Entry}
use Rattle.usb_model.specs.declared.step.Step.{Step}
use Rattle.usb_model.specs.declared.step.Step.TheVariants.{Unplug}
use Rattle.usb_model.specs.declared.verdict.Rule.{Rule}
use Rattle.usb_model.specs.declared.verdict.Rule.TheVariants.{Free}
use Rattle.usb_model.specs.declared.plan.Plan.{Plan}
use Rattle.usb_model.specs.Setup.{Setup}
use Rattle.usb_model.specs.Endpoint.Status.{is_uncut}
use Rattle.usb_model.specs.Machine.{new_machine}
use Rattle.usb_model.specs.Machine.Turns.{alone, machine_from}
use Rattle.usb_model.specs.World.{World, new_world, machine_of, turn, world_from}
use Rattle.usb_model.specs.World.Journal.{world_run, own, entries}
use Rattle.usb_model.specs.World.Plans.{expand, Expands, own_plan, own_rules}
use Rattle.usb_model.specs.Laws.Cut.{times}
use Rattle.usb_model.specs.Laws.Places.{calls, numbers_given, numbers_called}
use Rattle.proof_laws.specs.Holders.{IsHeldByAnother}
use Rattle.proof_laws.specs.Whose.{IsOf, IsNobodys}

-- what a handle sees is what it sees alone over its own steps
abbrev pub SeesAlone : Setup → List Step → ℕ → Type 0
SeesAlone setup steps h = entries setup steps h ≡ alone setup (own setup steps h) h

-- and that is what the system does where no other handle makes a step
abbrev pub RunsAlone : Setup → List Step → ℕ → Type 0
RunsAlone setup steps h = world_run setup (own setup steps h) ≡ entries setup steps h

-- where a run ends, what the world is to a handle is where its machine ends alone over its own steps
abbrev pub StatesAlone : Setup → List Step → ℕ → Type 0
StatesAlone setup steps h = machine_of setup h (world_from setup (new_world setup) steps) ≡ machine_from setup h new_machine (own setup steps h)

-- what a handle's part of a plan stands for, alone, is its part of what the plan stands for
abbrev pub ExpandsAlone : Setup → List Plan → List Rule → ℕ → Type 0
ExpandsAlone setup plan rules h = expand setup (own_plan setup plan rules h) (own_rules setup plan rules h) ≡ own setup (expand setup plan rules) h

-- what a plan stands for by expand, it may stand for
abbrev pub MayExpand : Setup → List Plan → List Rule → Type 0
MayExpand setup plan rules = Expands setup plan rules (expand setup plan rules)

-- and where no rule is Free, it stands for nothing else
abbrev pub ExpandsOnly : Setup → List Plan → List Rule → Type 0
ExpandsOnly setup plan rules = AllByRecursion (λ rule. rule ≢ Free) rules → (steps : List Step) → Expands setup plan rules steps → steps ≡ expand setup plan rules

-- a step is refused because of another handle just where another holds what it wants
abbrev pub TellsOfAnother : Setup → World → Step → Type 0
TellsOfAnother setup w step = ((turn setup w step).entry.reply ≡ Refused HeldElsewhere) ↔ IsHeldByAnother setup w step

-- and then nothing changes
abbrev pub ChangesNothingForAnother : Setup → World → Step → Type 0
ChangesNothingForAnother setup w step = (turn setup w step).entry.reply ≡ Refused HeldElsewhere → (turn setup w step).world ≡ w

-- an entry has this owner just where the step is the owner's
abbrev pub NamesOwner : Setup → World → Step → ℕ → Type 0
NamesOwner setup w step h = ((turn setup w step).entry.owner ≡ Some h) ↔ IsOf setup w h step

-- it has none just where the step is nobody's
abbrev pub NamesNobody : Setup → World → Step → Type 0
NamesNobody setup w step = ((turn setup w step).entry.owner ≡ None) ↔ IsNobodys setup w step

-- nobody's step is idle and changes nothing, but for an Unplug
abbrev pub IdlesForNobody : Setup → World → Step → Type 0
IdlesForNobody setup w step = IsNobodys setup w step → ((dev : ℕ) → step ≢ Unplug dev) → ((turn setup w step).entry.reply ≡ Idle) × ((turn setup w step).world ≡ w)
