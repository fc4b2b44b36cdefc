-- What comes of a plan over the core.
use Rattle.std.specs.Prelude.{◌≡◌, ◌≢◌, ℕ, ◌⊎◌, Bool, true, false, List, [], ◌∷◌, ◌++◌, Option, Some, None}
use Rattle.std.specs.List.{AllByRecursion}
use Rattle.usb_model.specs.declared.entry.Entry.{Entry}
use Rattle.usb_model.specs.declared.plan.Plan.{Plan}
use Rattle.usb_model.specs.declared.step.Step.{Step}
use Rattle.usb_model.specs.declared.verdict.Rule.{Rule}
use Rattle.usb_model.specs.declared.verdict.Rule.TheVariants.{Free}
use Rattle.usb_model.specs.Setup.{Setup}
use Rattle.usb_model.specs.World.Journal.{world_run}
use Rattle.usb_model.specs.World.Plans.{Expands, Stage, expand, first_stage, stage_after}
use Rattle.usb_core.specs.Runs.{ObeysLaws}
use Rattle.usb_model.specs.Laws.Callbacks.{CallsAfterNumber, CallsInOrder, CallsOnce}
use Rattle.proof_laws.specs.Isolation.{SeesAlone}
use Rattle.usb_plans.specs.PlanRuns.{Performs, PlanState, ShowsBut, ShowsStage, StandsFor, called_by}

-- the callbacks that are left, and the one that a piece takes: the first of them, where it submits
abbrev pub TakesNext : {P : Type 0} → (submits : Bool) → (old new : List P) → Option P → Type 0
TakesNext true (c ∷ cs) new out = (out ≡ Some c) × (new ≡ cs)
TakesNext true [] new out = (out ≡ None) × (new ≡ [])
TakesNext false old new out = (out ≡ None) × (new ≡ old)

-- a piece was performed, and its entries stand behind those before
abbrev pub Advances : {P : Type 0} → (P → Rule) → (old : PlanState P) → Plan → Option P → (new : PlanState P) → (before after : List Entry) → Type 0
Advances rule old piece callback new before after = (entries : List Entry) × Performs rule old piece callback entries new × (after ≡ before ++ entries)

-- what holds of every run, and so of these steps: the laws of the core, and those of isolation
pub record ObeysAll (setup : Setup) (steps : List Step) : Type 0 where
  pub core : ObeysLaws setup steps
  pub alone : (h : ℕ) → SeesAlone setup steps h
  pub once : (h : ℕ) → CallsOnce setup steps h
  pub after : (h : ℕ) → CallsAfterNumber setup steps h
  pub order : (h : ℕ) → CallsInOrder setup steps h

-- the entries of a plan: of steps that it may stand for under these rules; of the only ones, where no rule is Free
pub record IsDriven (setup : Setup) (plan : List Plan) (rules : List Rule) (entries : List Entry) : Type 0 where
  pub steps : List Step
  pub may : Expands setup plan rules steps
  pub only : AllByRecursion (λ rule. rule ≢ Free) rules → steps ≡ expand setup plan rules
  pub run : entries ≡ world_run setup steps
  pub laws : ObeysAll setup steps

-- pieces of a plan may stand for these steps, and then the stage behind them is this one
abbrev pub Leads : Setup → Stage → List Plan → List Step → Stage → Type 0
Leads setup s [] steps t = (steps ≡ []) × (t ≡ s)
Leads setup s (piece ∷ plan) steps t = (here : List Step) × (more : List Step) × StandsFor setup s piece here × (steps ≡ here ++ more) × Leads setup (stage_after setup s piece here) plan more t

module _ {P : Type 0} (rule : P → Rule) where
  -- the stage before a piece that found no memory is shown; where that is a return whose callback was called, all of it but this callback
  abbrev pub StopsAt : Setup → Plan → PlanState P → Stage → Type 0
  StopsAt setup piece run s = ShowsStage rule setup run s ⊎ ShowsBut rule setup (called_by piece) run s

  -- whatever stage was shown before a piece that found no memory
  abbrev pub StaysAt : (old : PlanState P) → Plan → (new : PlanState P) → Type 0
  StaysAt old piece new = (setup : Setup) (s : Stage) → ShowsStage rule setup old s → StopsAt setup piece new s

  -- a plan stopped at a piece that found no memory: the entries are those of all pieces before it, and the run shows the stage behind just
  -- these. With the rest their steps are some that the plan may stand for; the only ones, where no rule is Free
  pub record IsDrivenTo (setup : Setup) (plan : List Plan) (rules : List Rule) (entries : List Entry) (run : PlanState P) : Type 0 where
    pub before : List Plan
    pub piece : Plan
    pub behind : List Plan
    pub parts : plan ≡ before ++ piece ∷ behind
    pub steps : List Step
    pub stage : Stage
    pub leads : Leads setup (first_stage setup rules) before steps stage
    pub told : entries ≡ world_run setup steps
    pub shows : StopsAt setup piece run stage
    pub rest : List Step
    pub may : Expands setup plan rules (steps ++ rest)
    pub only : AllByRecursion (λ rule. rule ≢ Free) rules → steps ++ rest ≡ expand setup plan rules

  -- what a plan that found no memory gives: it stopped amid its pieces, or it wasn't begun
  abbrev pub IsStopped : Setup → List Plan → List Rule → List Entry → Option (PlanState P) → Type 0
  IsStopped setup plan rules entries None = entries ≡ []
  IsStopped setup plan rules entries (Some run) = IsDrivenTo setup plan rules entries run
