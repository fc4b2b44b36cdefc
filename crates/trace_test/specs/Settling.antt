-- The steps of a line that settles.
use Rattle.std.specs.Prelude.{◌≡◌, ◌⊎◌, ◌≤◌, ◌++◌, ℕ, Bool, true, false, List, [], ◌∷◌, length, Option, Some, None}
use Rattle.usb_model.specs.declared.plan.Plan.TheVariants.{Do}
use Rattle.usb_model.specs.declared.step.Step.{Step}
use Rattle.usb_model.specs.declared.step.Step.TheVariants as step
use Rattle.usb_model.specs.declared.verdict.Rule.{Rule}
use Rattle.usb_model.specs.Setup.{Setup}
use Rattle.usb_model.specs.World.{World}
use Rattle.usb_model.specs.World.Plans.{Stage, stage_after}
use Rattle.usb_core.specs.Public.{does_something}
use Rattle.usb_plans.specs.PlanRuns.{PlanState, ShowsStage}
use Rattle.trace_test.specs.declared.settling.Settling.{Settling}
use Rattle.trace_test.specs.declared.settling.Settling.TheVariants.{Command, Deliver, Take}

-- how many steps a line that settles stands for at most
abbrev pub most_steps : ℕ
most_steps = 65536

-- the next step that settles, by whether there is an order, an event and a result: an order is carried out before an event is handled, and that before a result goes out
abbrev pub settling_by : (order event result : Bool) → Option Settling
settling_by true event result = Some Command
settling_by false true result = Some Deliver
settling_by false false true = Some Take
settling_by false false false = None

abbrev pub settling_at : Setup → World → Option Settling
settling_at setup w = settling_by (does_something setup w step.Command) (does_something setup w step.Deliver) (does_something setup w step.Take)

-- it as a step of the model, and where that leads
abbrev pub step_of : Settling → Step
step_of Command = step.Command
step_of Deliver = step.Deliver
step_of Take = step.Take

abbrev pub stage_past : Setup → Stage → Settling → Stage
stage_past setup s x = stage_after setup s (Do (step_of x)) (step_of x ∷ [])

-- each of some steps is the next that settles, and they lead from one stage to another
unfoldable pub SettleTo : Setup → Stage → List Settling → Stage → Type 0
SettleTo setup s [] s' = s' ≡ s
SettleTo setup s (x ∷ xs) s' = (settling_at setup s.world ≡ Some x) × SettleTo setup (stage_past setup s x) xs s'

-- they go on until there is none, or they are as many as a line may stand for
pub record Settles (setup : Setup) (s : Stage) (steps : List Settling) (s' : Stage) : Type 0 where
  pub each : SettleTo setup s steps s'
  pub few : length steps ≤ most_steps
  pub rest : (settling_at setup s'.world ≡ None) ⊎ (length steps ≡ most_steps)

module _ {P : Type 0} (rule : P → Rule) where
  -- from a run that shows a stage the next step that settles was made and kept, where there is one
  abbrev pub MakesNext : Bool → Setup → Stage → List Settling → PlanState P → List Settling → Type 0
  MakesNext true setup s xs new ys = (x : Settling) × (settling_at setup s.world ≡ Some x) × (ys ≡ xs ++ x ∷ []) × ShowsStage rule setup new (stage_past setup s x)
  MakesNext false setup s xs new ys = (settling_at setup s.world ≡ None) × (ys ≡ xs) × ShowsStage rule setup new s

  abbrev pub SettlesOnce : Bool → PlanState P → List Settling → PlanState P → List Settling → Type 0
  SettlesOnce made old xs new ys = (setup : Setup) (s : Stage) → ShowsStage rule setup old s → MakesNext made setup s xs new ys

  -- from a run that shows a stage these steps were made, which settle there
  abbrev pub SettlesFrom : PlanState P → List Settling → PlanState P → Type 0
  SettlesFrom old steps new = (setup : Setup) (s : Stage) → ShowsStage rule setup old s → (s' : Stage) × Settles setup s steps s' × ShowsStage rule setup new s'
