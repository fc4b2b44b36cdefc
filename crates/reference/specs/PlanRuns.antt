-- What the plain program keeps in the midst of a plan.
use Rattle.std.specs.Prelude.{◌≡◌, ◌++◌, List, Option, Some, None}
use Rattle.usb_model.specs.declared.entry.Entry.{Entry}
use Rattle.usb_model.specs.declared.plan.Plan.{Plan}
use Rattle.usb_model.specs.declared.step.Step.{Step}
use Rattle.usb_model.specs.declared.verdict.Rule.{Rule}
use Rattle.reference.specs.declared.plan_run.PlanRun.{PlanRun}
use Rattle.usb_model.specs.Setup.{Setup}
use Rattle.usb_model.specs.World.Plans.{Stage, stage_after}
use Rattle.reference.specs.RuleBooks.{book_at}
use Rattle.usb_model.specs.World.Journal.{run_from}
use Rattle.reference.specs.System.{world_of}

-- the stage that it is, with the rules that are left
abbrev pub stage_of : Setup → PlanRun → List Rule → Stage
stage_of setup d rules = record { world = world_of setup d.system; book = λ h n. book_at d.book h n; rules = rules }

-- the steps that are kept, with these behind them, where any are kept
abbrev pub kept_with : Option (List Step) → List Step → Option (List Step)
kept_with None steps = None
kept_with (Some made) steps = Some (made ++ steps)

-- a piece of a plan was made by these steps: their entries stand behind the others, and the stage is the one after it
abbrev pub Made : Setup → Stage → Plan → List Step → List Entry → List Entry → Stage → Type 0
Made setup s piece steps before after t = (after ≡ before ++ run_from setup s.world steps) × (t ≡ stage_after setup s piece steps)
