-- What a run prints step by step: each entry behind the line of its step.
use Rattle.std.specs.Prelude.{◌++◌, ℕ, List, [], ◌∷◌, Option}
use Rattle.std.specs.List.{flat_map}
use Rattle.usb_model.specs.declared.entry.Entry.{Entry}
use Rattle.usb_model.specs.declared.plan.Plan.{Plan}
use Rattle.usb_model.specs.declared.verdict.Rule.{Rule}
use Rattle.usb_model.specs.Setup.{Setup}
use Rattle.usb_model.specs.World.Journal.{run_from}
use Rattle.usb_model.specs.World.Plans.{Stage, first_stage, stage_after, steps_of}
use Rattle.usb_plans.specs.PlanRuns.{PlanState}
use Rattle.trace_io.specs.Output.{AppendsSome, behind_line}
use Rattle.trace_run.specs.Printed.{PrintsText, StartsPlan}
use Rattle.trace_run.specs.declared.lines.Reach.{Reach}

-- the entries of a piece of a plan, each behind the piece's line
unfoldable pub piece_text : ℕ × List ℕ → List Entry → List ℕ
piece_text line entries = flat_map (behind_line line) entries

-- the entries of a plan from a stage on, as far as there are lines
unfoldable pub stepwise_from : Setup → Stage → List Plan → List (ℕ × List ℕ) → List ℕ
stepwise_from setup s [] lines = []
stepwise_from setup s (piece ∷ plan) [] = []
stepwise_from setup s (piece ∷ plan) (line ∷ lines) =
    piece_text line (run_from setup s.world (steps_of setup s piece)) ++ stepwise_from setup (stage_after setup s piece (steps_of setup s piece)) plan lines

-- the entries of a plan under these rules, each behind the line of its piece
abbrev pub stepwise_text : Setup → List Plan → List Rule → List (ℕ × List ℕ) → List ℕ
stepwise_text setup plan rules lines = stepwise_from setup (first_stage setup rules) plan lines

-- a run stands at the beginning of a plan, over whichever devices and under whichever rules: what is printed of it is this text as far as the run came
module _ {P : Type 0} (rule : P → Rule) where
  abbrev pub PrintsSteps : Reach → List Plan → List (ℕ × List ℕ) → (run : PlanState P) → (left : List P) → (old new : Option (List ℕ)) → Type 0
  PrintsSteps reach plan lines run left old new = (setup : Setup) (rules : List Rule) → StartsPlan rule setup plan rules run left → PrintsText reach (stepwise_text setup plan rules lines) old new

  -- or a beginning of it
  abbrev pub BeginsSteps : List Plan → List (ℕ × List ℕ) → (run : PlanState P) → (left : List P) → (old new : Option (List ℕ)) → Type 0
  BeginsSteps plan lines run left old new = (setup : Setup) (rules : List Rule) → StartsPlan rule setup plan rules run left → AppendsSome (stepwise_text setup plan rules lines) old new
