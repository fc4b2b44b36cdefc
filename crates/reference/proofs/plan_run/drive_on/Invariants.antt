-- The entries so far, and those from here on, are those of the plan.
use Rattle.std.proofs.Common.{◌≡◌, ◌++◌, drop}
use Rattle.usb_model.specs.World.Journal.{world_run}
use Rattle.usb_model.specs.World.Plans.{expand, expand_from}
use Rattle.reference.specs.PlanRuns.{kept_with, stage_of}
use Rattle.usb_model.specs.World.Journal.{run_from}
use Rattle.reference.specs.System.{world_of}
use Rattle.reference.proofs.plan_run.drive_on.Given as goal

abbrev pub invariant-loop-piece : goal.invariant-loop-piece
invariant-loop-piece l = record {
  entries : l.entries ++ run_from l.fn.setup (world_of l.fn.setup l.run.system) (expand_from l.fn.setup (stage_of l.fn.setup l.run l.left) (drop l.piece-index l.fn.plan)) ≡ world_run l.fn.setup (expand l.fn.setup l.fn.plan l.fn.rules);
  steps : kept_with l.run.made (expand_from l.fn.setup (stage_of l.fn.setup l.run l.left) (drop l.piece-index l.fn.plan)) ≡ kept_with l.fn.made (expand l.fn.setup l.fn.plan l.fn.rules);
}
