-- The entries so far, and those from here on, are those of the run.
use Rattle.std.proofs.Common.{◌≡◌, ◌++◌, drop}
use Rattle.usb_model.specs.World.Journal.{world_run}
use Rattle.usb_model.specs.World.Journal.{run_from}
use Rattle.reference.specs.System.{world_of}
use Rattle.reference.proofs.journal.run.Given as goal

abbrev pub invariant-loop-step : goal.invariant-loop-step
invariant-loop-step l = l.entries ++ run_from l.fn.setup (world_of l.fn.setup l.system) (drop l.step-index l.fn.steps) ≡ world_run l.fn.setup l.fn.steps
