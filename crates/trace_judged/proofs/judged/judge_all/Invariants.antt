-- What is left says what is still to come: the packets that differ, and the world at the end.
use Rattle.std.proofs.Common.{◌≡◌, ◌++◌, drop, map}
use Rattle.usb_model.specs.World.{world_from}
use Rattle.usb_model.specs.World.Plans.{expand_from}
use Rattle.trace_scenario.specs.StepLines.{numbered}
use Rattle.reference.specs.PlanRuns.{stage_of}
use Rattle.reference.specs.System.{world_of}
use Rattle.trace_judged.specs.Differences.{differences_from}
use Rattle.trace_judged.proofs.judged.judge_all.Given as goal

abbrev pub invariant-loop-piece : goal.invariant-loop-piece
invariant-loop-piece l = record {
  counted : l.at ≡ l.piece-index;
  found :
      l.differences.items ++ differences_from l.expected l.setup (stage_of l.setup l.run l.left) (drop l.piece-index l.plan) (drop l.at (map numbered l.lines))
      ≡ l.initial.differences.items ++ differences_from l.expected l.setup (stage_of l.setup l.initial.run l.rules) l.plan (map numbered l.lines);
  ends :
      world_from l.setup (world_of l.setup l.run.system) (expand_from l.setup (stage_of l.setup l.run l.left) (drop l.piece-index l.plan))
      ≡ world_from l.setup (world_of l.setup l.initial.run.system) (expand_from l.setup (stage_of l.setup l.initial.run l.rules) l.plan);
}
