use Rattle.std.proofs.Common.{◌≡◌, ◌++◌, drop, map}
use Rattle.trace_scenario.specs.StepLines.{numbered}
use Rattle.reference.specs.PlanRuns.{stage_of}
use Rattle.trace_explain.specs.Explained.{explained_from}
use Rattle.trace_explain.proofs.explained.explain_all.Given as goal

abbrev pub invariant-loop-piece : goal.invariant-loop-piece
invariant-loop-piece l = record {
  counted : l.at ≡ l.piece-index;
  told :
      l.text.items ++ explained_from l.telling l.setup (stage_of l.setup l.run l.left) (drop l.piece-index l.plan) (drop l.at (map numbered l.lines))
      ≡ l.initial.text.items ++ explained_from l.telling l.setup (stage_of l.setup l.initial.run l.rules) l.plan (map numbered l.lines);
}
