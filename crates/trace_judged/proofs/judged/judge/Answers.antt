use Rattle.std.proofs.Common.{◌≡◌, ◌++◌, ap, ◌∙◌, map}
use Rattle.usb_model.specs.World.{World, world_from}
use Rattle.usb_model.specs.World.Plans.{Stage, expand_from}
use Rattle.trace_scenario.specs.StepLines.{numbered}
use Rattle.reference.specs.PlanRuns.{stage_of}
use Rattle.reference.specs.System.{world_of}
use Rattle.trace_judged.specs.Differences.{differences_from}
use Rattle.trace_judged.specs.Missing.{all_missing}
use Rattle.trace_judged.proofs.judged.judge.Goals as goal

pub returns : goal.returns
returns c =
    let setup = c.args.setup.now in
    let plan = c.args.plan.now in
    let stage = c.in_ok-run.ensures.stage c.args.rules.now in
    record {
      differences =
          c.in_ok-judge_all.ensures.found
          ∙ ap (λ xs. xs ++ differences_from c.args.expected.now setup (stage_of setup c.in_ok-run.run' c.args.rules.now) plan (map numbered c.args.lines.now)) c.new-differences.ensures.items
          ∙ ap (λ (s : Stage). differences_from c.args.expected.now setup s plan (map numbered c.args.lines.now)) stage;
      missing =
          c.in_ok-missing.ensures
          ∙ ap (all_missing c.args.expected.now setup)
          (c.in_ok-judge_all.ensures.world ∙ ap (λ (s : Stage). world_from setup s.world (expand_from setup s plan)) stage);
    }
