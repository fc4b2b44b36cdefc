use Rattle.std.proofs.Common.{◌≡◌, ◌++◌, ap, ◌∙◌, map}
use Rattle.usb_model.specs.World.Plans.{Stage}
use Rattle.trace_scenario.specs.StepLines.{numbered}
use Rattle.reference.specs.PlanRuns.{stage_of}
use Rattle.trace_explain.specs.Explained.{explained_from}
use Rattle.trace_explain.proofs.explained.explained_run.Goals as goal

pub returns : goal.returns
returns c = record {
  text =
      c.in_ok-explain_all.ensures.text
      ∙ ap (λ xs. xs ++ explained_from c.args.telling c.args.setup.now (stage_of c.args.setup.now c.in_ok-run.run' c.args.rules.now) c.args.plan.now (map numbered c.args.lines.now)) c.new-text.ensures.items
      ∙ ap (λ (s : Stage). explained_from c.args.telling c.args.setup.now s c.args.plan.now (map numbered c.args.lines.now)) (c.in_ok-run.ensures.stage c.args.rules.now);
}
