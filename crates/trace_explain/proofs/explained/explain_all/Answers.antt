use Rattle.std.proofs.Common.{◌≡◌, ◌+◌, ◌<◌, ◌≤◌, ◌++◌, ◌∷◌, drop, length, map, ap, sym, ◌∙◌, subst, arith}
use Rattle.usb_model.specs.World.Plans.{Stage}
use Rattle.trace_scenario.specs.StepLines.{numbered}
use Rattle.reference.specs.PlanRuns.{stage_of}
use Rattle.trace_explain.specs.Explained.{explained_from}
use Rattle.trace_explain.proofs.Explains.{explained-further, explained-end, line_at}
use Rattle.trace_explain.proofs.explained.explain_all.Goals as goal

pub loop-piece-preserved : goal.loop-piece-preserved
loop-piece-preserved c =
    let setup = c.args.setup.now in
    let i = c.loop-piece.piece-index in
    let s : Stage = stage_of setup c.loop-piece.run c.loop-piece.left.now in
    let t : Stage = stage_of setup c.explain_piece.new.run c.rules_after-left.result.now in
    let told = c.in_ok-explain_piece.ensures in
    let here : c.loop-piece.at < length c.args.lines.now = omega (arith, c.loop-piece.invariant.counted, c.loop-piece-test.true, c.requires.each) in
    record {
      counted = ap (λ n. n + 1) c.loop-piece.invariant.counted;
      told =
          explained-further c.args.telling setup s t c.piece-item.result c.args.plan.now i _ (drop (c.loop-piece.at + 1) (map numbered c.args.lines.now)) c.loop-piece.text.items c.explain_piece.new.text.items _
          c.loop-piece-test.true c.piece-item.is
          (sym (ap (λ l. c.loop-piece.text.items ++ explained_from c.args.telling setup s (drop i c.args.plan.now) l) (line_at numbered c.args.lines.now c.loop-piece.at _ here)) ∙ c.loop-piece.invariant.told)
          told.text (ap (stage_of setup c.explain_piece.new.run) c.rules_after-left.ensures ∙ told.stage);
    }

pub returns : goal.returns
returns c = record {
  text = explained-end c.args.telling c.args.setup.now (stage_of c.args.setup.now c.loop-piece.run c.loop-piece.left.now) c.args.plan.now c.loop-piece.piece-index (drop c.loop-piece.at (map numbered c.args.lines.now)) c.loop-piece.text.items _ c.loop-piece-test.false c.loop-piece.invariant.told;
}
