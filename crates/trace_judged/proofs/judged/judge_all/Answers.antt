use Rattle.std.proofs.Common.{◌≡◌, ◌+◌, ◌<◌, ◌≤◌, ◌++◌, ◌∷◌, drop, length, map, ap, sym, ◌∙◌, arith}
use Rattle.std.specs.Option.{option_to_list}
use Rattle.usb_model.specs.World.Plans.{Stage}
use Rattle.trace_scenario.specs.StepLines.{numbered}
use Rattle.reference.specs.PlanRuns.{stage_of}
use Rattle.trace_judged.specs.Differences.{differences_from}
use Rattle.trace_judged.proofs.Judges.{ends-end, ends-further, judged-end, judged-further, line_at}
use Rattle.trace_judged.proofs.judged.judge_all.Goals as goal

pub loop-piece-preserved : goal.loop-piece-preserved
loop-piece-preserved c =
    let setup = c.args.setup.now in
    let i = c.loop-piece.piece-index in
    let s : Stage = stage_of setup c.loop-piece.run c.loop-piece.left.now in
    let t : Stage = stage_of setup c.judge_piece.new.run c.rules_after-left.result.now in
    let made = c.in_ok-found.ensures in
    let here : c.loop-piece.at < length c.args.lines.now = omega (arith, c.loop-piece.invariant.counted, c.loop-piece-test.true, c.requires.each) in
    record {
      counted = ap (λ n. n + 1) c.loop-piece.invariant.counted;
      found =
          judged-further c.args.expected.now setup s t c.piece-item.result c.args.plan.now i _ (drop (c.loop-piece.at + 1) (map numbered c.args.lines.now)) c.loop-piece.differences.items c.put.new.differences.items _
          c.loop-piece-test.true c.piece-item.is
          (sym (ap (λ l. c.loop-piece.differences.items ++ differences_from c.args.expected.now setup s (drop i c.args.plan.now) l) (line_at numbered c.args.lines.now c.loop-piece.at _ here)) ∙ c.loop-piece.invariant.found)
          (c.in_ok-put.ensures ∙ ap (λ d. c.loop-piece.differences.items ++ option_to_list d) made.found) (ap (stage_of setup c.judge_piece.new.run) c.rules_after-left.ensures ∙ made.stage);
      ends =
          ends-further setup s t c.piece-item.result c.args.plan.now i _ c.loop-piece-test.true c.piece-item.is c.loop-piece.invariant.ends
          (ap (stage_of setup c.judge_piece.new.run) c.rules_after-left.ensures ∙ made.stage);
    }

pub returns : goal.returns
returns c = record {
  found = judged-end c.args.expected.now c.args.setup.now (stage_of c.args.setup.now c.loop-piece.run c.loop-piece.left.now) c.args.plan.now c.loop-piece.piece-index (drop c.loop-piece.at (map numbered c.args.lines.now)) c.loop-piece.differences.items _ c.loop-piece-test.false c.loop-piece.invariant.found;
  world = ends-end c.args.setup.now (stage_of c.args.setup.now c.loop-piece.run c.loop-piece.left.now) c.args.plan.now c.loop-piece.piece-index _ c.loop-piece-test.false c.loop-piece.invariant.ends;
}
