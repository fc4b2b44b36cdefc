-- A result further each turn, until there is none.
use Rattle.std.proofs.Common.{◌++◌, ◌∷◌, ◌∙◌, [], ap}
use Rattle.trace_left.proofs.ReadParts.{all_results, one_result}
use Rattle.trace_left.proofs.gather.add_results.Goals as goal

pub loop-i-preserved : goal.loop-i-preserved
loop-i-preserved g c = λ setup w shown.
    one_result c.args.left.now.items c.loop-i.left.items c.push.new.self.items w.results c.loop-i.i c.result_at.result c.in-Some.waiting (c.result_at.ensures setup w shown) c.in-Some.is (c.loop-i.invariant setup w shown)
    (c.in_ok-push.ensures.items ∙ ap (λ x. c.loop-i.left.items ++ x ∷ []) c.result_left.ensures)

pub returns-in_default : goal.returns-in_default
returns-in_default g c = λ setup w shown. all_results c.args.left.now.items c.loop-i.left.items w.results c.loop-i.i c.result_at.result (c.result_at.ensures setup w shown) c.in_default.is (c.loop-i.invariant setup w shown)
