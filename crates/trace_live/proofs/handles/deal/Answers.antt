use Rattle.std.proofs.Common.{◌∙◌, arith}
use Rattle.trace_live.specs.Lines.{call_in}
use Rattle.trace_live.proofs.Dealing.{dealt_at, when_ok}
use Rattle.trace_live.proofs.handles.deal.Goals as goal

pub returns-in-Some-clause-dealt : goal.returns-in-Some-clause-dealt
returns-in-Some-clause-dealt g c =
    when_ok c.push.result
    (λ pushed. dealt_at c.args.handles.now c.from.result _ c.index-handles-from.result c.push.new.self _ (call_in c.args.piece) (c.from.ensures ∙ c.number.ensures.value) (omega (arith, c.requires.all, c.number.ensures.value, c.number.ensures.below)) pushed c.in-Some.ensures.said)
    c.push.ensures.pushed
