-- An answer more, and the end.
use Rattle.std.proofs.Common.{◌≡◌, [], arith}
use Rattle.std.specs.Vec.Iter.{into_iter_items}
use Rattle.std.proofs.lemmas.List.{nil_from_length}
use Rattle.trace_recorded.specs.declared.answer.RecordedAnswer.TheVariants.{Given}
use Rattle.trace_recorded.proofs.Joined.{mapped_next, mapped_end}
use Rattle.trace_recorded.proofs.packets.given.Goals as goal

pub loop-response-preserved : goal.loop-response-preserved
loop-response-preserved c = mapped_next Given c.loop-response.answers _ _ c.in-Some.response _ _ c.in-Some.ensures.steps.0 c.in_ok-push.ensures.pushed c.loop-response.invariant

pub returns : goal.returns
returns c =
    let none : into_iter_items c.loop-response.response-iterator ≡ [] = nil_from_length (into_iter_items c.loop-response.response-iterator) (omega (arith, c.loop-response.response-iterator.rest.ok.0, c.in-None.ensures.steps.0)) in
    mapped_end Given _ _ _ none c.loop-response.invariant
