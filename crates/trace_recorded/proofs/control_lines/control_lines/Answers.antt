-- An event more, and the end.
use Rattle.std.proofs.Common.{◌≡◌, [], arith}
use Rattle.std.specs.Vec.Iter.{into_iter_items}
use Rattle.std.proofs.lemmas.List.{nil_from_length}
use Rattle.trace_recorded.specs.Requests.{with_answered}
use Rattle.trace_recorded.proofs.Folded.{taken_next, taken_end}
use Rattle.trace_recorded.proofs.control_lines.control_lines.Goals as goal

pub loop-request-preserved : goal.loop-request-preserved
loop-request-preserved c = taken_next with_answered c.loop-request.lines _ _ c.in-Some.request _ _ c.in-Some.ensures.steps.0 c.in_ok-read.ensures c.loop-request.invariant

pub returns : goal.returns
returns c =
    let none : into_iter_items c.loop-request.request-iterator ≡ [] = nil_from_length (into_iter_items c.loop-request.request-iterator) (omega (arith, c.loop-request.request-iterator.rest.ok.0, c.in-None.ensures.steps.0)) in
    taken_end with_answered _ _ _ none c.loop-request.invariant
