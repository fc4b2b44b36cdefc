-- A read more, and the end.
use Rattle.std.proofs.Common.{◌≡◌, [], arith}
use Rattle.std.specs.Vec.Iter.{into_iter_items}
use Rattle.std.proofs.lemmas.List.{nil_from_length}
use Rattle.trace_recorded.specs.Described.{read_of}
use Rattle.trace_recorded.proofs.Joined.{poured_next, poured_end}
use Rattle.trace_recorded.proofs.completed.reads_of.Goals as goal

pub loop-known-preserved : goal.loop-known-preserved
loop-known-preserved c = poured_next (read_of c.args.place) c.loop-known.events _ _ c.in-Some.known _ _ c.in-Some.ensures.steps.0 c.in_ok-push_read.ensures c.loop-known.invariant

pub returns : goal.returns
returns c =
    let none : into_iter_items c.loop-known.known-iterator ≡ [] = nil_from_length (into_iter_items c.loop-known.known-iterator) (omega (arith, c.loop-known.known-iterator.rest.ok.0, c.in-None.ensures.steps.0)) in
    poured_end (read_of c.args.place) _ _ _ none c.loop-known.invariant
