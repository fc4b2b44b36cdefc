-- With the answers that are left they are all.
use Rattle.std.proofs.Common.{◌≡◌, ◌++◌, map}
use Rattle.std.specs.Vec.Iter.{into_iter_items}
use Rattle.trace_recorded.specs.declared.answer.RecordedAnswer.TheVariants.{Given}
use Rattle.trace_recorded.proofs.packets.given.Given as goal

abbrev pub invariant-loop-response : goal.invariant-loop-response
invariant-loop-response l = l.answers ++ map Given (into_iter_items l.response-iterator) ≡ map Given l.fn.script
