-- The packets so far, and then those of what is left.
use Rattle.trace_recorded.proofs.Loops.{IsCutSoFar}
use Rattle.trace_recorded.proofs.packets.packets.Given as goal

abbrev pub invariant-loop : goal.invariant-loop
invariant-loop l = IsCutSoFar l.size l.count l.fn.bytes l.answers l.counter l.rest
