-- The packets so far, and then those of what is left.
use Rattle.trace_recorded.proofs.Loops.{AreWrittenSoFar}
use Rattle.trace_recorded.proofs.packets.written_packets.Given as goal

abbrev pub invariant-loop : goal.invariant-loop
invariant-loop l = AreWrittenSoFar l.size l.count l.asked l.fn.bytes l.answers l.counter l.left l.rest
