use Rattle.reference.proofs.Walks.{IsCutSoFar}
use Rattle.reference.proofs.packet.first_pieces.Given as goal

-- the pieces so far, and then the cut of what is left
abbrev pub invariant-loop : goal.invariant-loop
invariant-loop l = IsCutSoFar l.size l.count l.fn.bytes l.pieces.items l.counter l.rest
