use Rattle.std.proofs.Common.{length}
use Rattle.usb_model.specs.Endpoint.Packets.{without_naks}
use Rattle.reference.proofs.Walks.{IsFront}
use Rattle.reference.proofs.share.full_front.Given as goal

-- all so far are full packets or naks
abbrev pub invariant-loop-answer : goal.invariant-loop-answer
invariant-loop-answer l = IsFront l.size l.most (without_naks l.share) l.front.items (without_naks l.rest)

abbrev pub decreases-loop-answer : goal.decreases-loop-answer
decreases-loop-answer l = length l.rest
