use Rattle.std.proofs.Common.{length}
use Rattle.usb_model.specs.Endpoint.Packets.{without_naks}
use Rattle.trace_explain.specs.Answers.{answers_in}
use Rattle.trace_explain.proofs.FullFronts.{IsFront}
use Rattle.trace_explain.proofs.answers.Answers.full_front.Given as goal

-- all so far are full packets or naks
abbrev pub invariant-loop-count : goal.invariant-loop-count
invariant-loop-count l = IsFront l.size l.most (without_naks (answers_in l.self)) l.count (without_naks (answers_in l.rest))

abbrev pub decreases-loop-count : goal.decreases-loop-count
decreases-loop-count l = length (answers_in l.rest)
