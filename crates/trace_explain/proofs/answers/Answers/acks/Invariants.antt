use Rattle.std.proofs.Common.{◌+◌, ◌≤◌, length}
use Rattle.usb_model.specs.Endpoint.Packets.{without_naks}
use Rattle.reference.proofs.Walks.{IsAcks}
use Rattle.trace_explain.specs.Answers.{answers_in}
use Rattle.trace_explain.proofs.answers.Answers.acks.Given as goal

-- all so far are acknowledgements or naks
abbrev pub invariant-loop-behind : goal.invariant-loop-behind
invariant-loop-behind l = record {
  so_far : IsAcks (without_naks (answers_in l.self)) l.count (without_naks (answers_in l.rest));
  few : l.count + length (answers_in l.rest) ≤ length (answers_in l.self);
}

abbrev pub decreases-loop-behind : goal.decreases-loop-behind
decreases-loop-behind l = length (answers_in l.rest)
