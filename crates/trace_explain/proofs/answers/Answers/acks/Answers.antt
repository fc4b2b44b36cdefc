-- One acknowledgement more.
use Rattle.std.proofs.Common.{arith}
use Rattle.reference.proofs.Walks.{acks_more}
use Rattle.trace_explain.proofs.answers.Answers.acks.Goals as goal

pub loop-behind-preserved : goal.loop-behind-preserved
loop-behind-preserved c = record {
  so_far = acks_more c.loop-behind.invariant.so_far (rw c.in-Some-Ack-default.field-0-0-is at c.in-Some-Ack-default.ensures.first);
  few = omega (arith, c.in-Some-Ack-default.ensures.shorter);
}
