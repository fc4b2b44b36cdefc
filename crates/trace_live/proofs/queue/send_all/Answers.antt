use Rattle.trace_live.proofs.Queues.{enters, knows_nothing}
use Rattle.trace_live.proofs.queue.send_all.Goals as goal

pub send_as-requires-clause-rule : goal.send_as-requires-clause-rule
send_as-requires-clause-rule g c = (enters _ _ _ _, knows_nothing _ _)
