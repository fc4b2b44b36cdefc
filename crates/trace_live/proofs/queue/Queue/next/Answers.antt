use Rattle.trace_live.proofs.Queues.{knows, leaves}
use Rattle.trace_live.proofs.queue.Queue.next.Goals as goal

pub recv_as-requires-clause-rule : goal.recv_as-requires-clause-rule
recv_as-requires-clause-rule g c = (leaves _ _, knows _ _)
