-- An endpoint more, and the end.
use Rattle.std.proofs.Common.{arith}
use Rattle.trace_recorded.specs.Sessions.{takes}
use Rattle.trace_recorded.proofs.Joined.{joined_next, joined_end}
use Rattle.trace_recorded.proofs.session.taken_by.Goals as goal

pub loop-endpoint-preserved : goal.loop-endpoint-preserved
loop-endpoint-preserved c =
    joined_next takes c.loop-endpoint.taken _ _ c.args.endpoints.now c.loop-endpoint.endpoint-index c.endpoint-item.result c.loop-endpoint-test.true c.endpoint-item.is c.in_ok-push_taken.ensures c.loop-endpoint.invariant

pub returns : goal.returns
returns c = joined_end takes _ _ c.args.endpoints.now c.loop-endpoint.endpoint-index (omega arith) c.loop-endpoint.invariant
