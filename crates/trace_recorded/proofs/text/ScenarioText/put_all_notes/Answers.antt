-- An endpoint more, and the end.
use Rattle.std.proofs.Common.{arith}
use Rattle.trace_recorded.specs.Lines.{endpoint_notes}
use Rattle.trace_recorded.proofs.Joined.{joined_next, joined_end}
use Rattle.trace_recorded.proofs.text.ScenarioText.put_all_notes.Goals as goal

pub loop-endpoint-preserved : goal.loop-endpoint-preserved
loop-endpoint-preserved c =
    joined_next endpoint_notes c.loop-endpoint.self _ _ c.args.endpoints.now c.loop-endpoint.endpoint-index c.endpoint-item.result c.loop-endpoint-test.true c.endpoint-item.is c.in_ok-put_notes.ensures c.loop-endpoint.invariant

pub returns : goal.returns
returns c = joined_end endpoint_notes _ _ c.args.endpoints.now c.loop-endpoint.endpoint-index (omega arith) c.loop-endpoint.invariant
