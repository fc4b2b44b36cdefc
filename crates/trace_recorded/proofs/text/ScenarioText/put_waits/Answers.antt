-- An endpoint more, and the end.
use Rattle.std.proofs.Common.{arith}
use Rattle.trace_recorded.specs.DeviceText.{wait_lines}
use Rattle.trace_recorded.proofs.Joined.{joined_next, joined_end}
use Rattle.trace_recorded.proofs.text.ScenarioText.put_waits.Goals as goal

pub loop-endpoint-preserved : goal.loop-endpoint-preserved
loop-endpoint-preserved c =
    joined_next (wait_lines c.args.number) c.loop-endpoint.self _ _ c.args.endpoints.now c.loop-endpoint.endpoint-index c.endpoint-item.result c.loop-endpoint-test.true c.endpoint-item.is c.in_ok-put_waits_of.ensures c.loop-endpoint.invariant

pub returns : goal.returns
returns c = joined_end (wait_lines c.args.number) _ _ c.args.endpoints.now c.loop-endpoint.endpoint-index (omega arith) c.loop-endpoint.invariant
