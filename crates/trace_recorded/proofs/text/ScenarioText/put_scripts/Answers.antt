-- An endpoint more, and the end.
use Rattle.std.proofs.Common.{arith}
use Rattle.trace_recorded.specs.Lines.{script_line}
use Rattle.trace_recorded.proofs.Joined.{joined_next, joined_end}
use Rattle.trace_recorded.proofs.text.ScenarioText.put_scripts.Goals as goal

pub loop-endpoint-preserved : goal.loop-endpoint-preserved
loop-endpoint-preserved c =
    joined_next (script_line c.args.number) c.loop-endpoint.self _ _ c.args.endpoints.now c.loop-endpoint.endpoint-index c.endpoint-item.result c.loop-endpoint-test.true c.endpoint-item.is c.in_ok-put_script.ensures c.loop-endpoint.invariant

pub returns : goal.returns
returns c = joined_end (script_line c.args.number) _ _ c.args.endpoints.now c.loop-endpoint.endpoint-index (omega arith) c.loop-endpoint.invariant
