-- An endpoint more, and the end.
use Rattle.std.proofs.Common.{arith}
use Rattle.trace_descriptor.specs.Lines.{endpoint_comments}
use Rattle.trace_descriptor.proofs.Joined.{joined_next, joined_end}
use Rattle.trace_descriptor.proofs.text.DescriptorText.put_endpoints.Goals as goal

pub loop-info-preserved : goal.loop-info-preserved
loop-info-preserved c =
    joined_next (endpoint_comments c.args.number) c.loop-info.self _ _ c.args.endpoints.now c.loop-info.info-index c.info-item.result c.loop-info-test.true c.info-item.is c.in_ok-put_endpoint_of.ensures c.loop-info.invariant

pub returns : goal.returns
returns c = joined_end (endpoint_comments c.args.number) _ _ c.args.endpoints.now c.loop-info.info-index (omega arith) c.loop-info.invariant
