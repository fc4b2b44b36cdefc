-- A configuration more, and the end.
use Rattle.std.proofs.Common.{arith}
use Rattle.trace_recorded.specs.Described.{configuration_known}
use Rattle.trace_recorded.proofs.Joined.{joined_next, joined_end}
use Rattle.trace_recorded.proofs.completed.push_each.Goals as goal

pub loop-configuration-preserved : goal.loop-configuration-preserved
loop-configuration-preserved c =
    joined_next configuration_known c.loop-configuration.missing _ _ c.args.configurations.now c.loop-configuration.configuration-index c.configuration-item.result c.loop-configuration-test.true c.configuration-item.is c.in_ok-push_configuration.ensures c.loop-configuration.invariant

pub returns : goal.returns
returns c = joined_end configuration_known _ _ c.args.configurations.now c.loop-configuration.configuration-index (omega arith) c.loop-configuration.invariant
