-- A handle further each turn.
use Rattle.std.proofs.Common.{[]}
use Rattle.trace_left.specs.Gathered.{joined}
use Rattle.trace_left.proofs.Lists.{one_further}
use Rattle.trace_left.proofs.behind.put_together.Goals as goal

pub loop-one-preserved : goal.loop-one-preserved
loop-one-preserved c =
    one_further (joined c.args.waiting.now) [] c.loop-one.left.items c.add_joined.new.left.items c.args.read.now c.loop-one.one-index c.one-item.result c.one-item.result c.loop-one-test.true c.one-item.is c.loop-one.invariant c.in_ok-add_joined.ensures
