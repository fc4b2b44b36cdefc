-- A line further each turn.
use Rattle.std.proofs.Common.{[]}
use Rattle.trace_left.specs.LeftText.{left_line}
use Rattle.trace_left.proofs.Lists.{one_further}
use Rattle.trace_left.proofs.left_lines.lines_of.Goals as goal

pub loop-one-preserved : goal.loop-one-preserved
loop-one-preserved c =
    one_further left_line [] c.loop-one.lines.items c.add_line.new.lines.items c.args.left.now c.loop-one.one-index c.one-item.result c.one-item.result c.loop-one-test.true c.one-item.is c.loop-one.invariant c.in_ok-add_line.ensures
