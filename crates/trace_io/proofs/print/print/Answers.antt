-- A line further each turn, and then what is left.
use Rattle.trace_io.proofs.Printed.{last_begun, line_begun, line_gathered}
use Rattle.trace_io.proofs.print.print.Goals as goal

pub returns-in_err-put-clause-begun : goal.returns-in_err-put-clause-begun
returns-in_err-put-clause-begun g c =
    line_begun c.args.entries.now c.loop-entry.entry-index c.entry-item.result c.loop-entry.lines
    (g.W.Write.contents c.args.out.now) (g.W.Write.contents c.loop-entry.out) (g.W.Write.contents c.put.new.out)
    c.loop-entry-test.true c.entry-item.is c.loop-entry.invariant c.in_err-put.ensures.begun

pub loop-entry-preserved : goal.loop-entry-preserved
loop-entry-preserved g c =
    line_gathered c.args.entries.now c.loop-entry.entry-index c.entry-item.result c.loop-entry.lines c.put.new.self
    (g.W.Write.contents c.args.out.now) (g.W.Write.contents c.loop-entry.out) (g.W.Write.contents c.put.new.out)
    c.loop-entry-test.true c.entry-item.is c.loop-entry.invariant c.in_ok-put.ensures.line

pub returns-clause-begun : goal.returns-clause-begun
returns-clause-begun g c =
    last_begun c.args.entries.now c.loop-entry.entry-index c.loop-entry.lines
    (g.W.Write.contents c.args.out.now) (g.W.Write.contents c.loop-entry.out) (g.W.Write.contents c.end.new.out)
    c.loop-entry-test.false c.loop-entry.invariant c.end.ensures.begun
