use Rattle.trace_io.proofs.Findings.{finding_begun, one_more}
use Rattle.trace_io.proofs.Printed.{on_error}
use Rattle.trace_io.proofs.print.print_bad.Goals as goal

pub loop-finding-preserved : goal.loop-finding-preserved
loop-finding-preserved g c =
    let line = c.in_ok-print_finding.ensures.line in
    one_more c.args.bad.now c.loop-finding.finding-index c.finding-item.result line.0
    (g.W.Write.contents c.args.out.now) (g.W.Write.contents c.loop-finding.out) (g.W.Write.contents c.print_finding.new.out)
    c.loop-finding-test.true c.finding-item.is c.loop-finding.invariant line.1

pub returns-in_err-print_finding-clause-begun : goal.returns-in_err-print_finding-clause-begun
returns-in_err-print_finding-clause-begun g c =
    let line = c.in_err-print_finding.ensures.begun in
    on_error c.from_residual.result
    (finding_begun c.args.bad.now c.loop-finding.finding-index c.finding-item.result line.0
    (g.W.Write.contents c.args.out.now) (g.W.Write.contents c.loop-finding.out) (g.W.Write.contents c.print_finding.new.out)
    c.loop-finding-test.true c.finding-item.is c.loop-finding.invariant line.1)
