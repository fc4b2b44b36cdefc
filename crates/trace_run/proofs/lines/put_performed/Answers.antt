-- One line, or two.
use Rattle.trace_run.proofs.Printed.{both_begun, both_put, err_then, first_begun, ok_then}
use Rattle.trace_io.proofs.Printed.{on_error}
use Rattle.trace_run.proofs.lines.put_performed.Goals as goal

pub returns-in_err-put-clause-begun : goal.returns-in_err-put-clause-begun
returns-in_err-put-clause-begun g c =
    on_error c.from_residual.result
    (first_begun c.args.performed.now c.args.lines.now (g.W.Write.contents c.args.out.now) (g.W.Write.contents c.put.new.out) (g.W.Write.contents c.put.new.out) c.in_err-put.ensures.begun)

pub returns-in-Some-clause-lines : goal.returns-in-Some-clause-lines
returns-in-Some-clause-lines g c =
    ok_then c.put-in-Some.result
    (both_put c.args.performed.now c.args.lines.now (g.W.Write.contents c.args.out.now) (g.W.Write.contents c.put.new.out) (g.W.Write.contents c.put-in-Some.new.out) c.in-Some.stop c.put.new.self c.put-in-Some.new.self
    c.in-Some.is c.in_ok-put.ensures.line)
    c.put-in-Some.ensures.line

pub returns-in-Some-clause-begun : goal.returns-in-Some-clause-begun
returns-in-Some-clause-begun g c =
    err_then c.put-in-Some.result
    (both_begun c.args.performed.now c.args.lines.now (g.W.Write.contents c.args.out.now) (g.W.Write.contents c.put.new.out) (g.W.Write.contents c.put-in-Some.new.out) c.in-Some.stop c.put.new.self
    c.in-Some.is c.in_ok-put.ensures.line)
    c.put-in-Some.ensures.begun
