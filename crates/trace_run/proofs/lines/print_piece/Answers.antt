-- A beginning of its lines.
use Rattle.trace_io.proofs.Printed.{on_error}
use Rattle.trace_run.proofs.Printed.{begins_piece}
use Rattle.trace_run.proofs.lines.print_piece.Goals as goal

pub returns-in_err-put_performed-in-Ok-clause-begun : goal.returns-in_err-put_performed-in-Ok-clause-begun
returns-in_err-put_performed-in-Ok-clause-begun g c =
    on_error c.from_residual.result
    (begins_piece g.C.Callback.rule c.args.run.now c.perform.new.self c.args.piece c.args.callback c.in-Ok.performed c.args.lines.now (g.W.Write.contents c.args.out.now) (g.W.Write.contents c.put_performed.new.out)
    c.in-Ok.ensures.performs c.in_err-put_performed-in-Ok.ensures.begun)
