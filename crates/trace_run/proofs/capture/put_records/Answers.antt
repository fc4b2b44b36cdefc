-- Of the records a beginning is written.
use Rattle.std.proofs.Common.{◌++◌, ◌∙◌, subst}
use Rattle.trace_io.specs.Output.{AppendsSome}
use Rattle.trace_io.proofs.Printed.{on_error}
use Rattle.trace_run.proofs.capture.put_records.Goals as goal

pub returns-in_err-put_text-clause-begun : goal.returns-in_err-put_text-clause-begun
returns-in_err-put_text-clause-begun g c =
    on_error c.from_residual.result
    (subst (λ text. AppendsSome (c.args.lines.now ++ text) (g.W.Write.contents c.args.out.now) (g.W.Write.contents c.put_text.new.out)) (c.as_slice.ensures.value ∙ c.in-Ok.ensures.records) c.in_err-put_text.ensures.begun)
