-- Nothing is written where the lines can't be made.
use Rattle.trace_io.specs.Output.{last_lines}
use Rattle.trace_io.proofs.Beginnings.{none_yet}
use Rattle.trace_io.proofs.Printed.{on_error}
use Rattle.trace_io.proofs.print.print_last.Goals as goal

pub returns-in_err-lines-clause-begun : goal.returns-in_err-lines-clause-begun
returns-in_err-lines-clause-begun g c = on_error c.from_residual.result (none_yet (last_lines c.args.more c.args.counts.now) (g.W.Write.contents c.args.out.now))

pub returns-clause-begun : goal.returns-clause-begun
returns-clause-begun g c = on_error c.write_bytes.result (rw (c.as_bytes.ensures.value, c.in_ok-lines.ensures) at c.write_bytes.ensures.begun)
