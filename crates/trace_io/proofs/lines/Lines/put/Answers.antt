-- What was gathered is a beginning of it with one more line.
use Rattle.std.proofs.Common.{◌≡◌, ◌++◌, ap, sym, rules}
use Rattle.trace_io.specs.Output.{line_text}
use Rattle.trace_io.proofs.Beginnings.{some_of_front}
use Rattle.trace_io.proofs.Printed.{on_error}
use Rattle.trace_io.proofs.lines.Lines.put.Goals as goal

pub returns-in_err-write_bytes-in-Err-clause-begun : goal.returns-in_err-write_bytes-in-Err-clause-begun
returns-in_err-write_bytes-in-Err-clause-begun g c =
    let line = line_text c.args.entry.now in
    let same : c.as_slice-in-Err.result.now ≡ c.args.self.now = search rules in
    on_error c.from_residual.result
    (some_of_front (c.args.self.now ++ line) c.as_slice-in-Err.result.now line
    (g.W.Write.contents c.args.out.now) (g.W.Write.contents c.write_bytes.new.out) (ap (λ bs. bs ++ line) (sym same)) c.in_err-write_bytes-in-Err.ensures.begun)
