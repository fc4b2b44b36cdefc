-- What was gathered is a beginning of it with one more line.
use Rattle.std.proofs.Common.{◌≡◌, ◌++◌, ap, sym, arith}
use Rattle.std.proofs.lemmas.Grind.{common_steps}
use Rattle.trace_io.proofs.Beginnings.{some_of_front}
use Rattle.trace_io.proofs.Printed.{on_error}
use Rattle.trace_io.proofs.lines.gather.Goals as goal
use Rattle.trace_io.proofs.lines.gather.Goals.{else-len-lt-CHUNK-via-then-len-lt-CHUNK+else-is_ok, else-len-lt-CHUNK-via-else-len-lt-CHUNK}

pub returns-in_err-write_bytes-clause-begun : goal.returns-in_err-write_bytes-clause-begun
returns-in_err-write_bytes-clause-begun g c =
    let line = c.args.text.now in
    let same : c.as_slice.result.now ≡ c.args.bytes.now.items = elim c.else-len-lt-CHUNK.branch [
      | else-len-lt-CHUNK-via-then-len-lt-CHUNK+else-is_ok w ↦ grind (arith, common_steps)
      | else-len-lt-CHUNK-via-else-len-lt-CHUNK w ↦ cc
    ] in
    on_error c.from_residual.result
    (some_of_front (c.args.bytes.now.items ++ line) c.as_slice.result.now line
    (g.W.Write.contents c.args.out.now) (g.W.Write.contents c.write_bytes.new.out) (ap (λ bs. bs ++ line) (sym same)) c.in_err-write_bytes.ensures.begun)
