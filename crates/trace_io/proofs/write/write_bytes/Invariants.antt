-- What is gone from the rest was appended.
use Rattle.trace_io.specs.Output.{AppendsAllBut}
use Rattle.trace_io.proofs.write.write_bytes.Given as goal

abbrev pub invariant-loop : goal.invariant-loop
invariant-loop g l = AppendsAllBut l.fn.bytes l.rest (g.W.Write.contents l.initial.out) (g.W.Write.contents l.out)
