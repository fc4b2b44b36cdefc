-- Both runs so far, and what of the lines is written.
use Rattle.trace_run.proofs.Printed.{AreFrom}
use Rattle.trace_run.proofs.lines.print_twins.Given as goal

abbrev pub invariant-loop-piece : goal.invariant-loop-piece
invariant-loop-piece g l = AreFrom g.C.Callback.rule l.fn.plan l.fn.h l.fn.twins (g.W.Write.contents l.fn.out) l.twins l.piece-index l.lines (g.W.Write.contents l.out)
