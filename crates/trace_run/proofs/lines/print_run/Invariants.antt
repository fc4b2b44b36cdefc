-- The plan so far, and what of its lines is written.
use Rattle.std.specs.Vec.Iter.{into_iter_items}
use Rattle.trace_run.proofs.Printed.{IsPrintedFrom}
use Rattle.trace_run.proofs.lines.print_run.Given as goal

abbrev pub invariant-loop-piece : goal.invariant-loop-piece
invariant-loop-piece g l = IsPrintedFrom g.C.Callback.rule l.fn.plan l.fn.run (into_iter_items l.fn.left) (g.W.Write.contents l.fn.out) l.run (into_iter_items l.piece-iterator) (into_iter_items l.left) l.lines (g.W.Write.contents l.out)
