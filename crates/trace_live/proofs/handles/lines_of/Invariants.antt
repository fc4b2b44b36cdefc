use Rattle.std.specs.Vec.Iter.{into_iter_items}
use Rattle.trace_live.specs.Lines.{AreDealt, said_by_each}
use Rattle.trace_threads.specs.Verdicts.{AreGiven, ruled}
use Rattle.trace_live.proofs.handles.lines_of.Given as goal

abbrev pub invariant-loop-piece : goal.invariant-loop-piece
invariant-loop-piece g l = AreDealt (said_by_each l.handles.items) l.yielded × AreGiven g.Q.Planned.given (ruled (into_iter_items l.piece-iterator) l.left)
