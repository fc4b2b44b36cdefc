-- A piece further each turn, and then what is left.
use Rattle.std.proofs.Common.{◌∙◌}
use Rattle.std.specs.Vec.Iter.{into_iter_items}
use Rattle.usb_plans.proofs.Reached.{none_ahead}
use Rattle.trace_run.proofs.Printed.{from_begun, from_end, from_more, from_rest, from_same, from_start, from_stop, has_callback, is_no_verdict}
use Rattle.trace_run.proofs.lines.print_run.Goals as goal

pub loop-piece-init : goal.loop-piece-init
loop-piece-init g c = from_start g.C.Callback.rule c.args.plan c.args.run.now (into_iter_items c.args.left.now) (g.W.Write.contents c.args.out.now) (into_iter_items c.into_iter-piece-iterator.result) c.new-lines.result (c.into_iter-piece-iterator.ensures.into_iter_gives.0 ∙ c.into_vec-piece-items.ensures) c.new-lines.ensures

pub print_piece-requires-clause-submits : goal.print_piece-requires-clause-submits
print_piece-requires-clause-submits g c =
    has_callback g.C.Callback.rule c.requires.0 c.args.plan c.requires.1 (g.W.Write.contents c.args.out.now) c.loop-piece.run (into_iter_items c.loop-piece.piece-iterator) (into_iter_items c.next.new.self) (into_iter_items c.loop-piece.left) (into_iter_items c.next_callback-callback.new.left) c.loop-piece.lines
    (g.W.Write.contents c.loop-piece.out) c.in-Some.piece c.next_callback-callback.result c.in-Some.ensures.steps.0 (c.loop-piece.invariant.printed c.requires.0 c.requires.1 c.requires.2) c.next_callback-callback.ensures

pub print_piece-requires-clause-no_verdict : goal.print_piece-requires-clause-no_verdict
print_piece-requires-clause-no_verdict g c =
    is_no_verdict g.C.Callback.rule c.requires.0 c.args.plan c.requires.1 (g.W.Write.contents c.args.out.now) c.loop-piece.run (into_iter_items c.loop-piece.piece-iterator) (into_iter_items c.next.new.self) (into_iter_items c.loop-piece.left) c.loop-piece.lines (g.W.Write.contents c.loop-piece.out)
    c.in-Some.piece c.in-Some.ensures.steps.0 (c.loop-piece.invariant.printed c.requires.0 c.requires.1 c.requires.2)

pub returns-in_err-print_piece-clause-begun : goal.returns-in_err-print_piece-clause-begun
returns-in_err-print_piece-clause-begun g c =
    from_begun g.C.Callback.rule c.args.plan c.args.run.now (into_iter_items c.args.left.now) (g.W.Write.contents c.args.out.now) c.loop-piece.run c.print_piece.new.run (into_iter_items c.loop-piece.piece-iterator) (into_iter_items c.next.new.self) (into_iter_items c.loop-piece.left)
    (into_iter_items c.next_callback-callback.new.left) c.loop-piece.lines (g.W.Write.contents c.loop-piece.out) (g.W.Write.contents c.print_piece.new.out) c.in-Some.piece c.next_callback-callback.result c.in-Some.ensures.steps.0
    c.loop-piece.invariant c.next_callback-callback.ensures c.in_err-print_piece.ensures.begun

pub loop-piece-preserved : goal.loop-piece-preserved
loop-piece-preserved g c =
    from_more g.C.Callback.rule c.args.plan c.args.run.now (into_iter_items c.args.left.now) (g.W.Write.contents c.args.out.now) c.loop-piece.run c.print_piece.new.run (into_iter_items c.loop-piece.piece-iterator) (into_iter_items c.next.new.self) (into_iter_items c.loop-piece.left)
    (into_iter_items c.next_callback-callback.new.left) c.loop-piece.lines c.print_piece.new.lines (g.W.Write.contents c.loop-piece.out) (g.W.Write.contents c.print_piece.new.out) c.in-Some.piece c.next_callback-callback.result c.in-Some.ensures.steps.0 c.loop-piece.invariant c.next_callback-callback.ensures (rw c.in-End.is at c.in_ok-print_piece.ensures.printed)

pub returns-in-NoMemory-clause-lines : goal.returns-in-NoMemory-clause-lines
returns-in-NoMemory-clause-lines g c =
    from_stop g.C.Callback.rule c.args.plan c.args.run.now (into_iter_items c.args.left.now) (g.W.Write.contents c.args.out.now) c.write_rest.result c.loop-piece.run (into_iter_items c.loop-piece.piece-iterator) (into_iter_items c.loop-piece.left)
    c.print_piece.new.lines (g.W.Write.contents c.print_piece.new.out) (g.W.Write.contents c.write_rest.new.out)
    (from_same g.C.Callback.rule c.args.plan c.args.run.now (into_iter_items c.args.left.now) (g.W.Write.contents c.args.out.now) c.loop-piece.run (into_iter_items c.loop-piece.piece-iterator) (into_iter_items c.loop-piece.left) c.loop-piece.lines c.print_piece.new.lines
    (g.W.Write.contents c.loop-piece.out) (g.W.Write.contents c.print_piece.new.out) c.loop-piece.invariant (rw c.in-NoMemory.is at c.in_ok-print_piece.ensures.printed))
    c.write_rest.ensures.reach c.write_rest.ensures.written

pub returns-in-NoMemory-clause-begun : goal.returns-in-NoMemory-clause-begun
returns-in-NoMemory-clause-begun g c =
    from_rest g.C.Callback.rule c.args.plan c.args.run.now (into_iter_items c.args.left.now) (g.W.Write.contents c.args.out.now) c.loop-piece.run (into_iter_items c.loop-piece.piece-iterator) (into_iter_items c.loop-piece.left)
    c.print_piece.new.lines (g.W.Write.contents c.print_piece.new.out) (g.W.Write.contents c.write_rest.new.out)
    (from_same g.C.Callback.rule c.args.plan c.args.run.now (into_iter_items c.args.left.now) (g.W.Write.contents c.args.out.now) c.loop-piece.run (into_iter_items c.loop-piece.piece-iterator) (into_iter_items c.loop-piece.left) c.loop-piece.lines c.print_piece.new.lines
    (g.W.Write.contents c.loop-piece.out) (g.W.Write.contents c.print_piece.new.out) c.loop-piece.invariant (rw c.in-NoMemory.is at c.in_ok-print_piece.ensures.printed))
    c.write_rest.ensures.begun

pub returns-clause-lines : goal.returns-clause-lines
returns-clause-lines g c =
    from_end g.C.Callback.rule c.args.plan c.args.run.now (into_iter_items c.args.left.now) (g.W.Write.contents c.args.out.now) c.write_rest-2.result c.loop-piece.run (into_iter_items c.loop-piece.piece-iterator) (into_iter_items c.loop-piece.left)
    c.loop-piece.lines (g.W.Write.contents c.loop-piece.out) (g.W.Write.contents c.write_rest-2.new.out) (none_ahead c.loop-piece.piece-iterator c.in-None.ensures.steps.0) c.loop-piece.invariant c.write_rest-2.ensures.reach c.write_rest-2.ensures.written

pub returns-clause-begun : goal.returns-clause-begun
returns-clause-begun g c =
    from_rest g.C.Callback.rule c.args.plan c.args.run.now (into_iter_items c.args.left.now) (g.W.Write.contents c.args.out.now) c.loop-piece.run (into_iter_items c.loop-piece.piece-iterator) (into_iter_items c.loop-piece.left)
    c.loop-piece.lines (g.W.Write.contents c.loop-piece.out) (g.W.Write.contents c.write_rest-2.new.out) c.loop-piece.invariant c.write_rest-2.ensures.begun
