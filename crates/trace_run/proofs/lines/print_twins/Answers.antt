-- A piece further each turn, and then what is left.
use Rattle.trace_run.proofs.Printed.{are_left, both_end, both_more, both_piece_begun, both_rest, both_same, both_start, both_stop, is_no_verdict_alone}
use Rattle.trace_run.proofs.lines.print_twins.Goals as goal

pub loop-piece-init : goal.loop-piece-init
loop-piece-init g c = both_start g.C.Callback.rule c.args.plan.now c.args.h c.args.twins.now (g.W.Write.contents c.args.out.now) c.new-lines.result c.new-lines.ensures

pub print_own_piece-requires-clause-submits : goal.print_own_piece-requires-clause-submits
print_own_piece-requires-clause-submits g c =
    are_left g.C.Callback.rule c.requires.0 c.args.plan.now c.requires.1 c.args.h (g.W.Write.contents c.args.out.now) c.loop-piece.twins c.loop-piece.piece-index c.loop-piece.lines (g.W.Write.contents c.loop-piece.out)
    c.piece-item.result c.loop-piece-test.true c.piece-item.is (c.loop-piece.invariant.printed c.requires.0 c.requires.1 c.requires.2)

pub print_own_piece-requires-clause-no_verdict : goal.print_own_piece-requires-clause-no_verdict
print_own_piece-requires-clause-no_verdict g c =
    is_no_verdict_alone g.C.Callback.rule c.requires.0 c.args.plan.now c.requires.1 c.args.h (g.W.Write.contents c.args.out.now) c.loop-piece.twins c.loop-piece.piece-index c.loop-piece.lines (g.W.Write.contents c.loop-piece.out)
    c.piece-item.result c.loop-piece-test.true c.piece-item.is (c.loop-piece.invariant.printed c.requires.0 c.requires.1 c.requires.2)

pub returns-in_err-print_own_piece-clause-begun : goal.returns-in_err-print_own_piece-clause-begun
returns-in_err-print_own_piece-clause-begun g c =
    both_piece_begun g.C.Callback.rule c.args.plan.now c.args.h c.args.twins.now (g.W.Write.contents c.args.out.now) c.loop-piece.twins c.print_own_piece.new.twins c.loop-piece.piece-index c.loop-piece.lines
    (g.W.Write.contents c.loop-piece.out) (g.W.Write.contents c.print_own_piece.new.out) c.piece-item.result c.loop-piece-test.true c.piece-item.is c.loop-piece.invariant c.in_err-print_own_piece.ensures.begun

pub loop-piece-preserved : goal.loop-piece-preserved
loop-piece-preserved g c =
    both_more g.C.Callback.rule c.args.plan.now c.args.h c.args.twins.now (g.W.Write.contents c.args.out.now) c.loop-piece.twins c.print_own_piece.new.twins c.loop-piece.piece-index c.loop-piece.lines c.print_own_piece.new.lines
    (g.W.Write.contents c.loop-piece.out) (g.W.Write.contents c.print_own_piece.new.out) c.piece-item.result c.loop-piece-test.true c.piece-item.is c.loop-piece.invariant (rw c.in-End.is at c.in_ok-print_own_piece.ensures.printed)

pub returns-in-NoMemory-clause-lines : goal.returns-in-NoMemory-clause-lines
returns-in-NoMemory-clause-lines g c =
    both_stop g.C.Callback.rule c.args.plan.now c.args.h c.args.twins.now (g.W.Write.contents c.args.out.now) c.write_rest.result c.loop-piece.twins c.loop-piece.piece-index
    c.print_own_piece.new.lines (g.W.Write.contents c.print_own_piece.new.out) (g.W.Write.contents c.write_rest.new.out)
    (both_same g.C.Callback.rule c.args.plan.now c.args.h c.args.twins.now (g.W.Write.contents c.args.out.now) c.loop-piece.twins c.loop-piece.piece-index c.loop-piece.lines c.print_own_piece.new.lines
    (g.W.Write.contents c.loop-piece.out) (g.W.Write.contents c.print_own_piece.new.out) c.loop-piece.invariant (rw c.in-NoMemory.is at c.in_ok-print_own_piece.ensures.printed))
    c.write_rest.ensures.reach c.write_rest.ensures.written

pub returns-in-NoMemory-clause-begun : goal.returns-in-NoMemory-clause-begun
returns-in-NoMemory-clause-begun g c =
    both_rest g.C.Callback.rule c.args.plan.now c.args.h c.args.twins.now (g.W.Write.contents c.args.out.now) c.loop-piece.twins c.loop-piece.piece-index
    c.print_own_piece.new.lines (g.W.Write.contents c.print_own_piece.new.out) (g.W.Write.contents c.write_rest.new.out)
    (both_same g.C.Callback.rule c.args.plan.now c.args.h c.args.twins.now (g.W.Write.contents c.args.out.now) c.loop-piece.twins c.loop-piece.piece-index c.loop-piece.lines c.print_own_piece.new.lines
    (g.W.Write.contents c.loop-piece.out) (g.W.Write.contents c.print_own_piece.new.out) c.loop-piece.invariant (rw c.in-NoMemory.is at c.in_ok-print_own_piece.ensures.printed))
    c.write_rest.ensures.begun

pub returns-clause-lines : goal.returns-clause-lines
returns-clause-lines g c =
    both_end g.C.Callback.rule c.args.plan.now c.args.h c.args.twins.now (g.W.Write.contents c.args.out.now) c.write_rest-2.result c.loop-piece.twins c.loop-piece.piece-index
    c.loop-piece.lines (g.W.Write.contents c.loop-piece.out) (g.W.Write.contents c.write_rest-2.new.out) c.loop-piece-test.false c.loop-piece.invariant c.write_rest-2.ensures.reach c.write_rest-2.ensures.written

pub returns-clause-begun : goal.returns-clause-begun
returns-clause-begun g c =
    both_rest g.C.Callback.rule c.args.plan.now c.args.h c.args.twins.now (g.W.Write.contents c.args.out.now) c.loop-piece.twins c.loop-piece.piece-index
    c.loop-piece.lines (g.W.Write.contents c.loop-piece.out) (g.W.Write.contents c.write_rest-2.new.out) c.loop-piece.invariant c.write_rest-2.ensures.begun
