-- A piece further each turn, with its line, and then what is left.
use Rattle.std.proofs.Common.{map, ap, ◌∙◌, subst}
use Rattle.std.specs.Iterator.Adapters.{zip_first, zip_second}
use Rattle.std.specs.Slice.Iter.{iter_rest}
use Rattle.std.specs.Vec.Iter.{into_iter_items}
use Rattle.usb_model.specs.World.Plans.{first_stage}
use Rattle.trace_scenario.specs.StepLines.{numbered}
use Rattle.trace_run.specs.Printed.{PrintsPiece}
use Rattle.trace_run.specs.Stepwise.{piece_text, stepwise_from, stepwise_text}
use Rattle.trace_run.proofs.Lined.{each_start, ended_if, has_callback, is_no_verdict, none_ahead, none_yet, piece_begun, piece_put, rest_begun, stopped_begun, stopped_if}
use Rattle.trace_run.specs.declared.lines.Reach.TheVariants.{End}
use Rattle.trace_run.proofs.stepwise.print_steps.Goals as goal

pub loop-piece-init : goal.loop-piece-init
loop-piece-init g c = λ setup rules s.
    none_yet g.C.Callback.rule setup (stepwise_text setup c.args.plan rules (map numbered c.args.step_lines.now)) (g.W.Write.contents c.args.out.now)
    c.args.run.now rules c.args.plan (into_iter_items (zip_first c.into_iter-piece-iterator.result)) (into_iter_items c.args.left.now) (map numbered (iter_rest (zip_second c.into_iter-piece-iterator.result))) c.new-lines.result
    (ap (λ z. into_iter_items (zip_first z)) c.into_iter-piece-iterator.ensures.into_iter_gives ∙ ap into_iter_items c.zip-piece-items.ensures.first ∙ c.into_iter.ensures.rest ∙ c.into_vec.ensures)
    s.shows s.under s.enough s.no_verdict s.fixed c.new-lines.ensures
    (ap (λ ls. stepwise_from setup (first_stage setup rules) c.args.plan (map numbered ls)) (ap (λ z. iter_rest (zip_second z)) c.into_iter-piece-iterator.ensures.into_iter_gives ∙ c.zip-piece-items.ensures.second.0))

pub print_behind-requires-clause-submits : goal.print_behind-requires-clause-submits
print_behind-requires-clause-submits g c =
    let setup = c.requires.start.0 in
    let rules = c.requires.start.1 in
    has_callback g.C.Callback.rule setup (stepwise_text setup c.args.plan rules (map numbered c.args.step_lines.now)) (g.W.Write.contents c.args.out.now)
    c.loop-piece.run (into_iter_items (zip_first c.loop-piece.piece-iterator)) (into_iter_items (zip_first c.next.new.self)) (into_iter_items c.loop-piece.left) (into_iter_items c.next_callback-callback.new.left)
    (map numbered (iter_rest (zip_second c.loop-piece.piece-iterator))) c.loop-piece.lines (g.W.Write.contents c.loop-piece.out)
    c.in-Some.piece c.next_callback-callback.result c.in-Some.ensures.steps.0.0 (c.loop-piece.invariant setup rules c.requires.start.2) c.next_callback-callback.ensures

pub print_behind-requires-clause-no_verdict : goal.print_behind-requires-clause-no_verdict
print_behind-requires-clause-no_verdict g c =
    let setup = c.requires.start.0 in
    let rules = c.requires.start.1 in
    is_no_verdict g.C.Callback.rule setup (stepwise_text setup c.args.plan rules (map numbered c.args.step_lines.now)) (g.W.Write.contents c.args.out.now)
    c.loop-piece.run (into_iter_items (zip_first c.loop-piece.piece-iterator)) (into_iter_items (zip_first c.next.new.self)) (into_iter_items c.loop-piece.left)
    (map numbered (iter_rest (zip_second c.loop-piece.piece-iterator))) c.loop-piece.lines (g.W.Write.contents c.loop-piece.out)
    c.in-Some.piece c.in-Some.ensures.steps.0.0 (c.loop-piece.invariant setup rules c.requires.start.2)

pub returns-in_err-print_behind-clause-begun : goal.returns-in_err-print_behind-clause-begun
returns-in_err-print_behind-clause-begun g c = λ setup rules s.
    piece_begun g.C.Callback.rule setup (stepwise_text setup c.args.plan rules (map numbered c.args.step_lines.now)) (g.W.Write.contents c.args.out.now)
    c.loop-piece.run c.print_behind.new.run (into_iter_items (zip_first c.loop-piece.piece-iterator)) (into_iter_items (zip_first c.next.new.self)) (into_iter_items c.loop-piece.left) (into_iter_items c.next_callback-callback.new.left)
    (map numbered (iter_rest (zip_second c.loop-piece.piece-iterator))) (map numbered (iter_rest (zip_second c.next.new.self)))
    c.loop-piece.lines (g.W.Write.contents c.loop-piece.out) (g.W.Write.contents c.print_behind.new.out) c.in-Some.piece c.next_callback-callback.result (numbered c.in-Some.line.now) c.in-Some.ensures.steps.0.0 (c.loop-piece.invariant setup rules s)
    (ap (map numbered) c.in-Some.ensures.steps.1) c.next_callback-callback.ensures c.in_err-print_behind.ensures.begun

pub returns-in-NoMemory-clause-lines : goal.returns-in-NoMemory-clause-lines
returns-in-NoMemory-clause-lines g c =
    each_start g.C.Callback.rule c.args.plan (map numbered c.args.step_lines.now) c.args.run.now (into_iter_items c.args.left.now) (g.W.Write.contents c.args.out.now) (g.W.Write.contents c.write_rest.new.out) c.write_rest.result (λ setup rules s.
    stopped_if g.C.Callback.rule setup (stepwise_text setup c.args.plan rules (map numbered c.args.step_lines.now)) (g.W.Write.contents c.args.out.now)
    c.write_rest.result c.loop-piece.run (into_iter_items (zip_first c.loop-piece.piece-iterator)) (into_iter_items c.loop-piece.left) (map numbered (iter_rest (zip_second c.loop-piece.piece-iterator)))
    c.loop-piece.lines c.print_behind.new.lines (g.W.Write.contents c.loop-piece.out) (g.W.Write.contents c.print_behind.new.out) (g.W.Write.contents c.write_rest.new.out)
    (c.loop-piece.invariant setup rules s)
    (subst (λ reach. PrintsPiece g.C.Callback.rule (piece_text (numbered c.in-Some.line.now)) reach c.loop-piece.run c.in-Some.piece c.next_callback-callback.result c.print_behind.new.run c.loop-piece.lines c.print_behind.new.lines (g.W.Write.contents c.loop-piece.out) (g.W.Write.contents c.print_behind.new.out)) c.in-NoMemory.is c.in_ok-print_behind.ensures.printed)
    c.write_rest.ensures.reach c.write_rest.ensures.written)

pub returns-in-NoMemory-clause-begun : goal.returns-in-NoMemory-clause-begun
returns-in-NoMemory-clause-begun g c = λ setup rules s.
    stopped_begun g.C.Callback.rule setup (stepwise_text setup c.args.plan rules (map numbered c.args.step_lines.now)) (g.W.Write.contents c.args.out.now)
    c.loop-piece.run (into_iter_items (zip_first c.loop-piece.piece-iterator)) (into_iter_items c.loop-piece.left) (map numbered (iter_rest (zip_second c.loop-piece.piece-iterator)))
    c.loop-piece.lines c.print_behind.new.lines (g.W.Write.contents c.loop-piece.out) (g.W.Write.contents c.print_behind.new.out) (g.W.Write.contents c.write_rest.new.out)
    (c.loop-piece.invariant setup rules s)
    (subst (λ reach. PrintsPiece g.C.Callback.rule (piece_text (numbered c.in-Some.line.now)) reach c.loop-piece.run c.in-Some.piece c.next_callback-callback.result c.print_behind.new.run c.loop-piece.lines c.print_behind.new.lines (g.W.Write.contents c.loop-piece.out) (g.W.Write.contents c.print_behind.new.out)) c.in-NoMemory.is c.in_ok-print_behind.ensures.printed)
    c.write_rest.ensures.begun

pub loop-piece-preserved : goal.loop-piece-preserved
loop-piece-preserved g c = λ setup rules s.
    piece_put g.C.Callback.rule setup (stepwise_text setup c.args.plan rules (map numbered c.args.step_lines.now)) (g.W.Write.contents c.args.out.now)
    c.loop-piece.run c.print_behind.new.run (into_iter_items (zip_first c.loop-piece.piece-iterator)) (into_iter_items (zip_first c.next.new.self)) (into_iter_items c.loop-piece.left) (into_iter_items c.next_callback-callback.new.left)
    (map numbered (iter_rest (zip_second c.loop-piece.piece-iterator))) (map numbered (iter_rest (zip_second c.next.new.self)))
    c.loop-piece.lines c.print_behind.new.lines (g.W.Write.contents c.loop-piece.out) (g.W.Write.contents c.print_behind.new.out) c.in-Some.piece c.next_callback-callback.result (numbered c.in-Some.line.now) c.in-Some.ensures.steps.0.0 (c.loop-piece.invariant setup rules s)
    (ap (map numbered) c.in-Some.ensures.steps.1) c.next_callback-callback.ensures
    (subst (λ reach. PrintsPiece g.C.Callback.rule (piece_text (numbered c.in-Some.line.now)) reach c.loop-piece.run c.in-Some.piece c.next_callback-callback.result c.print_behind.new.run c.loop-piece.lines c.print_behind.new.lines (g.W.Write.contents c.loop-piece.out) (g.W.Write.contents c.print_behind.new.out)) c.in-End.is c.in_ok-print_behind.ensures.printed)

pub returns-clause-lines : goal.returns-clause-lines
returns-clause-lines g c =
    each_start g.C.Callback.rule c.args.plan (map numbered c.args.step_lines.now) c.args.run.now (into_iter_items c.args.left.now) (g.W.Write.contents c.args.out.now) (g.W.Write.contents c.write_rest-2.new.out) c.write_rest-2.result (λ setup rules s.
    ended_if g.C.Callback.rule setup (stepwise_text setup c.args.plan rules (map numbered c.args.step_lines.now)) (g.W.Write.contents c.args.out.now)
    End c.write_rest-2.result c.loop-piece.run (into_iter_items (zip_first c.loop-piece.piece-iterator)) (into_iter_items c.loop-piece.left) (map numbered (iter_rest (zip_second c.loop-piece.piece-iterator)))
    c.loop-piece.lines (g.W.Write.contents c.loop-piece.out) (g.W.Write.contents c.write_rest-2.new.out)
    (λ e. none_ahead numbered c.loop-piece.piece-iterator c.next.new.self c.in-None.ensures.steps) (c.loop-piece.invariant setup rules s) c.write_rest-2.ensures.reach c.write_rest-2.ensures.written)

pub returns-clause-begun : goal.returns-clause-begun
returns-clause-begun g c = λ setup rules s.
    rest_begun g.C.Callback.rule setup (stepwise_text setup c.args.plan rules (map numbered c.args.step_lines.now)) (g.W.Write.contents c.args.out.now)
    c.loop-piece.run (into_iter_items (zip_first c.loop-piece.piece-iterator)) (into_iter_items c.loop-piece.left) (map numbered (iter_rest (zip_second c.loop-piece.piece-iterator)))
    c.loop-piece.lines (g.W.Write.contents c.loop-piece.out) (g.W.Write.contents c.write_rest-2.new.out) (c.loop-piece.invariant setup rules s) c.write_rest-2.ensures.begun
