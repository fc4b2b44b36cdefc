-- A piece further each turn, with its line, and then what is left.
use Rattle.std.proofs.Common.{map, ap, ◌++◌, ◌∙◌, subst}
use Rattle.std.specs.Iterator.Adapters.{zip_first, zip_second}
use Rattle.std.specs.Slice.Iter.{iter_rest}
use Rattle.std.specs.Vec.Iter.{into_iter_items}
use Rattle.usb_model.specs.World.Plans.{first_stage}
use Rattle.trace_capture.specs.Events.{entries_events}
use Rattle.trace_scenario.specs.StepLines.{numbered}
use Rattle.trace_run.specs.Capture.{CapturesPiece, device_line, devices_events, places_from, plan_events}
use Rattle.trace_run.proofs.Lined.{none_ahead}
use Rattle.trace_run.proofs.Captured.{each_start, ended_if, front_begun_for, front_put, has_callback, is_no_verdict, piece_begun, piece_put, rest_begun, same_front, stopped_begun, stopped_if}
use Rattle.trace_run.specs.declared.lines.Reach.TheVariants.{End}
use Rattle.trace_run.proofs.capture.capture_steps.Goals as goal

pub returns-in_err-put_front-clause-begun : goal.returns-in_err-put_front-clause-begun
returns-in_err-put_front-clause-begun g c = λ setup rules s.
    front_begun_for c.args.devices.now setup c.args.plan rules (map numbered c.args.step_lines.now) c.new-lines.result (g.W.Write.contents c.args.out.now) (g.W.Write.contents c.put_front.new.out) c.new-lines.ensures c.in_err-put_front.ensures.begun

pub loop-piece-init : goal.loop-piece-init
loop-piece-init g c = λ setup rules s.
    front_put g.C.Callback.rule setup (plan_events c.args.devices.now setup c.args.plan rules (map numbered c.args.step_lines.now)) (g.W.Write.contents c.args.out.now)
    c.args.run.now c.put_front.new.recorder rules c.args.plan (into_iter_items (zip_first c.into_iter-piece-iterator.result)) (into_iter_items c.args.left.now) (map numbered (iter_rest (zip_second c.into_iter-piece-iterator.result)))
    (devices_events (map device_line c.args.devices.now)) c.new-lines.result c.put_front.new.lines (g.W.Write.contents c.put_front.new.out)
    (ap (λ z. into_iter_items (zip_first z)) c.into_iter-piece-iterator.ensures.into_iter_gives ∙ ap into_iter_items c.zip-piece-items.ensures.first ∙ c.into_iter.ensures.rest ∙ c.into_vec.ensures)
    s.shows s.under s.enough s.no_verdict s.fixed
    (ap (λ ls. devices_events (map device_line c.args.devices.now) ++ entries_events c.put_front.new.recorder (places_from setup (first_stage setup rules) c.args.plan (map numbered ls))) (ap (λ z. iter_rest (zip_second z)) c.into_iter-piece-iterator.ensures.into_iter_gives ∙ c.zip-piece-items.ensures.second.0)
    ∙ same_front c.args.devices.now setup c.args.plan rules (map numbered c.args.step_lines.now) c.new-recorder.result c.put_front.new.recorder c.new-recorder.ensures c.in_ok-put_front.ensures.after)
    c.new-lines.ensures c.in_ok-put_front.ensures.put

pub capture_piece-requires-clause-submits : goal.capture_piece-requires-clause-submits
capture_piece-requires-clause-submits g c =
    let setup = c.requires.start.0 in
    let rules = c.requires.start.1 in
    has_callback g.C.Callback.rule setup (plan_events c.args.devices.now setup c.args.plan rules (map numbered c.args.step_lines.now)) (g.W.Write.contents c.args.out.now)
    c.loop-piece.run c.loop-piece.recorder (into_iter_items (zip_first c.loop-piece.piece-iterator)) (into_iter_items (zip_first c.next.new.self)) (into_iter_items c.loop-piece.left) (into_iter_items c.next_callback-callback.new.left)
    (map numbered (iter_rest (zip_second c.loop-piece.piece-iterator))) c.loop-piece.lines (g.W.Write.contents c.loop-piece.out)
    c.in-Some.piece c.next_callback-callback.result c.in-Some.ensures.steps.0.0 (c.loop-piece.invariant setup rules c.requires.start.2) c.next_callback-callback.ensures

pub capture_piece-requires-clause-no_verdict : goal.capture_piece-requires-clause-no_verdict
capture_piece-requires-clause-no_verdict g c =
    let setup = c.requires.start.0 in
    let rules = c.requires.start.1 in
    is_no_verdict g.C.Callback.rule setup (plan_events c.args.devices.now setup c.args.plan rules (map numbered c.args.step_lines.now)) (g.W.Write.contents c.args.out.now)
    c.loop-piece.run c.loop-piece.recorder (into_iter_items (zip_first c.loop-piece.piece-iterator)) (into_iter_items (zip_first c.next.new.self)) (into_iter_items c.loop-piece.left)
    (map numbered (iter_rest (zip_second c.loop-piece.piece-iterator))) c.loop-piece.lines (g.W.Write.contents c.loop-piece.out)
    c.in-Some.piece c.in-Some.ensures.steps.0.0 (c.loop-piece.invariant setup rules c.requires.start.2)

pub returns-in_err-capture_piece-clause-begun : goal.returns-in_err-capture_piece-clause-begun
returns-in_err-capture_piece-clause-begun g c = λ setup rules s.
    piece_begun g.C.Callback.rule setup (plan_events c.args.devices.now setup c.args.plan rules (map numbered c.args.step_lines.now)) (g.W.Write.contents c.args.out.now)
    c.loop-piece.run c.capture_piece.new.run c.loop-piece.recorder (into_iter_items (zip_first c.loop-piece.piece-iterator)) (into_iter_items (zip_first c.next.new.self)) (into_iter_items c.loop-piece.left) (into_iter_items c.next_callback-callback.new.left)
    (map numbered (iter_rest (zip_second c.loop-piece.piece-iterator))) (map numbered (iter_rest (zip_second c.next.new.self)))
    c.loop-piece.lines (g.W.Write.contents c.loop-piece.out) (g.W.Write.contents c.capture_piece.new.out) c.in-Some.piece c.next_callback-callback.result (numbered c.in-Some.line.now) c.in-Some.ensures.steps.0.0 (c.loop-piece.invariant setup rules s)
    (ap (map numbered) c.in-Some.ensures.steps.1) c.next_callback-callback.ensures c.in_err-capture_piece.ensures.begun

pub returns-in-NoMemory-clause-file : goal.returns-in-NoMemory-clause-file
returns-in-NoMemory-clause-file g c =
    each_start g.C.Callback.rule c.args.devices.now c.args.plan (map numbered c.args.step_lines.now) c.args.run.now (into_iter_items c.args.left.now) (g.W.Write.contents c.args.out.now) (g.W.Write.contents c.write_rest.new.out) c.write_rest.result (λ setup rules s.
    stopped_if g.C.Callback.rule setup (plan_events c.args.devices.now setup c.args.plan rules (map numbered c.args.step_lines.now)) (g.W.Write.contents c.args.out.now)
    c.write_rest.result c.loop-piece.run c.loop-piece.recorder (into_iter_items (zip_first c.loop-piece.piece-iterator)) (into_iter_items c.loop-piece.left) (map numbered (iter_rest (zip_second c.loop-piece.piece-iterator)))
    c.loop-piece.lines c.capture_piece.new.lines (g.W.Write.contents c.loop-piece.out) (g.W.Write.contents c.capture_piece.new.out) (g.W.Write.contents c.write_rest.new.out)
    (c.loop-piece.invariant setup rules s)
    (subst (λ reach. CapturesPiece g.C.Callback.rule reach (numbered c.in-Some.line.now).0 c.loop-piece.recorder c.capture_piece.new.recorder c.loop-piece.run c.in-Some.piece c.next_callback-callback.result c.capture_piece.new.run c.loop-piece.lines c.capture_piece.new.lines (g.W.Write.contents c.loop-piece.out) (g.W.Write.contents c.capture_piece.new.out)) c.in-NoMemory.is c.in_ok-capture_piece.ensures.put)
    c.write_rest.ensures.reach c.write_rest.ensures.written)

pub returns-in-NoMemory-clause-begun : goal.returns-in-NoMemory-clause-begun
returns-in-NoMemory-clause-begun g c = λ setup rules s.
    stopped_begun g.C.Callback.rule setup (plan_events c.args.devices.now setup c.args.plan rules (map numbered c.args.step_lines.now)) (g.W.Write.contents c.args.out.now)
    c.loop-piece.run c.loop-piece.recorder (into_iter_items (zip_first c.loop-piece.piece-iterator)) (into_iter_items c.loop-piece.left) (map numbered (iter_rest (zip_second c.loop-piece.piece-iterator)))
    c.loop-piece.lines c.capture_piece.new.lines (g.W.Write.contents c.loop-piece.out) (g.W.Write.contents c.capture_piece.new.out) (g.W.Write.contents c.write_rest.new.out)
    (c.loop-piece.invariant setup rules s)
    (subst (λ reach. CapturesPiece g.C.Callback.rule reach (numbered c.in-Some.line.now).0 c.loop-piece.recorder c.capture_piece.new.recorder c.loop-piece.run c.in-Some.piece c.next_callback-callback.result c.capture_piece.new.run c.loop-piece.lines c.capture_piece.new.lines (g.W.Write.contents c.loop-piece.out) (g.W.Write.contents c.capture_piece.new.out)) c.in-NoMemory.is c.in_ok-capture_piece.ensures.put)
    c.write_rest.ensures.begun

pub loop-piece-preserved : goal.loop-piece-preserved
loop-piece-preserved g c = λ setup rules s.
    piece_put g.C.Callback.rule setup (plan_events c.args.devices.now setup c.args.plan rules (map numbered c.args.step_lines.now)) (g.W.Write.contents c.args.out.now)
    c.loop-piece.run c.capture_piece.new.run c.loop-piece.recorder c.capture_piece.new.recorder (into_iter_items (zip_first c.loop-piece.piece-iterator)) (into_iter_items (zip_first c.next.new.self)) (into_iter_items c.loop-piece.left) (into_iter_items c.next_callback-callback.new.left)
    (map numbered (iter_rest (zip_second c.loop-piece.piece-iterator))) (map numbered (iter_rest (zip_second c.next.new.self)))
    c.loop-piece.lines c.capture_piece.new.lines (g.W.Write.contents c.loop-piece.out) (g.W.Write.contents c.capture_piece.new.out) c.in-Some.piece c.next_callback-callback.result (numbered c.in-Some.line.now) c.in-Some.ensures.steps.0.0 (c.loop-piece.invariant setup rules s)
    (ap (map numbered) c.in-Some.ensures.steps.1) c.next_callback-callback.ensures
    (subst (λ reach. CapturesPiece g.C.Callback.rule reach (numbered c.in-Some.line.now).0 c.loop-piece.recorder c.capture_piece.new.recorder c.loop-piece.run c.in-Some.piece c.next_callback-callback.result c.capture_piece.new.run c.loop-piece.lines c.capture_piece.new.lines (g.W.Write.contents c.loop-piece.out) (g.W.Write.contents c.capture_piece.new.out)) c.in-End.is c.in_ok-capture_piece.ensures.put)

pub returns-clause-file : goal.returns-clause-file
returns-clause-file g c =
    each_start g.C.Callback.rule c.args.devices.now c.args.plan (map numbered c.args.step_lines.now) c.args.run.now (into_iter_items c.args.left.now) (g.W.Write.contents c.args.out.now) (g.W.Write.contents c.write_rest-2.new.out) c.write_rest-2.result (λ setup rules s.
    ended_if g.C.Callback.rule setup (plan_events c.args.devices.now setup c.args.plan rules (map numbered c.args.step_lines.now)) (g.W.Write.contents c.args.out.now)
    End c.write_rest-2.result c.loop-piece.run c.loop-piece.recorder (into_iter_items (zip_first c.loop-piece.piece-iterator)) (into_iter_items c.loop-piece.left) (map numbered (iter_rest (zip_second c.loop-piece.piece-iterator)))
    c.loop-piece.lines (g.W.Write.contents c.loop-piece.out) (g.W.Write.contents c.write_rest-2.new.out)
    (λ e. none_ahead numbered c.loop-piece.piece-iterator c.next.new.self c.in-None.ensures.steps) (c.loop-piece.invariant setup rules s) c.write_rest-2.ensures.reach c.write_rest-2.ensures.written)

pub returns-clause-begun : goal.returns-clause-begun
returns-clause-begun g c = λ setup rules s.
    rest_begun g.C.Callback.rule setup (plan_events c.args.devices.now setup c.args.plan rules (map numbered c.args.step_lines.now)) (g.W.Write.contents c.args.out.now)
    c.loop-piece.run c.loop-piece.recorder (into_iter_items (zip_first c.loop-piece.piece-iterator)) (into_iter_items c.loop-piece.left) (map numbered (iter_rest (zip_second c.loop-piece.piece-iterator)))
    c.loop-piece.lines (g.W.Write.contents c.loop-piece.out) (g.W.Write.contents c.write_rest-2.new.out) (c.loop-piece.invariant setup rules s) c.write_rest-2.ensures.begun
