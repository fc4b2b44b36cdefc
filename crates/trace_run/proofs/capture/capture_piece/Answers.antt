-- What was performed is told by the piece's step.
use Rattle.usb_plans.specs.PlanRuns.{entries_of}
use Rattle.trace_run.proofs.Captured.{captured_begun, piece_captured}
use Rattle.trace_run.proofs.capture.capture_piece.Goals as goal

pub returns-clause-put : goal.returns-clause-put
returns-clause-put g c =
    piece_captured g.C.Callback.rule c.args.run.now c.perform.new.self c.args.piece c.args.callback c.args.line c.args.recorder.now c.put_records.new.recorder c.in-Ok.step (entries_of c.in-Ok-perform.performed)
    c.args.lines.now c.put_records.new.lines (g.W.Write.contents c.args.out.now) (g.W.Write.contents c.put_records.new.out) c.put_records.result c.in-Ok.ensures c.in-Ok-perform.ensures.performs c.put_records.ensures.put

pub returns-clause-begun : goal.returns-clause-begun
returns-clause-begun g c =
    captured_begun g.C.Callback.rule c.args.run.now c.perform.new.self c.args.piece c.args.callback c.args.line c.args.recorder.now c.put_records.new.recorder c.in-Ok.step (entries_of c.in-Ok-perform.performed)
    c.args.lines.now c.put_records.new.lines (g.W.Write.contents c.args.out.now) (g.W.Write.contents c.put_records.new.out) c.put_records.result c.in-Ok.ensures c.in-Ok-perform.ensures.performs c.put_records.ensures.begun
