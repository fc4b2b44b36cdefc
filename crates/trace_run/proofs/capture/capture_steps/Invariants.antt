-- The plan so far, and what of its capture is written, over whichever devices and under whichever rules.
use Rattle.std.proofs.Common.{List, map}
use Rattle.std.specs.Iterator.Adapters.{zip_first, zip_second}
use Rattle.std.specs.Slice.Iter.{iter_rest}
use Rattle.std.specs.Vec.Iter.{into_iter_items}
use Rattle.usb_model.specs.declared.verdict.Rule.{Rule}
use Rattle.usb_model.specs.Setup.{Setup}
use Rattle.trace_scenario.specs.StepLines.{numbered}
use Rattle.trace_run.specs.Capture.{plan_events}
use Rattle.trace_run.specs.Printed.{StartsPlan}
use Rattle.trace_run.proofs.Captured.{IsCaptured}
use Rattle.trace_run.proofs.capture.capture_steps.Given as goal

abbrev pub invariant-loop-piece : goal.invariant-loop-piece
invariant-loop-piece g l = (setup : Setup) (rules : List Rule) → StartsPlan g.C.Callback.rule setup l.fn.plan rules l.fn.run (into_iter_items l.fn.left) →
    IsCaptured g.C.Callback.rule setup (plan_events l.fn.devices setup l.fn.plan rules (map numbered l.fn.step_lines)) (g.W.Write.contents l.fn.out)
    l.run l.recorder (into_iter_items (zip_first l.piece-iterator)) (into_iter_items l.left) (map numbered (iter_rest (zip_second l.piece-iterator))) l.lines (g.W.Write.contents l.out)
