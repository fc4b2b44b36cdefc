-- The run so far.
use Rattle.refine_core.specs.Made.{setup_of}
use Rattle.usb_core.proofs.Reached.{Reached}
use Rattle.usb_core.proofs.runs.run.Given as goal

abbrev pub invariant-loop-step : goal.invariant-loop-step
invariant-loop-step g l = Reached (setup_of l.fn.setup) l.fn.steps l.core l.entries l.step-index
