-- The run was made for the plan.
use Rattle.std.specs.Prelude.{map}
use Rattle.std.specs.Vec.Iter.{into_iter_items}
use Rattle.usb_core.specs.Public.{setup_of}
use Rattle.trace_scenario.specs.StepLines.{numbered}
use Rattle.trace_run.proofs.Printed.{starts_plan}
use Rattle.trace_run.proofs.Captured.{of_start}
use Rattle.trace_run.proofs.capture.capture_plan.Goals as goal

pub capture_steps-requires-clause-start : goal.capture_steps-requires-clause-start
capture_steps-requires-clause-start g c = (
  setup_of c.args.parts.setup,
  map g.C.Callback.rule c.args.parts.callbacks.items,
  starts_plan g.C.Callback.rule (setup_of c.args.parts.setup) c.args.plan c.args.parts.callbacks.items (into_iter_items c.into_iter-left.result) c.in_ok-run.run' c.in_ok-run.ensures c.into_iter-left.ensures.rest
      c.requires.callbacks c.requires.not_free c.requires.no_verdict,
)

pub returns-clause-file : goal.returns-clause-file
returns-clause-file g c =
    of_start g.C.Callback.rule c.args.devices.now c.args.plan (map numbered c.args.step_lines.now) c.in_ok-run.run' (into_iter_items c.into_iter-left.result) (g.W.Write.contents c.args.out.now) (g.W.Write.contents c.capture_steps.new.out) c.capture_steps.result
    (setup_of c.args.parts.setup) (map g.C.Callback.rule c.args.parts.callbacks.items)
    (starts_plan g.C.Callback.rule (setup_of c.args.parts.setup) c.args.plan c.args.parts.callbacks.items (into_iter_items c.into_iter-left.result) c.in_ok-run.run' c.in_ok-run.ensures c.into_iter-left.ensures.rest
    c.requires.callbacks c.requires.not_free c.requires.no_verdict)
    c.capture_steps.ensures.file

pub returns-clause-begun : goal.returns-clause-begun
returns-clause-begun g c =
    c.capture_steps.ensures.begun (setup_of c.args.parts.setup) (map g.C.Callback.rule c.args.parts.callbacks.items)
    (starts_plan g.C.Callback.rule (setup_of c.args.parts.setup) c.args.plan c.args.parts.callbacks.items (into_iter_items c.into_iter-left.result) c.in_ok-run.run' c.in_ok-run.ensures c.into_iter-left.ensures.rest
    c.requires.callbacks c.requires.not_free c.requires.no_verdict)
