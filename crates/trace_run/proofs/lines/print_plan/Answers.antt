-- The run was made for the plan.
use Rattle.std.specs.Prelude.{map}
use Rattle.std.specs.Vec.Iter.{into_iter_items}
use Rattle.usb_core.specs.Public.{setup_of}
use Rattle.trace_run.proofs.Printed.{of_plan, starts_plan}
use Rattle.trace_run.proofs.lines.print_plan.Goals as goal

pub print_run-requires : goal.print_run-requires
print_run-requires g c = (
  setup_of c.args.parts.setup,
  map g.C.Callback.rule c.args.parts.callbacks.items,
  starts_plan g.C.Callback.rule (setup_of c.args.parts.setup) c.args.plan c.args.parts.callbacks.items (into_iter_items c.into_iter-left.result) c.in_ok-run.run' c.in_ok-run.ensures c.into_iter-left.ensures.rest
      c.requires.callbacks c.requires.not_free c.requires.no_verdict,
)

pub returns-clause-lines : goal.returns-clause-lines
returns-clause-lines g c =
    of_plan g.C.Callback.rule c.args.plan c.in_ok-run.run' (into_iter_items c.into_iter-left.result) (g.W.Write.contents c.args.out.now) c.print_run.result (g.W.Write.contents c.print_run.new.out)
    (setup_of c.args.parts.setup) (map g.C.Callback.rule c.args.parts.callbacks.items)
    (starts_plan g.C.Callback.rule (setup_of c.args.parts.setup) c.args.plan c.args.parts.callbacks.items (into_iter_items c.into_iter-left.result) c.in_ok-run.run' c.in_ok-run.ensures c.into_iter-left.ensures.rest
    c.requires.callbacks c.requires.not_free c.requires.no_verdict)
    c.print_run.ensures.lines

pub returns-clause-begun : goal.returns-clause-begun
returns-clause-begun g c =
    c.print_run.ensures.begun (setup_of c.args.parts.setup) (map g.C.Callback.rule c.args.parts.callbacks.items)
    (starts_plan g.C.Callback.rule (setup_of c.args.parts.setup) c.args.plan c.args.parts.callbacks.items (into_iter_items c.into_iter-left.result) c.in_ok-run.run' c.in_ok-run.ensures c.into_iter-left.ensures.rest
    c.requires.callbacks c.requires.not_free c.requires.no_verdict)
