-- The runs were made for the plan.
use Rattle.std.specs.Prelude.{map}
use Rattle.usb_core.specs.Public.{setup_of}
use Rattle.usb_plans.proofs.BothRuns.{starts_both}
use Rattle.trace_run.proofs.Printed.{of_both}
use Rattle.trace_run.proofs.lines.print_alone.Goals as goal

pub print_twins-requires : goal.print_twins-requires
print_twins-requires g c = (
  setup_of c.args.parts.setup,
  map g.C.Callback.rule c.args.parts.callbacks.items,
  starts_both g.C.Callback.rule (setup_of c.args.parts.setup) (setup_of c.args.other_parts.setup) c.args.plan.now c.args.parts.callbacks.items c.args.other_parts.callbacks.items c.in_ok-twins.twins c.in_ok-twins.ensures
      c.requires.same_devices c.requires.same_rules c.requires.callbacks c.requires.not_free c.requires.no_verdict,
)

pub returns-clause-lines : goal.returns-clause-lines
returns-clause-lines g c =
    of_both g.C.Callback.rule c.args.plan.now c.args.h c.in_ok-twins.twins (g.W.Write.contents c.args.out.now) c.print_twins.result (g.W.Write.contents c.print_twins.new.out)
    (setup_of c.args.parts.setup) (map g.C.Callback.rule c.args.parts.callbacks.items)
    (starts_both g.C.Callback.rule (setup_of c.args.parts.setup) (setup_of c.args.other_parts.setup) c.args.plan.now c.args.parts.callbacks.items c.args.other_parts.callbacks.items c.in_ok-twins.twins c.in_ok-twins.ensures
    c.requires.same_devices c.requires.same_rules c.requires.callbacks c.requires.not_free c.requires.no_verdict)
    c.print_twins.ensures.lines

pub returns-clause-begun : goal.returns-clause-begun
returns-clause-begun g c =
    c.print_twins.ensures.begun (setup_of c.args.parts.setup) (map g.C.Callback.rule c.args.parts.callbacks.items)
    (starts_both g.C.Callback.rule (setup_of c.args.parts.setup) (setup_of c.args.other_parts.setup) c.args.plan.now c.args.parts.callbacks.items c.args.other_parts.callbacks.items c.in_ok-twins.twins c.in_ok-twins.ensures
    c.requires.same_devices c.requires.same_rules c.requires.callbacks c.requires.not_free c.requires.no_verdict)
