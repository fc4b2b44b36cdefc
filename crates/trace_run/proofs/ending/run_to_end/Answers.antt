-- The run was made for the plan.
use Rattle.std.specs.Prelude.{map}
use Rattle.std.specs.Vec.Iter.{into_iter_items}
use Rattle.std.proofs.Common.{subst}
use Rattle.usb_core.specs.Public.{ShowsWorld, setup_of}
use Rattle.trace_run.proofs.Printed.{starts_plan}
use Rattle.trace_run.proofs.ending.run_to_end.Goals as goal

pub perform_all-requires : goal.perform_all-requires
perform_all-requires g c = (
  setup_of c.args.parts.setup,
  map g.C.Callback.rule c.args.parts.callbacks.items,
  starts_plan g.C.Callback.rule (setup_of c.args.parts.setup) c.args.plan c.args.parts.callbacks.items (into_iter_items c.into_iter-left.result) c.in_ok-run.run' c.in_ok-run.ensures c.into_iter-left.ensures.rest
      c.requires.callbacks c.requires.not_free c.requires.no_verdict,
)

pub returns : goal.returns
returns g c =
    let setup = setup_of c.args.parts.setup in
    let ended =
    c.in_ok-perform_all.ensures setup (map g.C.Callback.rule c.args.parts.callbacks.items)
    (starts_plan g.C.Callback.rule setup c.args.plan c.args.parts.callbacks.items (into_iter_items c.into_iter-left.result) c.in_ok-run.run' c.in_ok-run.ensures c.into_iter-left.ensures.rest
    c.requires.callbacks c.requires.not_free c.requires.no_verdict) in
    subst (ShowsWorld setup c.into_core.result) ended.2 (c.into_core.ensures setup ended.0 ended.1)
