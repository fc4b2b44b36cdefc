-- The run that is made stands at the plan's beginning.
use Rattle.std.proofs.Common.{length, ap, ◌∙◌}
use Rattle.std.specs.Vec.Iter.{into_iter_items}
use Rattle.usb_core.specs.Public.{setup_of}
use Rattle.usb_plans.proofs.OwnPlans.{driven, starts}
use Rattle.usb_plans.proofs.own_plan.apart.Goals as goal

pub perform_all_own-requires-clause-callbacks : goal.perform_all_own-requires-clause-callbacks
perform_all_own-requires-clause-callbacks g c = ap length c.into_iter-left.ensures.rest ∙ c.requires.callbacks

pub returns : goal.returns
returns g c =
    driven g.C.Callback.rule (setup_of c.args.setup) c.args.callbacks.items (into_iter_items c.into_iter-left.result) c.in_ok-run.run' c.perform_all_own.result c.args.plan.now c.args.own
    (starts g.C.Callback.rule (setup_of c.args.setup) c.args.callbacks.items (into_iter_items c.into_iter-left.result) c.in_ok-run.run' c.in_ok-run.ensures c.into_iter-left.ensures.rest c.requires.not_free) c.perform_all_own.ensures
