-- The run that is made stands at the plan's beginning, and hands back the devices over which it stands.
use Rattle.std.proofs.Common.{length, ap, ◌∙◌}
use Rattle.std.specs.Prelude.{map}
use Rattle.std.specs.Vec.Iter.{into_iter_items}
use Rattle.usb_core.specs.Public.{setup_of}
use Rattle.usb_plans.proofs.OwnPlans.{starts}
use Rattle.usb_plans.proofs.own_plan.amid.Goals as goal

pub share_all-requires-clause-callbacks : goal.share_all-requires-clause-callbacks
share_all-requires-clause-callbacks g c = ap length c.into_iter-left.ensures.rest ∙ c.requires.callbacks

pub returns-clause-part : goal.returns-clause-part
returns-clause-part g c =
    let start = starts g.C.Callback.rule (setup_of c.args.setup) c.args.callbacks.items (into_iter_items c.into_iter-left.result) c.in_ok-run.run' c.in_ok-run.ensures c.into_iter-left.ensures.rest c.requires.not_free in
    (c.in_ok-part.ensures (setup_of c.args.setup) (map g.C.Callback.rule c.args.callbacks.items) start).0

pub returns-clause-back : goal.returns-clause-back
returns-clause-back g c =
    let start = starts g.C.Callback.rule (setup_of c.args.setup) c.args.callbacks.items (into_iter_items c.into_iter-left.result) c.in_ok-run.run' c.in_ok-run.ensures c.into_iter-left.ensures.rest c.requires.not_free in
    let shown = (c.in_ok-part.ensures (setup_of c.args.setup) (map g.C.Callback.rule c.args.callbacks.items) start).1 in
    c.into_setup.ensures.setup (setup_of c.args.setup) shown.0 shown.1
