-- The handle's part of a run, and a run of just these pieces.
use Rattle.std.proofs.Common.{sym, subst}
use Rattle.std.specs.List.{count_by}
use Rattle.std.specs.Prelude.{map}
use Rattle.usb_model.specs.World.Plans.{is_submission}
use Rattle.usb_core.specs.Public.{setup_of}
use Rattle.proof_laws.proofs.Plans.{AreFixed}
use Rattle.usb_plans.proofs.OwnPlans.{as_many, compared}
use Rattle.usb_plans.proofs.own_plan.drive_alone.Goals as goal

pub apart-requires-clause-callbacks : goal.apart-requires-clause-callbacks
apart-requires-clause-callbacks g c = as_many g.C.Callback.rule c.args.other_callbacks.items c.args.callbacks.items (count_by is_submission c.args.plan.now) c.requires.same_rules c.requires.callbacks

pub apart-requires-clause-not_free : goal.apart-requires-clause-not_free
apart-requires-clause-not_free g c = subst AreFixed (sym c.requires.same_rules) c.requires.not_free

pub returns : goal.returns
returns g c =
    compared (setup_of c.args.setup) (setup_of c.in_ok-part.back) c.args.plan.now (map g.C.Callback.rule c.args.callbacks.items) (map g.C.Callback.rule c.args.other_callbacks.items) c.args.h c.in_ok-part.part c.in_ok-alone.alone
    c.in_ok-part.ensures.part c.in_ok-part.ensures.back c.requires.same_rules c.in_ok-alone.ensures
