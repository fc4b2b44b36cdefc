-- A piece of another, or one of its own.
use Rattle.usb_plans.proofs.OwnPlans.{shares_others, shares_own}
use Rattle.usb_plans.proofs.own_plan.share.Goals as goal

pub returns-then-not-own : goal.returns-then-not-own
returns-then-not-own g c =
    shares_others g.C.Callback.rule c.args.h c.args.piece.now c.args.callback c.args.run.now c.perform.new.self c.in_ok-performed.performed c.args.part.now c.push.new.self c.is_own-own.result (rw c.in_ok-copy_of.ensures at c.in_ok-performed.ensures.performs) c.is_own-own.ensures c.if-not-own.true c.in_ok-push.ensures.pushed

pub returns : goal.returns
returns g c =
    shares_own g.C.Callback.rule c.args.h c.args.piece.now c.args.callback c.args.run.now c.perform.new.self c.in_ok-performed.performed c.args.part.now c.push.new.self c.is_own-own.result c.put.new.entries
    (rw c.in_ok-copy_of.ensures at c.in_ok-performed.ensures.performs) c.is_own-own.ensures c.if-not-own.false c.in_ok-push.ensures.pushed c.in_ok-put.ensures
