-- A step of another, or one of its own.
use Rattle.usb_plans.proofs.Apart.{shares_others, shares_own}
use Rattle.usb_plans.proofs.comparison.share.Goals as goal

pub returns-then-not-own : goal.returns-then-not-own
returns-then-not-own g c =
    shares_others c.args.h c.args.step.now c.args.core.now c.turn.new.core c.in_ok-entry.entry c.args.part.now c.push.new.self c.is_own-own.result c.in_ok-entry.ensures c.is_own-own.ensures c.if-not-own.true c.in_ok-push.ensures.pushed

pub returns : goal.returns
returns g c =
    shares_own c.args.h c.args.step.now c.args.core.now c.turn.new.core c.in_ok-entry.entry c.args.part.now c.push.new.self c.is_own-own.result c.push-2.new.self
    c.in_ok-entry.ensures c.is_own-own.ensures c.if-not-own.false c.in_ok-push.ensures.pushed c.in_ok-push-2.ensures.pushed
