-- A piece that isn't performed, or one that is.
use Rattle.std.proofs.Common.{refl}
use Rattle.usb_plans.proofs.own_plan.perform_own.Goals as goal

pub returns-then-not-own : goal.returns-then-not-own
returns-then-not-own g c = rw c.if-not-own.true (refl, refl)

pub returns : goal.returns
returns g c = rw c.if-not-own.false (c.in_ok-performed.performed, rw c.in_ok-copy_of.ensures at c.in_ok-performed.ensures.performs, c.in_ok-put.ensures)
