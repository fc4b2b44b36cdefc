-- A step that isn't made, or one that is.
use Rattle.std.proofs.Common.{refl}
use Rattle.usb_plans.proofs.comparison.make_own.Goals as goal

pub returns-then-not-own : goal.returns-then-not-own
returns-then-not-own g c = rw c.if-not-own.true (refl, refl)

pub returns : goal.returns
returns g c = rw c.if-not-own.false (c.in_ok-entry.entry, c.in_ok-entry.ensures, c.in_ok-push.ensures.pushed)
