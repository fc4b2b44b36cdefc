use Rattle.std.proofs.Common.{subst}
use Rattle.usb_core.specs.Public.{TurnsWorld}
use Rattle.usb_plans.proofs.comparison.turn.Goals as goal

pub returns-in-Ok : goal.returns-in-Ok
returns-in-Ok g c = subst (λ step. TurnsWorld c.args.core.now step c.in-Ok.stepped.entry c.step.new.self) c.in_ok-clone.ensures.cases c.in-Ok.ensures.turned
