-- By a Take the oldest result goes out, and by any other step nothing does.
use Rattle.std.proofs.Common.{sym}
use Rattle.usb_plans.proofs.Stages.{none_goes}
use Rattle.usb_plans.proofs.plan_run.make_step.Goals as goal

pub returns-in-Take-clause-turned : goal.returns-in-Take-clause-turned
returns-in-Take-clause-turned g c = rw c.in-Take.is c.take_step.ensures.turned

pub returns-in-Take-clause-out : goal.returns-in-Take-clause-out
returns-in-Take-clause-out g c = rw c.in-Take.is c.take_step.ensures.out

pub returns-in-Take-clause-back : goal.returns-in-Take-clause-back
returns-in-Take-clause-back g c = rw c.in-Take.is c.take_step.ensures.back

pub returns-in-Take-clause-carries : goal.returns-in-Take-clause-carries
returns-in-Take-clause-carries g c = rw c.in-Take.is c.take_step.ensures.carries

pub returns-in-Ok-clause-out : goal.returns-in-Ok-clause-out
returns-in-Ok-clause-out g c = sym (none_goes c.args.core.now c.args.step c.in_default.not-Take)

pub returns-in-Ok-clause-goes_out : goal.returns-in-Ok-clause-goes_out
returns-in-Ok-clause-goes_out g c = λ kept has. tt

pub returns-in-Take-clause-stays : goal.returns-in-Take-clause-stays
returns-in-Take-clause-stays g c = rw c.in-Take.is c.take_step.ensures.stays
