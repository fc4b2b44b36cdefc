-- The core that is made shows the new world.
use Rattle.usb_core.specs.Public.{setup_of}
use Rattle.usb_plans.proofs.Apart.{ran}
use Rattle.usb_plans.proofs.comparison.apart.Goals as goal

pub returns : goal.returns
returns g c = ran c.make_all_own.result (setup_of c.args.setup) c.args.steps.now c.args.own c.in_ok-core.core c.in_ok-core.ensures.shows c.make_all_own.ensures
