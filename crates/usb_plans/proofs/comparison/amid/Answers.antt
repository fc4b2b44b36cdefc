-- The core that is made shows the new world, and hands back the devices that it shows.
use Rattle.usb_core.specs.Public.{setup_of}
use Rattle.usb_plans.proofs.comparison.amid.Goals as goal

pub returns-clause-part : goal.returns-clause-part
returns-clause-part g c = (c.in_ok-part.ensures (setup_of c.args.setup) c.in_ok-core.ensures.shows).0

pub returns-clause-back : goal.returns-clause-back
returns-clause-back g c =
    let shown = (c.in_ok-part.ensures (setup_of c.args.setup) c.in_ok-core.ensures.shows).1 in
    c.into_setup.ensures.setup (setup_of c.args.setup) shown.0 shown.1
