use Rattle.usb_rings.proofs.Places.{cycle-is}
use Rattle.usb_rings.proofs.place.cycle.Goals as goal

pub returns : goal.returns
returns g c = cycle-is g.row.N c.args.place c.requires
