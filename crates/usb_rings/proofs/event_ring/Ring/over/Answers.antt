use Rattle.usb_rings.proofs.Rings.{unused-sound}
use Rattle.usb_rings.proofs.event_ring.Ring.over.Goals as goal

pub invariant_of-result : goal.invariant_of-result
invariant_of-result g c = unused-sound g.row.N c.args.segment c.requires.width c.requires.made
