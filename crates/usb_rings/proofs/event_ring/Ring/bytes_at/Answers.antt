use Rattle.std.proofs.Common.{subst}
use Rattle.usb_rings.specs.Ring.{IsRing}
use Rattle.usb_rings.proofs.Rings.{ring-is}
use Rattle.usb_rings.proofs.event_ring.Ring.bytes_at.Goals as goal

pub returns-clause-ring : goal.returns-clause-ring
returns-clause-ring g c = subst (IsRing g.row.N) c.self.view_is (ring-is g.row.N c.self.inside.segment c.self.inside.enqueue c.self.inside.dequeue c.self.invariant)
