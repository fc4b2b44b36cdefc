use Rattle.std.proofs.Common.{subst}
use Rattle.usb_rings.specs.View.{IsRing}
use Rattle.usb_rings.proofs.Readable.{ring-is}
use Rattle.usb_rings.proofs.transfer_ring.TransferRing.bytes_at.Goals as goal

pub returns-clause-ring : goal.returns-clause-ring
returns-clause-ring c = subst IsRing c.self.view_is (ring-is c.self.inside.segment c.self.inside.enqueue c.self.inside.left c.self.inside.held c.self.inside.counts c.self.invariant)
