use Rattle.usb_rings.proofs.MadeRing.{sound-cleared}
use Rattle.usb_rings.proofs.transfer_ring.TransferRing.renew.Goals as goal

pub invariant_of-self : goal.invariant_of-self
invariant_of-self c = rw (c.clear.ensures, c.self.invariant.size, c.clear-2.ensures) (sound-cleared c.self.inside.segment.base c.self.invariant.base_fits)
