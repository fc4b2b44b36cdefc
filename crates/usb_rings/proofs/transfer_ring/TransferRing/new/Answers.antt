use Rattle.usb_rings.proofs.MadeRing.{sound-cleared}
use Rattle.usb_rings.proofs.transfer_ring.TransferRing.new.Goals as goal

pub invariant_of-result : goal.invariant_of-result
invariant_of-result c = rw (c.in_ok-with_link.ensures, c.in_ok-new.ensures) (sound-cleared c.args.base c.requires)
