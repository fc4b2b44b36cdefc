use Rattle.std.proofs.Common.{nat_le, ap, ◌∙◌, ◌+◌, ℕ}
use Rattle.usb_rings.proofs.Views.{fits-is}
use Rattle.usb_rings.proofs.transfer_ring.TransferRing.fits.Goals as goal

pub returns : goal.returns
returns c = fits-is c.used.result c.args.count c.used.ensures.below ∙ ap (λ (u : ℕ). nat_le (u + c.args.count) 126) c.used.ensures.value
