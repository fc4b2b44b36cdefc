use Rattle.std.proofs.Common.{refl}
use Rattle.usb_device.specs.Taken.{cut_at}
use Rattle.usb_device.proofs.taken.TakenPackets.clear.Goals as goal

pub returns : goal.returns
unfolding cut_at
returns c = rw (c.clear.ensures.items, c.clear-2.ensures.items, ← c.self.view_is) refl
