use Rattle.std.proofs.Common.{refl}
use Rattle.usb_device.specs.Taken.{cut_at}
use Rattle.usb_device.proofs.taken.TakenPackets.new.Goals as goal

pub returns : goal.returns
unfolding cut_at
returns c = rw (c.in_ok-with_capacity.ensures.items, c.in_ok-with_capacity-2.ensures.items) refl
