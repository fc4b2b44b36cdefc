use Rattle.std.proofs.Common.{◌≡◌}
use Rattle.usb_device.proofs.scripted_device.into_setups.Given as goal

abbrev pub invariant-loop-device : goal.invariant-loop-device
invariant-loop-device l = l.setups.items ≡ l.yielded
