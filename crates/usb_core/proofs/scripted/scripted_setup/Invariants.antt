-- The devices so far.
use Rattle.std.proofs.Common.{◌≡◌}
use Rattle.refine_core.specs.Made.{setup_of}
use Rattle.usb_core.proofs.scripted.scripted_setup.Given as goal

abbrev pub invariant-loop-device : goal.invariant-loop-device
invariant-loop-device l = setup_of l.setup ≡ l.yielded
