use Rattle.std.proofs.Common.{◌≡◌, length}
use Rattle.usb_core.specs.Public.{setup_of}
use Rattle.example_devices.proofs.scripted.devices.Given as goal

abbrev pub invariant-loop-added : goal.invariant-loop-added
invariant-loop-added l = length (setup_of l.setup) ≡ l.added
