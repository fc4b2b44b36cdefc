use Rattle.std.proofs.Common.{◌≡◌}
use Rattle.usb_scripttext.specs.Devices.{empty_scripts}
use Rattle.usb_scripttext.proofs.devices.empty_scripts.Given as goal

abbrev pub invariant-loop : goal.invariant-loop
invariant-loop l = l.scripts.items ≡ empty_scripts l.counter
