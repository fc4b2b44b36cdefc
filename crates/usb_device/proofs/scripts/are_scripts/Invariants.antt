-- The scripts fit if those fit that are left.
use Rattle.std.proofs.Common.{◌≡◌, drop}
use Rattle.usb_device.specs.Scripts.{are_scripts, are_scripts_from}
use Rattle.usb_device.proofs.scripts.are_scripts.Given as goal

abbrev pub invariant-loop-id : goal.invariant-loop-id
invariant-loop-id l = are_scripts l.config l.scripts ≡ are_scripts_from l.config l.id (drop l.id l.scripts)
