-- What is read of the names so far.
use Rattle.std.proofs.Common.{◌≡◌}
use Rattle.usb_model.specs.Setup.{Setup}
use Rattle.usb_model.specs.World.{World}
use Rattle.usb_core.specs.Public.{ShowsWorld}
use Rattle.trace_left.specs.Gathered.{handles_read}
use Rattle.trace_left.proofs.inventory.read_handles.Given as goal

abbrev pub invariant-loop-number : goal.invariant-loop-number
invariant-loop-number g l = (setup : Setup) (w : World) → ShowsWorld setup l.fn.core w → l.all ≡ handles_read setup w l.number
