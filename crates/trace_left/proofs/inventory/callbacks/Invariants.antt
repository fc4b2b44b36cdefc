-- The callbacks of the numbers so far.
use Rattle.std.proofs.Common.{◌≡◌}
use Rattle.usb_model.specs.Setup.{Setup}
use Rattle.usb_model.specs.World.{World}
use Rattle.usb_core.specs.Public.{ShowsWorld}
use Rattle.trace_left.specs.Left.{callbacks_below}
use Rattle.trace_left.proofs.inventory.callbacks.Given as goal

abbrev pub invariant-loop-n : goal.invariant-loop-n
invariant-loop-n g l = (setup : Setup) (w : World) → ShowsWorld setup l.fn.core w → l.left.items ≡ callbacks_below l.fn.h (w.names l.fn.h).in_callbacks l.n
