-- The places of the line so far.
use Rattle.std.proofs.Common.{◌≡◌, ◌++◌, Some, take}
use Rattle.usb_model.specs.Setup.{Setup}
use Rattle.usb_model.specs.World.{World, holder}
use Rattle.usb_core.specs.Public.{ShowsWorld}
use Rattle.trace_left.specs.Gathered.{line_read}
use Rattle.trace_left.proofs.inventory.add_line.Given as goal

abbrev pub invariant-loop-item : goal.invariant-loop-item
invariant-loop-item g l =
    (setup : Setup) (w : World) → ShowsWorld setup l.fn.core w → holder setup w.claims l.fn.dev l.fn.ep ≡ Some l.fn.h → l.left.items ≡ l.initial.left.items ++ line_read l.fn.h l.fn.ep (take l.item (w.endpoints l.fn.dev l.fn.ep).line)
