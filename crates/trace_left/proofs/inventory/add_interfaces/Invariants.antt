-- The interfaces so far.
use Rattle.std.proofs.Common.{◌≡◌, ◌++◌, take}
use Rattle.std.specs.List.{flat_map}
use Rattle.usb_model.specs.Setup.{Setup}
use Rattle.usb_model.specs.World.{World}
use Rattle.usb_core.specs.Public.{ShowsWorld}
use Rattle.trace_left.specs.Gathered.{held_read}
use Rattle.trace_left.proofs.inventory.add_interfaces.Given as goal

abbrev pub invariant-loop-interface : goal.invariant-loop-interface
invariant-loop-interface g l =
    (setup : Setup) (w : World) → ShowsWorld setup l.fn.core w → l.left.items ≡ l.initial.left.items ++ flat_map (λ i. held_read l.fn.h i (w.claims l.fn.dev i)) (take l.interface-index l.fn.interfaces)
