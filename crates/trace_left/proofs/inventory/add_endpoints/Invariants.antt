-- The endpoints so far.
use Rattle.std.proofs.Common.{◌≡◌, ◌++◌, take}
use Rattle.std.specs.List.{flat_map}
use Rattle.usb_model.specs.Setup.{Setup}
use Rattle.usb_model.specs.World.{World, own_endpoint}
use Rattle.usb_core.specs.Public.{ShowsWorld}
use Rattle.trace_left.specs.Gathered.{end_read}
use Rattle.trace_left.proofs.inventory.add_endpoints.Given as goal

abbrev pub invariant-loop-info : goal.invariant-loop-info
invariant-loop-info g l =
    (setup : Setup) (w : World) → ShowsWorld setup l.fn.core w → l.left.items ≡ l.initial.left.items ++ flat_map (λ x. end_read l.fn.h x.address (own_endpoint setup l.fn.h w l.fn.dev x.address)) (take l.info-index l.fn.endpoints)
