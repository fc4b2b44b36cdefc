-- The orders so far.
use Rattle.usb_model.specs.Setup.{Setup}
use Rattle.usb_model.specs.World.{World}
use Rattle.usb_core.specs.Public.{ShowsWorld}
use Rattle.trace_left.proofs.Gathers.{OrdersSoFar}
use Rattle.trace_left.proofs.gather.add_orders.Given as goal

abbrev pub invariant-loop-turn : goal.invariant-loop-turn
invariant-loop-turn g l = (setup : Setup) (w : World) → ShowsWorld setup l.fn.core w → OrdersSoFar setup w l.core l.fn.count l.turn l.initial.left.items l.left.items
