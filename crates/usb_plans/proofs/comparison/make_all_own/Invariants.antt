-- The steps so far, over whichever devices.
use Rattle.std.specs.Vec.Iter.{into_iter_items}
use Rattle.usb_model.specs.Setup.{Setup}
use Rattle.usb_model.specs.World.{new_world}
use Rattle.usb_core.specs.Public.{ShowsWorld}
use Rattle.usb_plans.proofs.Apart.{Again}
use Rattle.usb_plans.proofs.comparison.make_all_own.Given as goal

abbrev pub invariant-loop-step : goal.invariant-loop-step
invariant-loop-step g l = (setup : Setup) → ShowsWorld setup l.fn.core (new_world setup) → Again setup l.fn.steps l.fn.own l.core l.entries l.step-index (into_iter_items l.left)
