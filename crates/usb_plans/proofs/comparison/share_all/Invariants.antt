-- The steps so far, over whichever devices.
use Rattle.usb_model.specs.Setup.{Setup}
use Rattle.usb_model.specs.World.{new_world}
use Rattle.usb_core.specs.Public.{ShowsWorld}
use Rattle.usb_plans.proofs.Apart.{Amid}
use Rattle.usb_plans.proofs.comparison.share_all.Given as goal

abbrev pub invariant-loop-step : goal.invariant-loop-step
invariant-loop-step g l = (setup : Setup) → ShowsWorld setup l.fn.core (new_world setup) → Amid setup l.fn.steps l.fn.h l.core l.part l.step-index
