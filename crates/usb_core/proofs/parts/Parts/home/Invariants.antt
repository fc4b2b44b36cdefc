-- None of the endpoints before has it.
use Rattle.usb_model.specs.Setup.{Setup}
use Rattle.refine_world.specs.Shows.{Core}
use Rattle.refine_core.specs.State.{Keeps}
use Rattle.refine_core.proofs.Homes.{Searched}
use Rattle.usb_core.proofs.parts.Parts.home.Given as goal

abbrev pub invariant-loop-info : goal.invariant-loop-info
invariant-loop-info g l = (setup : Setup) (c : Core) → Keeps setup l.self c → Searched setup c l.h l.n l.info-items l.info-index
