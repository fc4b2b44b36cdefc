use Rattle.std.proofs.Common.{subst, sym}
use Rattle.usb_library.specs.Calls.{LacksWork}
use Rattle.usb_workers.specs.Rounds.{HasEnded}
use Rattle.usb_workers.proofs.controller.controller_loop.Goals as goal

pub returns-clause-ended : goal.returns-clause-ended
returns-clause-ended g c = subst (HasEnded (LacksWork g.L.Naming.setup)) (sym c.leave.ensures.same) c.work-caller.ensures.ended
