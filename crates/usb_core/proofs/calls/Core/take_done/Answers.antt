use Rattle.std.proofs.Common.{subst}
use Rattle.refine_core.specs.State.{State}
use Rattle.usb_core.specs.Bursts.{TakesAndStops}
use Rattle.usb_core.proofs.InRows.{shown_behind, takes_and_stops}
use Rattle.usb_core.proofs.calls.Core.take_done.Goals as goal

pub invariant_of-self : goal.invariant_of-self
invariant_of-self g c = shown_behind c.self.inside.parts c.take_done.new.self c.take_done.result c.take_done.ensures.taken c.self.invariant

pub returns-clause-taken : goal.returns-clause-taken
returns-clause-taken g c = subst (λ (s : State g.row.P.Denot). TakesAndStops s c.take_done.result c.take_done.new.self) c.self.view_is
    (takes_and_stops c.self.inside.parts c.take_done.new.self c.take_done.result c.take_done.ensures.taken)
