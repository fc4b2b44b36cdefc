use Rattle.std.proofs.Common.{subst}
use Rattle.refine_core.specs.State.{State}
use Rattle.refine_core.specs.Steps.{TurnsWorld}
use Rattle.refine_core.proofs.Turns.{shows_again, turns}
use Rattle.usb_core.proofs.calls.Core.call.Goals as goal

pub invariant_of-self : goal.invariant_of-self
invariant_of-self g c = shows_again c.self.inside.parts c.call.new.self c.args.step c.call.result c.call.ensures.done c.self.invariant

pub returns-clause-turned : goal.returns-clause-turned
returns-clause-turned g c = subst (λ (s : State g.row.P.Denot). TurnsWorld s c.args.step c.call.result c.call.new.self) c.self.view_is (turns c.self.inside.parts c.call.new.self c.args.step c.call.result c.call.ensures.done)
