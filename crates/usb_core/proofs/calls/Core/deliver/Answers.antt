use Rattle.std.proofs.Common.{subst}
use Rattle.usb_model.specs.declared.step.Step.TheVariants.{Deliver}
use Rattle.refine_core.specs.State.{State}
use Rattle.refine_core.specs.Steps.{TurnsWorld}
use Rattle.refine_core.proofs.Turns.{shows_again, turns}
use Rattle.usb_core.proofs.calls.Core.deliver.Goals as goal

pub invariant_of-self : goal.invariant_of-self
invariant_of-self g c = shows_again c.self.inside.parts c.deliver.new.self Deliver (c.deliver.result) c.deliver.ensures.done c.self.invariant

pub returns-clause-turned : goal.returns-clause-turned
returns-clause-turned g c = subst (λ (s : State g.row.P.Denot). TurnsWorld s Deliver (c.deliver.result) c.deliver.new.self) c.self.view_is (turns c.self.inside.parts c.deliver.new.self Deliver (c.deliver.result) c.deliver.ensures.done)
