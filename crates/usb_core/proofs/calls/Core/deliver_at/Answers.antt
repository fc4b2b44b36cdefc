use Rattle.std.proofs.Common.{subst, sym}
use Rattle.usb_model.specs.declared.step.Step.TheVariants.{Deliver}
use Rattle.refine_core.specs.State.{ShowsWorld, State}
use Rattle.refine_core.specs.Steps.{TurnsWorld}
use Rattle.refine_core.proofs.Turns.{shows_again, turns}
use Rattle.usb_core.proofs.calls.Core.deliver_at.Goals as goal

pub invariant_of-self : goal.invariant_of-self
invariant_of-self g c = shows_again c.self.inside.parts c.deliver_at.new.self Deliver c.deliver_at.result.entry c.deliver_at.ensures.done c.self.invariant

pub returns-clause-turned : goal.returns-clause-turned
returns-clause-turned g c = subst (λ (s : State g.row.P.Denot). TurnsWorld s Deliver c.deliver_at.result.entry c.deliver_at.new.self) c.self.view_is (turns c.self.inside.parts c.deliver_at.new.self Deliver c.deliver_at.result.entry c.deliver_at.ensures.done)

pub returns-clause-at : goal.returns-clause-at
returns-clause-at g c = λ setup w shown.
    let inside : ShowsWorld setup c.self.inside.parts w = subst (λ (s : State g.row.P.Denot). ShowsWorld setup s w) (sym c.self.view_is) shown in
    c.deliver_at.ensures.at setup w inside.0 inside.1 inside.2
