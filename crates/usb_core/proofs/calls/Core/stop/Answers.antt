use Rattle.std.proofs.Common.{subst, Some}
use Rattle.usb_model.specs.declared.step.Step.TheVariants.{Answer}
use Rattle.usb_model.specs.declared.verdict.Verdict.TheVariants.{Stop}
use Rattle.refine_core.specs.State.{State}
use Rattle.refine_core.specs.Steps.{TurnsWorld}
use Rattle.refine_core.proofs.Turns.{shows_again, turns}
use Rattle.usb_core.proofs.calls.Core.stop.Goals as goal

pub invariant_of-self : goal.invariant_of-self
invariant_of-self g c = shows_again c.self.inside.parts c.stop.new.self (Answer c.args.h c.args.n Stop) (record { owner = Some c.args.h; reply = c.stop.result }) c.stop.ensures.done c.self.invariant

pub returns-clause-turned : goal.returns-clause-turned
returns-clause-turned g c = subst (λ (s : State g.row.P.Denot). TurnsWorld s (Answer c.args.h c.args.n Stop) (record { owner = Some c.args.h; reply = c.stop.result }) c.stop.new.self) c.self.view_is (turns c.self.inside.parts c.stop.new.self (Answer c.args.h c.args.n Stop) (record { owner = Some c.args.h; reply = c.stop.result }) c.stop.ensures.done)
