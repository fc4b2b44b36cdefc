use Rattle.std.proofs.Common.{subst, Some}
use Rattle.usb_model.specs.declared.step.Step.TheVariants.{Expire}
use Rattle.refine_core.specs.State.{State}
use Rattle.refine_core.specs.Steps.{TurnsWorld}
use Rattle.refine_core.proofs.Turns.{shows_again, turns}
use Rattle.usb_core.proofs.calls.Core.expire.Goals as goal

pub invariant_of-self : goal.invariant_of-self
invariant_of-self g c = shows_again c.self.inside.parts c.expire.new.self (Expire c.args.h c.args.n) (record { owner = Some c.args.h; reply = c.expire.result }) c.expire.ensures.done c.self.invariant

pub returns-clause-turned : goal.returns-clause-turned
returns-clause-turned g c = subst (λ (s : State g.row.P.Denot). TurnsWorld s (Expire c.args.h c.args.n) (record { owner = Some c.args.h; reply = c.expire.result }) c.expire.new.self) c.self.view_is (turns c.self.inside.parts c.expire.new.self (Expire c.args.h c.args.n) (record { owner = Some c.args.h; reply = c.expire.result }) c.expire.ensures.done)
