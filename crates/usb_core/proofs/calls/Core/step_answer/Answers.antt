use Rattle.std.proofs.Common.{◌∙◌, ap, refl}
use Rattle.usb_model.specs.declared.step.Step.TheVariants.{Answer}
use Rattle.usb_model.specs.declared.verdict.Verdict.TheVariants.{Again, AgainWith}
use Rattle.usb_core.proofs.Turns.{answered_turns, as_turn}
use Rattle.usb_core.proofs.calls.Core.step_answer.Goals as goal

pub returns-in-Stop-clause-turned : goal.returns-in-Stop-clause-turned
returns-in-Stop-clause-turned g c = as_turn c.args.self.now c.stop.new.self c.stop.new.self (Answer c.args.h c.args.n c.args.verdict) _ c.told.result.entry _ (ap (Answer c.args.h c.args.n) c.in-Stop.is) (ap (λ x. x.entry) c.told.ensures ∙ c.entry_of.ensures) refl c.stop.ensures.turned

pub returns-in-Some-clause-turned : goal.returns-in-Some-clause-turned
returns-in-Some-clause-turned g c = rw (c.submitted.ensures, c.in-Again.is) (answered_turns c.args.self.now c.again.new.self (Answer c.args.h c.args.n Again) c.args.h c.again.result c.again.ensures.accepted c.again.ensures.refused)

pub returns-in-Some-payload-clause-turned : goal.returns-in-Some-payload-clause-turned
returns-in-Some-payload-clause-turned g c = rw (c.submitted-in-AgainWith.ensures, c.in-AgainWith.is) (answered_turns c.args.self.now c.again_with.new.self (Answer c.args.h c.args.n (AgainWith c.in-AgainWith.bytes)) c.args.h c.again_with.result c.again_with.ensures.accepted c.again_with.ensures.refused)
