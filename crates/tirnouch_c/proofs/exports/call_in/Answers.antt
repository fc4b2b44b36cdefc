-- The step is made, where there is one.
use Rattle.std.proofs.Common.{◌≡◌, ◌∙◌, Option, negsuc, refl, sym, subst, rules}
use Rattle.usb_model.specs.declared.step.Step.{Step}
use Rattle.tirnouch_c.specs.Calls.{MakesBy, step_of}
use Rattle.tirnouch_c.proofs.exports.call_in.Goals as goal

pub returns-in-None : goal.returns-in-None
returns-in-None c = subst (λ (o : Option Step). MakesBy o (negsuc 1) c.args.reply.now c.args.session.now c.args.session.now) (sym c.in-None.is ∙ c.step_of.ensures.step) (refl, refl)

pub returns-in-Some : goal.returns-in-Some
returns-in-Some c =
    let made : MakesBy (step_of c.args.verb c.args.h c.args.a c.args.n) c.make.result c.make.new.reply c.args.session.now c.make.new.session =
    subst (λ (o : Option Step). MakesBy o c.make.result c.make.new.reply c.args.session.now c.make.new.session) (sym c.in-Some.is ∙ c.step_of.ensures.step) c.make.ensures in
    search rules
