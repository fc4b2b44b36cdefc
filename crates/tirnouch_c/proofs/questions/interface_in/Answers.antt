-- What the configuration has, where there is such a device.
use Rattle.std.proofs.Common.{ℕ, Option, ◌∙◌, subst, sym, rules}
use Rattle.tirnouch_c.specs.Questions.{HasInterfaceBy, HasInterfaceIf}
use Rattle.tirnouch_c.proofs.questions.interface_in.Goals as goal

pub returns-in-Some : goal.returns-in-Some
returns-in-Some c =
    let all : HasInterfaceBy c.args.dev c.args.i c.interface.result c.args.session.now =
    subst (λ (o : Option ℕ). HasInterfaceIf o c.args.i c.interface.result c.args.session.now) (sym c.in-Some.is ∙ c.device.ensures) c.interface.ensures in
    search rules
