-- What the configuration has, where there is such a device.
use Rattle.std.proofs.Common.{ℕ, Option, ◌∙◌, subst, sym, rules}
use Rattle.tirnouch_c.specs.Questions.{HasEndpointBy, HasEndpointIf}
use Rattle.tirnouch_c.proofs.questions.endpoint_in.Goals as goal

pub returns-in-Some : goal.returns-in-Some
returns-in-Some c =
    let all : HasEndpointBy c.args.dev c.args.i c.endpoint.result c.args.endpoint.now c.endpoint.new.facts c.args.session.now =
    subst (λ (o : Option ℕ). HasEndpointIf o c.args.i c.endpoint.result c.args.endpoint.now c.endpoint.new.facts c.args.session.now) (sym c.in-Some.is ∙ c.device.ensures) c.endpoint.ensures in
    search rules
