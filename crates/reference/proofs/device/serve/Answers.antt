-- What comes of the endpoint with a stand-in is what comes of it.
use Rattle.std.proofs.Common.{◌≡◌, Some, IfOk, rules, sym, subst, ◌∙◌}
use Rattle.usb_model.specs.declared.endpoint.EndpointState.TheVariants.{Running}
use Rattle.usb_model.specs.declared.endpoint_effect.EndpointEffect.{EndpointEffect}
use Rattle.usb_model.specs.Endpoint.{first_waiting}
use Rattle.reference.proofs.StandIns.{serve_gone_taken, serve_first_taken}
use Rattle.reference.proofs.device.serve.Goals as goal

pub returns-then-gone : goal.returns-then-gone
returns-then-gone c =
    let e = c.args.endpoint in
    let state : e.state ≡ Running = search rules in
    let first : first_waiting e.line ≡ Some c.in-Some.item = sym c.take_first-line.ensures.item ∙ c.in-Some.is in
    let same = serve_gone_taken c.args.size c.args.gone e _ c.in-Some.item state first c.take_first-line.ensures.line c.if-gone.true in
    subst (λ (y : EndpointEffect). IfOk c.serve_gone.result (λ d. d ≡ y)) same c.serve_gone.ensures

pub returns-else-gone : goal.returns-else-gone
returns-else-gone c =
    let e = c.args.endpoint in
    let state : e.state ≡ Running = search rules in
    let first : first_waiting e.line ≡ Some c.in-Some.item = sym c.take_first-line.ensures.item ∙ c.in-Some.is in
    let same = serve_first_taken c.args.size c.args.gone e _ c.in-Some.item state first c.take_first-line.ensures.line c.if-gone.false in
    subst (λ (y : EndpointEffect). IfOk c.serve_first.result (λ d. d ≡ y)) same c.serve_first.ensures
