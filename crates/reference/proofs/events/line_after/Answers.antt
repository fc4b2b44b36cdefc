use Rattle.std.proofs.Common.{cond, ap, ◌∙◌}
use Rattle.usb_model.specs.Endpoint.{past_blanks, past_number}
use Rattle.reference.proofs.events.line_after.Goals as goal

pub returns-then-halts : goal.returns-then-halts
returns-then-halts c =
    let rest = past_number c.args.n c.args.line in
    c.in_ok-rest.ensures ∙ ap (λ h. cond h rest (past_blanks rest)) c.if-halts.ensures
