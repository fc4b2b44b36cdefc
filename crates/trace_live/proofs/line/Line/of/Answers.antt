use Rattle.std.proofs.Common.{◌∙◌, ◌∷◌, [], ap, subst, sym}
use Rattle.usb_model.specs.declared.plan.Plan.TheVariants.{Do}
use Rattle.trace_threads.specs.Verdicts.{AreGiven, IsRuleOf, ruled}
use Rattle.trace_live.proofs.Submissions.{of_submission}
use Rattle.trace_live.proofs.line.Line.of.Goals as goal

pub of-callback-requires : goal.of-callback-requires
of-callback-requires g c =
    let given = g.Q.Planned.given in
    let left = c.args.rules.now.now in
    subst (λ rule. IsRuleOf given c.in-Submit.h rule) (sym c.next_rule-rule.ensures.rule)
    (of_submission given c.in-Submit.h c.in-Submit.request left (subst (λ piece. AreGiven given (ruled (piece ∷ []) left)) (c.in-Do.is ∙ ap Do c.in-Submit.is) c.requires.given))
