-- The step of the core, case by case.
use Rattle.std.proofs.Common.{Bool, None, true, ap, sym, subst, ◌∙◌}
use Rattle.usb_model.specs.declared.reply.Reply.TheVariants.{Done}
use Rattle.usb_model.specs.declared.step.Step.TheVariants.{Reset}
use Rattle.usb_tables.specs.Holders.{device_of, others_hold}
use Rattle.refine_core.specs.Handles.{AreQuiet, gone_in, says}
use Rattle.refine_core.specs.State.{State}
use Rattle.refine_core.specs.Steps.{DoesCoreStep}
use Rattle.refine_core.proofs.Resets.{resets_busy, resets_gone, resets_none, resets_now, resets_others}
use Rattle.usb_core.proofs.Views.{parts}
use Rattle.usb_core.proofs.parts.Parts.reset.Goals as goal

pub returns-in_default-clause-done : goal.returns-in_default-clause-done
returns-in_default-clause-done g c = resets_none c.args.self.now c.args.h (sym (ap (λ (s : State g.row.P.Denot). device_of s.claims c.args.h) c.self.view_is) ∙ sym c.device_of.ensures ∙ c.in_default.is)

pub returns-then-is_gone-clause-done : goal.returns-then-is_gone-clause-done
returns-then-is_gone-clause-done g c = resets_gone c.args.self.now c.args.h c.in-Some.dev (sym (ap (λ (s : State g.row.P.Denot). device_of s.claims c.args.h) c.self.view_is) ∙ sym c.device_of.ensures ∙ c.in-Some.is) (sym c.is_gone.ensures ∙ c.if-is_gone.true)

pub returns-then-not-are_quiet-clause-done : goal.returns-then-not-are_quiet-clause-done
returns-then-not-are_quiet-clause-done g c = resets_busy c.args.self.now c.args.h c.in-Some.dev (sym (ap (λ (s : State g.row.P.Denot). device_of s.claims c.args.h) c.self.view_is) ∙ sym c.device_of.ensures ∙ c.in-Some.is) (sym c.is_gone.ensures ∙ c.if-is_gone.false)
    (subst (λ (b : Bool). AreQuiet c.args.self.now c.args.h c.in-Some.dev None b) c.if-not-are_quiet.true c.are_quiet.ensures)

pub returns-then-others_hold-clause-done : goal.returns-then-others_hold-clause-done
returns-then-others_hold-clause-done g c = resets_others c.args.self.now c.args.h c.in-Some.dev (sym (ap (λ (s : State g.row.P.Denot). device_of s.claims c.args.h) c.self.view_is) ∙ sym c.device_of.ensures ∙ c.in-Some.is) (sym c.is_gone.ensures ∙ c.if-is_gone.false)
    (subst (λ (b : Bool). AreQuiet c.args.self.now c.args.h c.in-Some.dev None b) c.if-not-are_quiet.false c.are_quiet.ensures)
    (sym (ap (λ (s : State g.row.P.Denot). others_hold s.claims c.args.h c.in-Some.dev) c.self.view_is) ∙ sym c.others_hold.ensures ∙ c.if-others_hold.true)

pub returns-clause-done : goal.returns-clause-done
returns-clause-done g c =
    let old : State g.row.P.Denot = parts c.self.inside.claims c.self.inside.controller c.self.inside.flights c.self.inside.callers c.self.inside.outstanding in
    subst (λ (s : State g.row.P.Denot). DoesCoreStep s (Reset c.args.h) (says c.args.h Done) (record old { controller = c.renew_held.new.controller })) c.self.view_is
    (resets_now old c.args.h c.in-Some.dev c.renew_held.new.controller (sym c.device_of.ensures ∙ c.in-Some.is)
    (ap (λ (s : State g.row.P.Denot). gone_in s.controller c.in-Some.dev) c.self.view_is ∙ sym c.is_gone.ensures ∙ c.if-is_gone.false)
    (subst (λ (s : State g.row.P.Denot). AreQuiet s c.args.h c.in-Some.dev None true) (sym c.self.view_is) (subst (λ (b : Bool). AreQuiet c.args.self.now c.args.h c.in-Some.dev None b) c.if-not-are_quiet.false c.are_quiet.ensures))
    (sym c.others_hold.ensures ∙ c.if-others_hold.false) c.renew_held.ensures)
