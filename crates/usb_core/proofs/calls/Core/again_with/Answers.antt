use Rattle.std.proofs.Common.{Some, IfErr, IfOk, OnErr, ◌≡◌, subst}
use Rattle.usb_model.specs.declared.refused.Refused.TheVariants.{NoMem}
use Rattle.usb_model.specs.declared.reply.Reply.TheVariants.{Number, Refused}
use Rattle.usb_model.specs.declared.step.Step.TheVariants.{Answer}
use Rattle.usb_model.specs.declared.verdict.Verdict.TheVariants.{AgainWith}
use Rattle.refine_core.specs.Calls.{Stays}
use Rattle.refine_core.specs.State.{State}
use Rattle.refine_core.specs.Steps.{TurnsWorld}
use Rattle.usb_core.proofs.Turns.{shown_either, turns_if, turns_unless}
use Rattle.usb_core.proofs.calls.Core.again_with.Goals as goal

pub invariant_of-self : goal.invariant_of-self
invariant_of-self g c = shown_either c.self.inside.parts c.again_with.new.self (Answer c.args.h c.args.n (AgainWith c.args.bytes)) c.again_with.result (λ n. record { owner = Some c.args.h; reply = Number n }) c.again_with.ensures.accepted c.again_with.ensures.kept c.self.invariant

pub returns-clause-accepted : goal.returns-clause-accepted
returns-clause-accepted g c = subst (λ (s : State g.row.P.Denot). IfOk c.again_with.result (λ n. TurnsWorld s (Answer c.args.h c.args.n (AgainWith c.args.bytes)) (record { owner = Some c.args.h; reply = Number n }) c.again_with.new.self)) c.self.view_is
    (turns_if c.self.inside.parts c.again_with.new.self (Answer c.args.h c.args.n (AgainWith c.args.bytes)) c.again_with.result (λ n. record { owner = Some c.args.h; reply = Number n }) c.again_with.ensures.accepted)

pub returns-clause-refused : goal.returns-clause-refused
returns-clause-refused g c = subst (λ (s : State g.row.P.Denot). IfErr c.again_with.result (λ x. (x.why ≡ NoMem → ⊥) → TurnsWorld s (Answer c.args.h c.args.n (AgainWith c.args.bytes)) (record { owner = Some c.args.h; reply = Refused x.why }) c.again_with.new.self)) c.self.view_is
    (turns_unless c.self.inside.parts c.again_with.new.self (Answer c.args.h c.args.n (AgainWith c.args.bytes)) c.again_with.result (λ x. record { owner = Some c.args.h; reply = Refused x.why }) (λ x. x.why ≡ NoMem → ⊥) c.again_with.ensures.refused)

pub returns-clause-kept : goal.returns-clause-kept
returns-clause-kept g c = subst (λ (s : State g.row.P.Denot). OnErr c.again_with.result (Stays s c.again_with.new.self)) c.self.view_is c.again_with.ensures.kept
