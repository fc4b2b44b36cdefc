-- The step of the core, case by case.
use Rattle.std.proofs.Common.{◌≡◌, Some, false, ap, sym, subst, ◌∙◌}
use Rattle.usb_model.specs.declared.reply.Reply.TheVariants.{Done, Refused}
use Rattle.usb_model.specs.declared.step.Step.TheVariants.{Claim}
use Rattle.usb_model.specs.World.{is_its}
use Rattle.usb_tables.specs.Holders.{Holding, device_of}
use Rattle.refine_core.specs.Handles.{gone_in, says}
use Rattle.refine_core.specs.State.{State}
use Rattle.refine_core.specs.Steps.{DoesCoreStep}
use Rattle.refine_core.proofs.Claims.{claims_again, claims_gone, claims_none, claims_now, claims_refused, refusal_of, refusal_none}
use Rattle.usb_core.proofs.Views.{parts}
use Rattle.usb_core.proofs.parts.Parts.claim.Goals as goal

pub returns-in_default-clause-done : goal.returns-in_default-clause-done
returns-in_default-clause-done g c = claims_none c.args.self.now c.args.h c.args.i (sym (ap (λ (s : State g.row.P.Denot). device_of s.claims c.args.h) c.self.view_is) ∙ sym c.device_of.ensures ∙ c.in_default.is)

pub returns-then-is_gone-clause-done : goal.returns-then-is_gone-clause-done
returns-then-is_gone-clause-done g c = claims_gone c.args.self.now c.args.h c.args.i c.in-Some.dev (sym (ap (λ (s : State g.row.P.Denot). device_of s.claims c.args.h) c.self.view_is) ∙ sym c.device_of.ensures ∙ c.in-Some.is) (sym c.is_gone.ensures ∙ c.if-is_gone.true)

pub returns-in-Err-clause-done : goal.returns-in-Err-clause-done
returns-in-Err-clause-done g c =
    let old : State g.row.P.Denot = parts c.self.inside.claims c.self.inside.controller c.self.inside.flights c.self.inside.callers c.self.inside.outstanding in
    let device : device_of old.claims c.args.h ≡ Some c.in-Some.dev = sym c.device_of.ensures ∙ c.in-Some.is in
    let still : gone_in old.controller c.in-Some.dev ≡ false = ap (λ (s : State g.row.P.Denot). gone_in s.controller c.in-Some.dev) c.self.view_is ∙ sym c.is_gone.ensures ∙ c.if-is_gone.false in
    subst (λ (s : State g.row.P.Denot). DoesCoreStep s (Claim c.args.h c.args.i) (says c.args.h (Refused c.in-Err.why)) (record old { claims = c.claim.new.self })) c.self.view_is
    (subst (λ (v : Holding). DoesCoreStep old (Claim c.args.h c.args.i) (says c.args.h (Refused c.in-Err.why)) (record old { claims = v })) (sym c.in-Err.ensures.refused)
    (claims_refused old c.args.h c.args.i c.in-Some.dev c.in-Err.why device still (refusal_of old.claims c.args.h c.args.i c.in-Some.dev c.in-Err.why c.claim.result device c.claim.ensures.answer c.in-Err.is)))

pub returns-then-had-clause-done : goal.returns-then-had-clause-done
returns-then-had-clause-done g c =
    let old : State g.row.P.Denot = parts c.self.inside.claims c.self.inside.controller c.self.inside.flights c.self.inside.callers c.self.inside.outstanding in
    let device : device_of old.claims c.args.h ≡ Some c.in-Some.dev = sym c.device_of.ensures ∙ c.in-Some.is in
    let still : gone_in old.controller c.in-Some.dev ≡ false = ap (λ (s : State g.row.P.Denot). gone_in s.controller c.in-Some.dev) c.self.view_is ∙ sym c.is_gone.ensures ∙ c.if-is_gone.false in
    subst (λ (s : State g.row.P.Denot). DoesCoreStep s (Claim c.args.h c.args.i) (says c.args.h Done) (record old { claims = c.claim.new.self })) c.self.view_is
    (claims_again old c.args.h c.args.i c.in-Some.dev c.claim.new.self device still (refusal_none old.claims c.args.h c.args.i c.in-Some.dev c.claim.result c.in_default-claim.field-0 device c.claim.ensures.answer c.in_default-claim.is)
    (ap (is_its c.args.h) (sym c.owner.ensures) ∙ sym c.is_its-had.ensures ∙ c.if-had.true) c.claim.ensures.devices (λ x k. c.in_default-claim.ensures.owners c.in-Some.dev x k device) c.claim.ensures.configs)

pub returns-clause-done : goal.returns-clause-done
returns-clause-done g c =
    let old : State g.row.P.Denot = parts c.self.inside.claims c.self.inside.controller c.self.inside.flights c.self.inside.callers c.self.inside.outstanding in
    let device : device_of old.claims c.args.h ≡ Some c.in-Some.dev = sym c.device_of.ensures ∙ c.in-Some.is in
    let still : gone_in old.controller c.in-Some.dev ≡ false = ap (λ (s : State g.row.P.Denot). gone_in s.controller c.in-Some.dev) c.self.view_is ∙ sym c.is_gone.ensures ∙ c.if-is_gone.false in
    subst (λ (s : State g.row.P.Denot). DoesCoreStep s (Claim c.args.h c.args.i) (says c.args.h Done) (record old { claims = c.claim.new.self; controller = c.renew_interface.new.controller })) c.self.view_is
    (claims_now old c.args.h c.args.i c.in-Some.dev c.claim.new.self c.renew_interface.new.controller device still (refusal_none old.claims c.args.h c.args.i c.in-Some.dev c.claim.result c.in_default-claim.field-0 device c.claim.ensures.answer c.in_default-claim.is)
    (ap (is_its c.args.h) (sym c.owner.ensures) ∙ sym c.is_its-had.ensures ∙ c.if-had.false) c.claim.ensures.devices (λ x k. c.in_default-claim.ensures.owners c.in-Some.dev x k device) c.claim.ensures.configs c.renew_interface.ensures)
