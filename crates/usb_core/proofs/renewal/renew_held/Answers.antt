-- Each endpoint of the configuration, in order.
use Rattle.std.proofs.Common.{refl, ap, sym, ◌∙◌}
use Rattle.std.specs.Prelude.{option_copied}
use Rattle.usb_model.specs.World.{is_its}
use Rattle.refine_core.specs.Renewals.{is_held_by}
use Rattle.refine_core.proofs.Renewals.{renewed_all, renewed_more}
use Rattle.usb_core.proofs.renewal.renew_held.Goals.{then-is_its, else-is_its}
use Rattle.usb_core.proofs.renewal.renew_held.Goals as goal

pub loop-info-init : goal.loop-info-init
loop-info-init g c = λ setup set. refl

pub loop-info-preserved : goal.loop-info-preserved
loop-info-preserved g c =
    renewed_more c.args.claims.now c.args.controller.now c.loop-info.controller c.if-is_its.controller c.args.dev (λ setup e. is_held_by setup c.args.claims.now c.args.h c.args.dev e) c.endpoints-info-items.result.now c.loop-info.info-index c.info-item.result c.is_its.result
    c.loop-info-test.true c.info-item.is (λ setup set. c.is_its.ensures ∙ ap (is_its c.args.h) (c.holder.ensures setup set))
    (λ passed. elim c.if-is_its.branch [ then-is_its w ↦ w.controller-is ∙ w.renew.ensures | else-is_its w ↦ absurd (cc (passed, w.if-is_its.false)) ])
    (λ failed. elim c.if-is_its.branch [ then-is_its w ↦ absurd (cc (failed, w.if-is_its.true)) | else-is_its w ↦ w.controller-is ])
    c.loop-info.invariant

pub returns : goal.returns
returns g c =
    renewed_all c.args.claims.now c.args.controller.now c.loop-info.controller c.args.dev (λ setup e. is_held_by setup c.args.claims.now c.args.h c.args.dev e) c.in-Some.config.now c.endpoints-info-items.result.now c.loop-info.info-index
    (sym c.config.ensures ∙ ap option_copied c.in-Some.is) c.endpoints-info-items.ensures.value c.loop-info-test.false c.loop-info.invariant
