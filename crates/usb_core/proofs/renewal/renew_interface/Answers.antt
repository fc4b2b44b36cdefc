-- Each endpoint of the configuration, in order.
use Rattle.std.proofs.Common.{refl, ap, sym, ◌∙◌}
use Rattle.std.specs.Prelude.{option_copied}
use Rattle.refine_core.specs.Renewals.{is_of_interface}
use Rattle.refine_core.proofs.Renewals.{of_interface, renewed_all, renewed_more}
use Rattle.usb_core.proofs.renewal.renew_interface.Goals.{then-is_of_interface, else-is_of_interface}
use Rattle.usb_core.proofs.renewal.renew_interface.Goals as goal

pub loop-info-init : goal.loop-info-init
loop-info-init g c = λ setup set. refl

pub loop-info-preserved : goal.loop-info-preserved
loop-info-preserved g c =
    renewed_more c.args.claims.now c.args.controller.now c.loop-info.controller c.if-is_of_interface.controller c.args.dev (λ setup e. is_of_interface setup c.args.dev c.args.i e) c.endpoints-info-items.result.now c.loop-info.info-index c.info-item.result c.is_of_interface.result
    c.loop-info-test.true c.info-item.is
    (λ setup set. c.is_of_interface.ensures ∙ of_interface c.args.claims.now setup c.args.dev c.args.i c.info-item.result.address c.in-Some.config.now set (sym c.config.ensures ∙ ap option_copied c.in-Some.is))
    (λ passed. elim c.if-is_of_interface.branch [ then-is_of_interface w ↦ w.controller-is ∙ w.renew.ensures | else-is_of_interface w ↦ absurd (cc (passed, w.if-is_of_interface.false)) ])
    (λ failed. elim c.if-is_of_interface.branch [ then-is_of_interface w ↦ absurd (cc (failed, w.if-is_of_interface.true)) | else-is_of_interface w ↦ w.controller-is ])
    c.loop-info.invariant

pub returns : goal.returns
returns g c =
    renewed_all c.args.claims.now c.args.controller.now c.loop-info.controller c.args.dev (λ setup e. is_of_interface setup c.args.dev c.args.i e) c.in-Some.config.now c.endpoints-info-items.result.now c.loop-info.info-index
    (sym c.config.ensures ∙ ap option_copied c.in-Some.is) c.endpoints-info-items.ensures.value c.loop-info-test.false c.loop-info.invariant
