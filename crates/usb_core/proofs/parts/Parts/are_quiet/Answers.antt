-- Each endpoint of the configuration, in order.
use Rattle.std.proofs.Common.{refl, ap, sym, subst, ◌∙◌, ◌≡◌, Bool, Some}
use Rattle.std.specs.Prelude.{option_copied, slice_get}
use Rattle.refine_core.specs.Handles.{IsQuiet}
use Rattle.refine_core.specs.State.{State}
use Rattle.refine_core.proofs.Quiet.{quiet_all, quiet_more, quiet_not}
use Rattle.usb_core.proofs.parts.Parts.are_quiet.Goals.{else-is_among-via-then-is_among+else-not-is_quiet, else-is_among-via-else-is_among}
use Rattle.usb_core.proofs.parts.Parts.are_quiet.Goals as goal

pub loop-info-init : goal.loop-info-init
loop-info-init g c = λ setup core keeps. refl

pub returns-then-not-is_quiet : goal.returns-then-not-is_quiet
returns-then-not-is_quiet g c =
    let there : slice_get c.args.self.now.claims.configs c.args.dev ≡ Some c.in-Some.config.now = sym (ap (λ (s : State g.row.P.Denot). slice_get s.claims.configs c.args.dev) c.self.view_is) ∙ sym c.config.ensures ∙ ap option_copied c.in-Some.is in
    quiet_not c.args.self.now c.args.h c.args.dev c.args.among c.in-Some.config.now c.endpoints-info-items.result.now c.loop-info.info-index c.info-item.result there c.endpoints-info-items.ensures.value c.loop-info-test.true c.info-item.is (cc)
    (subst (λ (b : Bool). IsQuiet c.args.self.now c.args.h c.args.dev c.info-item.result.address b) c.if-not-is_quiet.true c.is_quiet.ensures)

pub loop-info-preserved : goal.loop-info-preserved
loop-info-preserved g c =
    quiet_more c.args.self.now c.args.h c.args.dev c.args.among c.endpoints-info-items.result.now c.loop-info.info-index c.info-item.result c.loop-info-test.true c.info-item.is
    (elim c.else-is_among.branch [
      | else-is_among-via-then-is_among+else-not-is_quiet w ↦ λ asked. subst (λ (b : Bool). IsQuiet c.args.self.now c.args.h c.args.dev c.info-item.result.address b) w.if-not-is_quiet.false w.is_quiet.ensures
      | else-is_among-via-else-is_among w ↦ λ asked. absurd (cc (asked, w.if-is_among.false, c.is_among.ensures))
    ])
    c.loop-info.invariant

pub returns : goal.returns
returns g c =
    let there : slice_get c.args.self.now.claims.configs c.args.dev ≡ Some c.in-Some.config.now = sym (ap (λ (s : State g.row.P.Denot). slice_get s.claims.configs c.args.dev) c.self.view_is) ∙ sym c.config.ensures ∙ ap option_copied c.in-Some.is in
    quiet_all c.args.self.now c.args.h c.args.dev c.args.among c.in-Some.config.now c.endpoints-info-items.result.now c.loop-info.info-index there c.endpoints-info-items.ensures.value c.loop-info-test.false c.loop-info.invariant
