use Rattle.std.proofs.Common.{◌≡◌, ◌-◌, true, false, arith, ap, sym, ◌∙◌, suc}
use Rattle.usb_trb.specs.Read.{is_no_op}
use Rattle.usb_rings.specs.Memory.{kind_at, trb_at}
use Rattle.usb_rings.specs.Written.{kinds}
use Rattle.usb_rings.specs.Line.{places, no_ops}
use Rattle.usb_rings.specs.View.{back}
use Rattle.usb_rings.proofs.Views.{cell-at, kind-same, kinds-first, no_ops-one, no_ops-none}
use Rattle.usb_rings.proofs.window.past_no_ops.Goals as goal

pub loop-rest-preserved : goal.loop-rest-preserved
loop-rest-preserved c =
    let m = c.args.segment.now in
    let e = c.args.enqueue in
    let r = c.loop-rest.rest in
    let p = c.place_before.result in
    let few = c.loop-rest.invariant.few in
    let at = cell-at m e c.args.left r p c.requires.place c.requires.few few c.loop-rest-test.true c.place_before.ensures.value c.requires.written in
    let told : c.is_no_op.result ≡ is_no_op (kind_at places m p) = c.is_no_op.ensures.told (trb_at places (kind_at places m p) p) at.0 at.1 in
    let yes : is_no_op (kind_at places m (back e r)) ≡ true = ap is_no_op (sym (kind-same m p (back e r) c.place_before.ensures.value)) ∙ sym told ∙ c.if-is_no_op.true in
    let one : no_ops (kinds places m (back e r) r) ≡ suc (no_ops (kinds places m (back e (r - 1)) (r - 1))) =
    ap no_ops (kinds-first m e r (omega arith) c.loop-rest-test.true) ∙ no_ops-one _ _ yes in
    record { few = omega arith; passed = omega (arith, c.loop-rest.invariant.passed) }

pub returns-else-is_no_op : goal.returns-else-is_no_op
returns-else-is_no_op c =
    let m = c.args.segment.now in
    let e = c.args.enqueue in
    let r = c.loop-rest.rest in
    let p = c.place_before.result in
    let few = c.loop-rest.invariant.few in
    let at = cell-at m e c.args.left r p c.requires.place c.requires.few few c.loop-rest-test.true c.place_before.ensures.value c.requires.written in
    let told : c.is_no_op.result ≡ is_no_op (kind_at places m p) = c.is_no_op.ensures.told (trb_at places (kind_at places m p) p) at.0 at.1 in
    let no : is_no_op (kind_at places m (back e r)) ≡ false = ap is_no_op (sym (kind-same m p (back e r) c.place_before.ensures.value)) ∙ sym told ∙ c.if-is_no_op.false in
    let none : no_ops (kinds places m (back e r) r) ≡ 0 = ap no_ops (kinds-first m e r (omega arith) c.loop-rest-test.true) ∙ no_ops-none _ _ no in
    omega (arith, c.loop-rest.invariant.passed)
