-- A number further each turn.
use Rattle.std.proofs.Common.{◌++◌, ap, ap₂, arith, sym, ◌∙◌}
use Rattle.usb_model.specs.Machine.Calls.{callback_of}
use Rattle.trace_left.specs.Gathered.{called_at}
use Rattle.trace_left.specs.Left.{callbacks_below}
use Rattle.trace_left.proofs.ReadParts.{called_is, callbacks_more}
use Rattle.trace_left.proofs.inventory.callbacks.Goals as goal

pub loop-n-preserved : goal.loop-n-preserved
loop-n-preserved g c = λ setup w shown.
    let callbacks = (w.names c.args.h).in_callbacks in
    c.in_ok-add_callback.ensures
    ∙ (ap₂ (λ a b. a ++ b) (c.loop-n.invariant setup w shown) (ap (called_at c.args.h c.loop-n.n) (c.callback_at.ensures setup w shown) ∙ called_is c.args.h c.loop-n.n (callback_of c.loop-n.n callbacks))
    ∙ sym (callbacks_more c.args.h c.loop-n.n callbacks))

pub returns : goal.returns
returns g c = λ setup w shown.
    c.from_vec.ensures ∙ (c.loop-n.invariant setup w shown ∙ ap (callbacks_below c.args.h (w.names c.args.h).in_callbacks) (omega (arith, c.loop-n-test.false, c.loop-n.auto.n-end, c.next_number-end.ensures setup w shown)))
