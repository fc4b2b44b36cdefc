use Rattle.std.proofs.Common.{ℕ, Some, arith, sym, ap, ◌∙◌, slice_set}
use Rattle.usb_model.specs.Setup.{endpoint_id}
use Rattle.usb_device.specs.Pipe.{pipe_at}
use Rattle.usb_device.specs.Skims.{are_taken, pipe_given}
use Rattle.usb_xhc.specs.Context.{Context}
use Rattle.usb_xhc.specs.Slots.{DeviceSlot, sends}
use Rattle.usb_xhc.specs.Skims.{skipped}
use Rattle.usb_xhc.proofs.SlotSkims.{Row, few-fit, few-some, row-at, row-out, row-whole, serves-from, slot-left}
use Rattle.usb_xhc.proofs.slot.DeviceSlot.skim_out.Given.{Over}
use Rattle.usb_xhc.proofs.slot.DeviceSlot.skim_out.Goals as goal

-- the packets that moved, in a row
row : (g : Over) (c : goal.After-self-2-1 g)
    → Row c.args.self.now c.args.ep c.in-Some.context c.in-Some-working.first (λ s. sends s c.args.ep c.args.bytes.now)
    (λ i. pipe_given c.in-Some.context.size c.packets-packets.result.now i (pipe_at c.args.self.now.pipes c.args.ep)) c.skim_out-full.result
row g c =
    let x = c.in-Some.context in
    let t = c.in-Some-working.first in
    let s = c.args.self.now in
    let few = c.min-few.result in
    let k = c.skim_out-full.result in
    let handed = c.packets-packets.result.now in
    row-out s c.args.ep x t few k c.args.bytes.now handed
    (serves-from _ s c.args.ep c.from.result c.index_mut.result.now x t c.self.view_is c.self.invariant (c.from.ensures ∙ c.id.ensures) c.index_mut.ensures.value c.in-Some.is (sym c.working.ensures ∙ c.in-Some-working.is) c.if-self.false)
    (few-some x.size c.whole_within.result c.args.most few c.whole_within.ensures.some c.min-few.ensures c.if-few-eq0.false)
    (few-fit x.size x.within t.trb.length c.whole_within.result c.args.most few c.whole_within.ensures.fits c.min-few.ensures c.if-few-eq0.false)
    c.skim_out-full.ensures.most
    c.packets-packets.ensures
    (sym (ap (λ (n : ℕ). are_taken n handed k (pipe_at s.pipes c.args.ep)) (c.from-size.ensures ∙ c.size.ensures))
    ∙ sym (ap (λ (y : DeviceSlot). are_taken c.from-size.result handed k (pipe_at y.pipes c.args.ep)) c.self.view_is) ∙ c.skim_out-full.ensures.taken)

pub returns-clause-whole : goal.returns-clause-whole
returns-clause-whole g c =
    let s = c.args.self.now in
    let x = c.in-Some.context in
    row-whole s c.args.ep x c.in-Some-working.first (λ y. sends y c.args.ep c.args.bytes.now) (λ i. pipe_given x.size c.packets-packets.result.now i (pipe_at s.pipes c.args.ep)) c.skim_out-full.result (row g c)

pub returns-clause-slot : goal.returns-clause-slot
returns-clause-slot g c =
    let s = c.args.self.now in
    let x = c.in-Some.context in
    let k = c.skim_out-full.result in
    let handed = c.packets-packets.result.now in
    let items = c.self.inside.contexts.items in
    slot-left s c.args.ep (skipped x k) (pipe_given x.size handed k (pipe_at s.pipes c.args.ep)) _ c.self.inside.gone _
    (c.skim_out-full.ensures.pipes
    ∙ ap (λ (y : DeviceSlot). slice_set y.pipes (endpoint_id c.args.ep) (pipe_given c.from-size.result handed k (pipe_at y.pipes c.args.ep))) c.self.view_is
    ∙ ap (λ (n : ℕ). slice_set s.pipes (endpoint_id c.args.ep) (pipe_given n handed k (pipe_at s.pipes c.args.ep))) (c.from-size.ensures ∙ c.size.ensures))
    (ap (λ (y : DeviceSlot). y.gone) c.self.view_is)
    (ap (λ (i : ℕ). slice_set items i (Some c.skip.new.self)) (c.from.ensures ∙ c.id.ensures)
    ∙ ap (λ (y : Context). slice_set items (endpoint_id c.args.ep) (Some y)) c.skip.ensures
    ∙ ap (λ (y : DeviceSlot). slice_set y.contexts (endpoint_id c.args.ep) (Some (skipped x k))) c.self.view_is)
    ∙ sym (row-at s c.args.ep x c.in-Some-working.first (λ y. sends y c.args.ep c.args.bytes.now) (λ i. pipe_given x.size handed i (pipe_at s.pipes c.args.ep)) k (row g c) k (omega arith))
