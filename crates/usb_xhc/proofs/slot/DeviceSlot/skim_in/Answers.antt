use Rattle.std.proofs.Common.{◌≡◌, ◌≤◌, ◌+◌, ◌*◌, ◌<◌, ℕ, Some, arith, sym, ap, ◌∙◌, length, slice_set, true}
use Rattle.usb_model.specs.Setup.{endpoint_id}
use Rattle.usb_device.specs.Pipe.{pipe_at}
use Rattle.usb_device.specs.Skims.{are_whole, pipe_behind}
use Rattle.usb_xhc.specs.declared.trb_at.TrbAt.{TrbAt}
use Rattle.usb_xhc.specs.Ahead.{room}
use Rattle.usb_xhc.specs.Context.{Context, trbs}
use Rattle.usb_xhc.specs.Slots.{DeviceSlot}
use Rattle.usb_xhc.specs.Skims.{skipped}
use Rattle.usb_xhc.proofs.Skims.{first-of, inside-room}
use Rattle.usb_xhc.proofs.SlotSkims.{Serves, asked-of, few-fit, few-some, fewer-fit, none_sent, read-left, row-at, row-in, row-whole, serves-from, slot-left}
use Rattle.usb_xhc.proofs.slot.DeviceSlot.skim_in.Given.{Over}
use Rattle.usb_xhc.proofs.slot.DeviceSlot.skim_in.Goals as goal

pub skim_in-full-requires : goal.skim_in-full-requires
skim_in-full-requires g c =
    let x = c.in-Some.context in
    let t = c.in-Some-working.first in
    let s = c.args.self.now in
    let few = c.min-few.result in
    let serves : Serves s c.args.ep x t =
    serves-from _ s c.args.ep c.from.result c.index_mut.result.now x t c.self.view_is c.self.invariant (c.from.ensures ∙ c.id.ensures) c.index_mut.ensures.value c.in-Some.is (sym c.working.ensures ∙ c.in-Some-working.is) c.if-self.false in
    let fits = few-fit x.size x.within t.trb.length c.whole_within.result c.args.most few c.whole_within.ensures.fits c.min-few.ensures c.if-few-eq0.false in
    let most = inside-room x t (few * x.size) (first-of x t serves.first) fits in
    let asked = asked-of (λ (y : Context) (f : TrbAt). length c.args.bytes.now.items + room (trbs y) y.within ≤ c.args.bytes.now.capacity) s c.args.ep x t serves c.requires.bytes in
    let size = ap (λ (n : ℕ). few * n) (c.from-size.ensures ∙ c.size.ensures) in
    record { room = omega (arith, asked, most, size) }

-- the endpoint serves this TRB
serves : (g : Over) (c : goal.After-self-2-1 g) → Serves c.args.self.now c.args.ep c.in-Some.context c.in-Some-working.first
serves g c =
    serves-from _ c.args.self.now c.args.ep c.from.result c.index_mut.result.now c.in-Some.context c.in-Some-working.first c.self.view_is c.self.invariant (c.from.ensures ∙ c.id.ensures) c.index_mut.ensures.value c.in-Some.is
    (sym c.working.ensures ∙ c.in-Some-working.is) c.if-self.false

-- a packet has bytes, and those that moved are inside the TRB
some : (g : Over) (c : goal.After-self-2-1 g) → 0 < c.in-Some.context.size
some g c = few-some c.in-Some.context.size c.whole_within.result c.args.most c.min-few.result c.whole_within.ensures.some c.min-few.ensures c.if-few-eq0.false

fits : (g : Over) (c : goal.After-self-2-1 g) → c.in-Some.context.within + c.skim_in-full.result * c.in-Some.context.size < c.in-Some-working.first.trb.length
fits g c =
    let x = c.in-Some.context in
    let bytes = c.in-Some-working.first.trb.length in
    fewer-fit x.size x.within bytes c.min-few.result c.skim_in-full.result
    (few-fit x.size x.within bytes c.whole_within.result c.args.most c.min-few.result c.whole_within.ensures.fits c.min-few.ensures c.if-few-eq0.false) c.skim_in-full.ensures.most

-- each of them was met by a whole packet
whole : (g : Over) (c : goal.After-self-2-1 g) → are_whole c.in-Some.context.size c.skim_in-full.result (pipe_at c.args.self.now.pipes c.args.ep) ≡ true
whole g c =
    let k = c.skim_in-full.result in
    sym (ap (λ (n : ℕ). are_whole n k (pipe_at c.args.self.now.pipes c.args.ep)) (c.from-size.ensures ∙ c.size.ensures))
    ∙ sym (ap (λ (y : DeviceSlot). are_whole c.from-size.result k (pipe_at y.pipes c.args.ep)) c.self.view_is) ∙ c.skim_in-full.ensures.whole

pub returns-clause-whole : goal.returns-clause-whole
returns-clause-whole g c =
    let s = c.args.self.now in
    let k = c.skim_in-full.result in
    row-whole s c.args.ep c.in-Some.context c.in-Some-working.first none_sent (λ i. pipe_behind i (pipe_at s.pipes c.args.ep)) k (row-in s c.args.ep c.in-Some.context c.in-Some-working.first k (serves g c) (some g c) (fits g c) (whole g c))

pub returns-clause-slot : goal.returns-clause-slot
returns-clause-slot g c =
    let s = c.args.self.now in
    let x = c.in-Some.context in
    let t = c.in-Some-working.first in
    let k = c.skim_in-full.result in
    let items = c.self.inside.contexts.items in
    slot-left s c.args.ep (skipped x k) (pipe_behind k (pipe_at s.pipes c.args.ep)) _ c.self.inside.gone _
    (c.skim_in-full.ensures.pipes ∙ ap (λ (y : DeviceSlot). slice_set y.pipes (endpoint_id c.args.ep) (pipe_behind k (pipe_at y.pipes c.args.ep))) c.self.view_is)
    (ap (λ (y : DeviceSlot). y.gone) c.self.view_is)
    (ap (λ (i : ℕ). slice_set items i (Some c.skip.new.self)) (c.from.ensures ∙ c.id.ensures)
    ∙ ap (λ (y : Context). slice_set items (endpoint_id c.args.ep) (Some y)) c.skip.ensures
    ∙ ap (λ (y : DeviceSlot). slice_set y.contexts (endpoint_id c.args.ep) (Some (skipped x k))) c.self.view_is)
    ∙ sym (row-at s c.args.ep x t none_sent (λ i. pipe_behind i (pipe_at s.pipes c.args.ep)) k (row-in s c.args.ep x t k (serves g c) (some g c) (fits g c) (whole g c)) k (omega arith))

pub returns-clause-bytes : goal.returns-clause-bytes
returns-clause-bytes g c =
    read-left _ c.args.self.now c.args.ep c.in-Some.context c.in-Some-working.first c.skim_in-full.result c.args.bytes.now.items c.skim_in-full.new.bytes.items c.self.view_is
    (serves g c) (some g c) (fits g c) (whole g c) c.skim_in-full.ensures.bytes
