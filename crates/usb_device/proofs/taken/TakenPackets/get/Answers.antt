-- The packet of this index stands between two ends.
use Rattle.std.proofs.Common.{◌≡◌, ◌<◌, Some, get_or, slice_get, length, arith, ap, sym, ◌∙◌, refl}
use Rattle.std.specs.List.{slice_range}
use Rattle.std.proofs.lemmas.Option.{slice_get_past}
use Rattle.usb_device.specs.Taken.{Taken, start_of}
use Rattle.usb_device.proofs.Cuts.{Ascends-at, get_or-within, length-cut_at, slice_get-cut_at}
use Rattle.usb_device.proofs.taken.TakenPackets.get.Goals as goal

pub returns-then-i-len : goal.returns-then-i-len
returns-then-i-len c =
    let i = c.self.inside in
    let packets = ap (λ (t : Taken). length t.packets) c.self.view_is in
    sym (slice_get_past c.args.self.now.packets c.args.i (omega (arith, i.ends.ok.0, c.len.ensures, c.if-i-len.true, packets, length-cut_at 0 i.ends.items i.bytes.items)))

pub part-requires-clause-start : goal.part-requires-clause-start
part-requires-clause-start c =
    let i = c.self.inside in
    let few : c.args.i < length i.ends.items = omega (arith, i.ends.ok.0, c.len.ensures, c.if-i-len.false) in
    let at = Ascends-at 0 i.ends.items (length i.bytes.items) c.args.i c.self.invariant.0.ascends few in
    rw (c.start_of.ensures, c.deref-2.ensures.value, c.index.ensures ∙ get_or-within i.ends.items c.args.i c.index.result.now few) at.0

pub part-requires-clause-end : goal.part-requires-clause-end
part-requires-clause-end c =
    let i = c.self.inside in
    let few : c.args.i < length i.ends.items = omega (arith, i.ends.ok.0, c.len.ensures, c.if-i-len.false) in
    let at = Ascends-at 0 i.ends.items (length i.bytes.items) c.args.i c.self.invariant.0.ascends few in
    rw (c.deref.ensures.value, c.index.ensures ∙ get_or-within i.ends.items c.args.i c.index.result.now few) at.1

pub returns : goal.returns
returns c =
    let i = c.self.inside in
    let few : c.args.i < length i.ends.items = omega (arith, i.ends.ok.0, c.len.ensures, c.if-i-len.false) in
    let end = c.index.ensures ∙ get_or-within i.ends.items c.args.i c.index.result.now few in
    let packet : c.part.result.now ≡ slice_range i.bytes.items (start_of 0 i.ends.items c.args.i) (get_or i.ends.items c.args.i 0) =
    rw (c.part.ensures, c.deref.ensures.value, c.start_of.ensures, c.deref-2.ensures.value, end) refl in
    ap Some packet ∙ sym (slice_get-cut_at 0 i.ends.items i.bytes.items c.args.i few) ∙ ap (λ (t : Taken). slice_get t.packets c.args.i) c.self.view_is
