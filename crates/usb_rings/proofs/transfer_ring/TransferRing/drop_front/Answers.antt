use Rattle.std.proofs.Common.{arith, ap, ◌∙◌, length}
use Rattle.usb_rings.specs.Line.{dropped}
use Rattle.usb_rings.specs.View.{Ring, back}
use Rattle.usb_rings.proofs.ItemsTrbs.{length-split}
use Rattle.usb_rings.proofs.Changes.{dropped-is, dropped-sound}
use Rattle.usb_rings.proofs.Totals.{total-part}
use Rattle.usb_rings.proofs.transfer_ring.TransferRing.drop_front.Goals as goal

pub before-requires-clause-item : goal.before-requires-clause-item
before-requires-clause-item c =
    let n = length-split c.self.inside.segment (back c.self.inside.enqueue c.self.inside.held) c.self.inside.counts in
    let v = ap (λ (r : Ring). length r.line.items) c.self.view_is in
    omega (arith, c.requires)

pub overflow_sub-self : goal.overflow_sub-self
overflow_sub-self c =
    let part = total-part c.self.inside.counts c.args.count in
    omega (arith, c.self.invariant.counted, c.before-2.ensures)

pub drop_front-requires : goal.drop_front-requires
drop_front-requires c =
    let n = length-split c.self.inside.segment (back c.self.inside.enqueue c.self.inside.held) c.self.inside.counts in
    let v = ap (λ (r : Ring). length r.line.items) c.self.view_is in
    omega (arith, c.requires)

pub invariant_of-self : goal.invariant_of-self
invariant_of-self c =
    rw (c.before-2.ensures, c.drop_front.ensures) (dropped-sound c.self.inside.segment c.self.inside.enqueue c.self.inside.left c.self.inside.held c.args.count c.self.inside.counts c.self.invariant)

pub returns-clause-line : goal.returns-clause-line
returns-clause-line c =
    let s = c.self.invariant in
    rw (c.before-2.ensures, c.drop_front.ensures)
    (dropped-is c.self.inside.segment c.self.inside.enqueue c.self.inside.left c.self.inside.held c.args.count c.self.inside.counts s.left_fits s.held_fits s.counted ∙ ap (λ (r : Ring). dropped r.line c.args.count) c.self.view_is)
