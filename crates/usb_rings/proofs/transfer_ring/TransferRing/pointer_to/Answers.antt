use Rattle.std.proofs.Common.{◌≡◌, ◌+◌, ◌*◌, ℕ, arith, ap, ◌∙◌, length}
use Rattle.usb_rings.specs.Places.{cycle_of, address_of}
use Rattle.usb_rings.specs.Line.{places, place_of}
use Rattle.usb_rings.specs.View.{Ring, line_in, back}
use Rattle.usb_rings.proofs.ItemsTrbs.{length-split}
use Rattle.usb_rings.proofs.Changes.{place-is}
use Rattle.usb_rings.proofs.Totals.{total-part}
use Rattle.usb_rings.proofs.transfer_ring.TransferRing.pointer_to.Goals as goal

pub before-requires-clause-item : goal.before-requires-clause-item
before-requires-clause-item c =
    let n = length-split c.self.inside.segment (back c.self.inside.enqueue c.self.inside.held) c.self.inside.counts in
    let v = ap (λ (r : Ring). length r.line.items) c.self.view_is in
    omega (arith, c.requires)

pub overflow_sub-left : goal.overflow_sub-left
overflow_sub-left c =
    let part = total-part c.self.inside.counts c.args.item in
    omega (arith, c.self.invariant.counted, c.before-2.ensures)

pub returns : goal.returns
returns c =
    let s = c.self.invariant in
    let part = total-part c.self.inside.counts c.args.item in
    let place : c.place_before-place.result ≡ place_of (line_in c.self.inside.segment c.self.inside.enqueue c.self.inside.left c.self.inside.held c.self.inside.counts) c.args.item =
    omega (
      arith,
      c.place_before-place.ensures.value,
      c.before-2.ensures,
      s.counted,
      s.held_fits,
      place-is c.self.inside.segment c.self.inside.enqueue c.self.inside.left c.self.inside.held c.self.inside.counts c.args.item s.place s.left_fits s.held_fits s.counted,
    ) in
    let address : c.address.result ≡ address_of places c.self.inside.segment.base c.place_before-place.result =
    c.address.ensures ∙ ap (λ (i : ℕ). c.self.inside.segment.base + 16 * i) c.index.ensures.value in
    rw (address, c.cycle.ensures, place)
    (ap (λ (r : Ring). (address_of places r.line.base (place_of r.line c.args.item), cycle_of places (place_of r.line c.args.item))) c.self.view_is)
