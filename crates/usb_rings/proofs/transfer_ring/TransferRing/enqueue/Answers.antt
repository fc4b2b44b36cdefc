use Rattle.std.proofs.Common.{◌≡◌, ap, sym, ◌∙◌, ℕ}
use Rattle.usb_rings.specs.Places.{index_of, cycle_of}
use Rattle.usb_rings.specs.Line.{places, enqueue_of}
use Rattle.usb_rings.specs.View.{Ring}
use Rattle.usb_rings.proofs.Views.{enqueue-is}
use Rattle.usb_rings.proofs.transfer_ring.TransferRing.enqueue.Goals as goal

pub returns : goal.returns
returns c =
    let s = c.self.invariant in
    let e : enqueue_of c.args.self.now.line ≡ c.self.inside.enqueue =
    sym (ap (λ (r : Ring). enqueue_of r.line) c.self.view_is) ∙ enqueue-is c.self.inside.segment c.self.inside.enqueue c.self.inside.left c.self.inside.held c.self.inside.counts s.place s.left_fits s.held_fits s.counted in
    rw (c.index.ensures.value, c.cycle.ensures) (sym (ap (λ (q : ℕ). (index_of places q, cycle_of places q)) e))
