use Rattle.std.proofs.Common.{◌<◌, arith, ap, ◌∙◌, length}
use Rattle.usb_rings.specs.Line.{contents, advanced}
use Rattle.usb_rings.specs.View.{Ring}
use Rattle.usb_rings.proofs.Views.{length-contents, advanced-is}
use Rattle.usb_rings.proofs.transfer_ring.TransferRing.advance.Goals as goal

pub overflow_sub-self-inside : goal.overflow_sub-self-inside
overflow_sub-self-inside c =
    let s = c.self.invariant in
    let n = length-contents c.self.inside.segment c.self.inside.enqueue c.self.inside.left c.self.inside.held c.self.inside.counts s.left_fits s.held_fits s.counted in
    let v = ap (λ (r : Ring). length (contents r.line)) c.self.view_is in
    omega (arith, c.requires)

pub returns-clause-line : goal.returns-clause-line
returns-clause-line c =
    let s = c.self.invariant in
    let n = length-contents c.self.inside.segment c.self.inside.enqueue c.self.inside.left c.self.inside.held c.self.inside.counts s.left_fits s.held_fits s.counted in
    let v = ap (λ (r : Ring). length (contents r.line)) c.self.view_is in
    let some : 0 < c.self.inside.left = omega (arith, c.requires) in
    advanced-is c.self.inside.segment c.self.inside.enqueue c.self.inside.left c.self.inside.held c.past_no_ops-self-inside.result c.self.inside.counts
    s.place s.left_fits s.held_fits s.counted some c.past_no_ops-self-inside.ensures
    ∙ ap (λ (r : Ring). advanced r.line) c.self.view_is
