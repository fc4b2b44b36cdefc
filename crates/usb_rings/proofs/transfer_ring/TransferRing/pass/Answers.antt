use Rattle.std.proofs.Common.{◌≤◌, ◌-◌, arith, ap, ◌∙◌, length}
use Rattle.usb_rings.specs.Line.{contents, moved}
use Rattle.usb_rings.specs.View.{Ring}
use Rattle.usb_rings.proofs.Views.{length-contents, moved-is}
use Rattle.usb_rings.proofs.transfer_ring.TransferRing.pass.Goals as goal

pub overflow_sub-self : goal.overflow_sub-self
overflow_sub-self c =
    let s = c.self.invariant in
    let n = length-contents c.self.inside.segment c.self.inside.enqueue c.self.inside.left c.self.inside.held c.self.inside.counts s.left_fits s.held_fits s.counted in
    let v = ap (λ (r : Ring). length (contents r.line)) c.self.view_is in
    omega (arith, c.requires)

pub returns-clause-line : goal.returns-clause-line
returns-clause-line c =
    let s = c.self.invariant in
    let n = length-contents c.self.inside.segment c.self.inside.enqueue c.self.inside.left c.self.inside.held c.self.inside.counts s.left_fits s.held_fits s.counted in
    let v = ap (λ (r : Ring). length (contents r.line)) c.self.view_is in
    let few : c.args.count ≤ c.self.inside.left = omega (arith, c.requires) in
    moved-is c.self.inside.segment c.self.inside.enqueue c.self.inside.left c.self.inside.held (c.self.inside.left - c.args.count) c.args.count c.self.inside.counts
    s.place s.left_fits s.held_fits (omega arith)
    ∙ ap (λ (r : Ring). moved r.line c.args.count) c.self.view_is
