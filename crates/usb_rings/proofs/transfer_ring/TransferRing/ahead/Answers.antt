use Rattle.std.proofs.Common.{◌≡◌, ◌<◌, ◌+◌, ◌*◌, arith, ap, ◌∙◌, ℕ, length, Some, None}
use Rattle.usb_rings.specs.Places.{address_of}
use Rattle.usb_rings.specs.Line.{places, ahead_of, contents, normal_at}
use Rattle.usb_rings.specs.View.{Ring}
use Rattle.usb_rings.proofs.Views.{ahead-none, length-contents, normal-ahead}
use Rattle.usb_rings.proofs.transfer_ring.TransferRing.ahead.Goals as goal

pub returns-then-self-count-clause-value : goal.returns-then-self-count-clause-value
returns-then-self-count-clause-value c =
    let s = c.self.invariant in
    ap normal_at
    (ahead-none c.self.inside.segment c.self.inside.enqueue c.self.inside.left c.self.inside.held c.args.count c.self.inside.counts
    s.left_fits s.held_fits s.counted c.if-self-count.true
    ∙ ap (λ (r : Ring). ahead_of r.line c.args.count) c.self.view_is)

pub returns-in-Some-clause-value : goal.returns-in-Some-clause-value
returns-in-Some-clause-value c =
    let m = c.self.inside.segment in
    let p = c.place_before-place.result in
    let some : c.args.count < c.self.inside.left = omega (arith, c.if-self-count.false) in
    let address : c.address.result ≡ address_of places m.base p = c.address.ensures ∙ ap (λ (i : ℕ). m.base + 16 * i) c.index.ensures.value in
    rw (address)
    (normal-ahead m c.self.inside.enqueue c.self.inside.left c.self.inside.held c.args.count p c.self.inside.counts c.self.invariant some c.place_before-place.ensures.value (Some c.in-Some.trb) c.in-Some.ensures.found
    ∙ ap (λ (r : Ring). normal_at (ahead_of r.line c.args.count)) c.self.view_is)

pub returns-in-Some-clause-left : goal.returns-in-Some-clause-left
returns-in-Some-clause-left c =
    let s = c.self.invariant in
    let n = length-contents c.self.inside.segment c.self.inside.enqueue c.self.inside.left c.self.inside.held c.self.inside.counts s.left_fits s.held_fits s.counted in
    let v = ap (λ (r : Ring). length (contents r.line)) c.self.view_is in
    omega (arith, c.if-self-count.false)

pub returns-in-None-clause-value : goal.returns-in-None-clause-value
returns-in-None-clause-value c =
    let some : c.args.count < c.self.inside.left = omega (arith, c.if-self-count.false) in
    normal-ahead c.self.inside.segment c.self.inside.enqueue c.self.inside.left c.self.inside.held c.args.count c.place_before-place.result c.self.inside.counts c.self.invariant some c.place_before-place.ensures.value None c.in-None.ensures.found
    ∙ ap (λ (r : Ring). normal_at (ahead_of r.line c.args.count)) c.self.view_is
