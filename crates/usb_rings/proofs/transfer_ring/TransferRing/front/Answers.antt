use Rattle.std.proofs.Common.{◌≡◌, ◌<◌, ◌≤◌, ◌+◌, ◌-◌, ◌*◌, ◌%◌, arith, ap, ◌∙◌, ℕ, length}
use Rattle.usb_rings.specs.Places.{address_of}
use Rattle.usb_rings.specs.Memory.{kind_at, trb_at}
use Rattle.usb_rings.specs.Line.{places, ahead_of, contents}
use Rattle.usb_rings.specs.View.{Ring, back}
use Rattle.usb_rings.proofs.Views.{ahead-none, ahead-some, cell-at, length-contents, front-is}
use Rattle.usb_rings.proofs.transfer_ring.TransferRing.front.Goals as goal

pub returns-then-self-eq0-clause-value : goal.returns-then-self-eq0-clause-value
returns-then-self-eq0-clause-value c =
    let s = c.self.invariant in
    let none : c.self.inside.left ≤ 0 = omega (arith, c.if-self-eq0.true) in
    ahead-none c.self.inside.segment c.self.inside.enqueue c.self.inside.left c.self.inside.held 0 c.self.inside.counts
    s.left_fits s.held_fits s.counted none
    ∙ ap (λ (r : Ring). ahead_of r.line 0) c.self.view_is ∙ front-is c.args.self.now.line

pub returns-in-Ok-clause-value : goal.returns-in-Ok-clause-value
returns-in-Ok-clause-value c =
    let s = c.self.invariant in
    let m = c.self.inside.segment in
    let p = c.place_before-place.result in
    let some : 0 < c.self.inside.left = omega (arith, c.if-self-eq0.false) in
    let at = cell-at m c.self.inside.enqueue c.self.inside.left c.self.inside.left p s.place s.left_fits (omega arith) (omega arith) c.place_before-place.ensures.value s.left_written in
    let told = c.in-Ok.ensures.found (trb_at places (kind_at places m p) p) at.0 at.1 in
    let trb : c.in-Ok.trb ≡ trb_at places (kind_at places m p) p = cc in
    let address : c.address.result ≡ address_of places m.base p = c.address.ensures ∙ ap (λ (i : ℕ). m.base + 16 * i) c.index.ensures.value in
    let whole : c.self.inside.left ≡ c.self.inside.left - 0 = omega arith in
    let place = c.place_before-place.ensures.value ∙ ap (λ (n : ℕ). back c.self.inside.enqueue n % 254) whole in
    rw (address, trb)
    (ahead-some m c.self.inside.enqueue c.self.inside.left c.self.inside.held 0 p c.self.inside.counts s.left_fits s.held_fits s.counted some place
    ∙ ap (λ (r : Ring). ahead_of r.line 0) c.self.view_is ∙ front-is c.args.self.now.line)

pub returns-in-Ok-clause-left : goal.returns-in-Ok-clause-left
returns-in-Ok-clause-left c =
    let s = c.self.invariant in
    let n = length-contents c.self.inside.segment c.self.inside.enqueue c.self.inside.left c.self.inside.held c.self.inside.counts s.left_fits s.held_fits s.counted in
    let v = ap (λ (r : Ring). length (contents r.line)) c.self.view_is in
    omega (arith, c.if-self-eq0.false)
