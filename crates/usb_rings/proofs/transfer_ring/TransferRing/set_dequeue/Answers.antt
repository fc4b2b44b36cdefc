use Rattle.std.proofs.Common.{◌≡◌, ◌<◌, refl, arith, ap, sym, ◌∙◌, length}
use Rattle.usb_rings.specs.Line.{all_of, moved_behind}
use Rattle.usb_rings.specs.View.{Ring}
use Rattle.usb_rings.proofs.Changes.{moved_behind-is}
use Rattle.usb_rings.proofs.Holders.{length-held}
use Rattle.usb_rings.proofs.transfer_ring.TransferRing.set_dequeue.Goals as goal

pub returns-in_default-clause-found : goal.returns-in_default-clause-found
returns-in_default-clause-found c = λ n few h.
    let s = c.self.invariant in
    let v = ap (λ (r : Ring). length (all_of r.line.items)) c.self.view_is in
    let all = length-held c.self.inside.segment c.self.inside.enqueue c.self.inside.held c.self.inside.counts s.counted in
    let held_fits = s.held_fits in
    let near : n < 127 = omega arith in
    let told = c.behind_first.ensures.found n near (c.address.ensures.value ∙ h) in
    absurd (c.in_default.not-Some n told)

pub returns-then-self-ahead-clause-found : goal.returns-then-self-ahead-clause-found
returns-then-self-ahead-clause-found c = λ n few h.
    let s = c.self.invariant in
    let v = ap (λ (r : Ring). length (all_of r.line.items)) c.self.view_is in
    let all = length-held c.self.inside.segment c.self.inside.enqueue c.self.inside.held c.self.inside.counts s.counted in
    let held_fits = s.held_fits in
    let near : n < 127 = omega arith in
    let told = c.behind_first.ensures.found n near (c.address.ensures.value ∙ h) in
    let same : n ≡ c.in-Some.ahead = cc in
    let past = c.if-self-ahead.true in
    absurd (omega arith)

pub returns-clause-found : goal.returns-clause-found
returns-clause-found c = λ n few h.
    let s = c.self.invariant in
    let v = ap (λ (r : Ring). length (all_of r.line.items)) c.self.view_is in
    let all = length-held c.self.inside.segment c.self.inside.enqueue c.self.inside.held c.self.inside.counts s.counted in
    let held_fits = s.held_fits in
    let near : n < 127 = omega arith in
    let told = c.behind_first.ensures.found n near (c.address.ensures.value ∙ h) in
    let same : c.in-Some.ahead ≡ n = cc in (
      refl,
      moved_behind-is c.self.inside.segment c.self.inside.enqueue c.self.inside.left c.self.inside.held c.in-Some.ahead c.self.inside.counts s.place s.left_fits s.held_fits c.if-self-ahead.false
          ∙ ap (λ (r : Ring). moved_behind r.line c.in-Some.ahead) c.self.view_is ∙ ap (moved_behind c.args.self.now.line) same,
    )

pub returns-clause-known : goal.returns-clause-known
returns-clause-known c = λ told.
    let v = ap (λ (r : Ring). length (all_of r.line.items)) c.self.view_is in
    let all = length-held c.self.inside.segment c.self.inside.enqueue c.self.inside.held c.self.inside.counts c.self.invariant.counted in
    (c.in-Some.ahead, omega (arith, c.if-self-ahead.false), sym c.address.ensures.value ∙ c.in-Some.ensures.known.1)
