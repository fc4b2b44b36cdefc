use Rattle.std.proofs.Common.{◌<◌, ◌-◌, ◌++◌, ◌∷◌, [], ◌∙◌, ap, arith, length}
use Rattle.usb_rings.specs.Places.{after}
use Rattle.usb_rings.specs.Ring.{Ring, between}
use Rattle.usb_rings.proofs.Rings.{length-waits, posted-sound, posted-waits}
use Rattle.usb_rings.proofs.event_ring.Ring.post.Goals as goal

pub invariant_of-self : goal.invariant_of-self
invariant_of-self g c =
    let r = c.self.inside in
    let v = ap (λ (x : Ring). length x.waits) c.self.view_is in
    let few : between g.row.N r.dequeue r.enqueue < g.row.N - 1 = omega (arith, v, length-waits g.row.N r.segment r.enqueue r.dequeue, c.requires) in
    rw (c.put.ensures.put, c.place_after-next.ensures.value) (posted-sound g.row.N r.segment r.enqueue r.dequeue c.args.kind c.self.invariant c.put.ensures.ranges few)

pub returns-clause-list : goal.returns-clause-list
returns-clause-list g c =
    let r = c.self.inside in
    let v = ap (λ (x : Ring). length x.waits) c.self.view_is in
    let few : between g.row.N r.dequeue r.enqueue < g.row.N - 1 = omega (arith, v, length-waits g.row.N r.segment r.enqueue r.dequeue, c.requires) in
    rw (c.put.ensures.put, c.place_after-next.ensures.value) (
      ap (λ (x : Ring). after g.row.N x.posted 1) c.self.view_is,
      posted-waits g.row.N r.segment r.enqueue r.dequeue c.args.kind c.self.invariant c.put.ensures.ranges few
          ∙ ap (λ (x : Ring). x.waits ++ c.args.kind ∷ []) c.self.view_is,
    )
