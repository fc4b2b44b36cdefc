use Rattle.std.proofs.Common.{ap, arith, length}
use Rattle.usb_rings.specs.Ring.{Ring}
use Rattle.usb_rings.proofs.Rings.{length-waits}
use Rattle.usb_rings.proofs.event_ring.Ring.room.Goals as goal

pub returns : goal.returns
returns g c =
    let r = c.self.inside in
    let v = ap (λ (x : Ring). length x.waits) c.self.view_is in
    omega (arith, v, length-waits g.row.N r.segment r.enqueue r.dequeue, c.waiting-waiting.ensures)
