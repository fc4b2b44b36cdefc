use Rattle.std.proofs.Common.{arith, ap}
use Rattle.usb_rings.specs.Line.{used}
use Rattle.usb_rings.specs.View.{Ring}
use Rattle.usb_rings.proofs.Views.{used-is}
use Rattle.usb_rings.proofs.transfer_ring.TransferRing.used.Goals as goal

pub returns-then-self-clause-value : goal.returns-then-self-clause-value
returns-then-self-clause-value c =
    let u = used-is c.self.inside.segment c.self.inside.enqueue c.self.inside.left c.self.inside.held c.self.inside.counts c.self.invariant.counted in
    let v = ap (λ (r : Ring). used r.line) c.self.view_is in
    omega arith

pub returns-else-self-clause-value : goal.returns-else-self-clause-value
returns-else-self-clause-value c =
    let u = used-is c.self.inside.segment c.self.inside.enqueue c.self.inside.left c.self.inside.held c.self.inside.counts c.self.invariant.counted in
    let v = ap (λ (r : Ring). used r.line) c.self.view_is in
    omega arith
