use Rattle.std.proofs.Common.{ap, length, sym, ◌∙◌}
use Rattle.usb_rings.specs.Ring.{Ring}
use Rattle.usb_rings.proofs.Rings.{length-waits}
use Rattle.usb_rings.proofs.event_ring.Ring.len.Goals as goal

pub returns-clause-value : goal.returns-clause-value
returns-clause-value g c =
    let r = c.self.inside in
    c.waiting.ensures ∙ sym (length-waits g.row.N r.segment r.enqueue r.dequeue) ∙ ap (λ (x : Ring). length x.waits) c.self.view_is
