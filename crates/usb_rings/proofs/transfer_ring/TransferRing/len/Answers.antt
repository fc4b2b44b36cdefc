use Rattle.std.proofs.Common.{ap, sym, ◌∙◌, length}
use Rattle.usb_rings.specs.View.{Ring, back}
use Rattle.usb_rings.proofs.ItemsTrbs.{length-split}
use Rattle.usb_rings.proofs.transfer_ring.TransferRing.len.Goals as goal

pub returns : goal.returns
returns c =
    c.len.ensures ∙ sym (length-split c.self.inside.segment (back c.self.inside.enqueue c.self.inside.held) c.self.inside.counts)
    ∙ ap (λ (r : Ring). length r.line.items) c.self.view_is
