-- Cleared memory is that of a ring as it is made.
use Rattle.std.proofs.Common.{◌∙◌, ap, length}
use Rattle.usb_rings.specs.Ring.{Ring, empty}
use Rattle.usb_rings.proofs.Rings.{made-memory, renewed-empty, unused-sound}
use Rattle.usb_rings.proofs.event_ring.Ring.renew.Goals as goal

pub invariant_of-self : goal.invariant_of-self
invariant_of-self g c =
    let width = c.self.invariant.width_fits in
    unused-sound g.row.N c.clear.new.self width
    (made-memory g.row.N (length c.self.inside.segment.cells) c.self.inside.segment.base c.clear.new.self width.0 c.self.invariant.memory.cells c.clear.ensures)

pub returns : goal.returns
returns g c =
    renewed-empty g.row.N c.self.inside.segment c.clear.new.self c.self.invariant.width_fits.0 c.clear.ensures
    ∙ ap (λ (r : Ring). empty g.row.N (length r.memory.cells) r.memory.base) c.self.view_is
