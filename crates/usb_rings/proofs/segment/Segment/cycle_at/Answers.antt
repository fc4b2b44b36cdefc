use Rattle.std.proofs.Common.{◌≡◌}
use Rattle.usb_rings.specs.Memory.{Memory, cell}
use Rattle.usb_rings.proofs.Types.{cycle-read, cell-read}
use Rattle.usb_rings.proofs.segment.Segment.cycle_at.Goals as goal

pub returns : goal.returns
returns g c =
    let m : Memory = record { base = c.self.inside.base; cells = c.self.inside.cells.items } in
    let there : c.index-2.result.now ≡ cell g.row.N c.args.self.now c.args.place =
    cell-read g.row.N m c.args.self.now c.args.place c.index.result c.index-2.result.now c.index.ensures.below c.self.invariant.cells c.index.ensures.value c.index-2.ensures c.self.view_is in
    cycle-read c.index-2.result.now (cell g.row.N c.args.self.now c.args.place) there
