use Rattle.std.proofs.Common.{◌≡◌, replicate}
use Rattle.std.specs.List.{each_same}
use Rattle.usb_rings.specs.Memory.{zeros}
use Rattle.usb_rings.proofs.Fresh.{made-none}
use Rattle.usb_rings.proofs.segment.Segment.without_link.Goals as goal

pub returns : goal.returns
returns g c =
    let made : c.in_ok-cells.cells.items ≡ replicate g.row.N zeros = c.in_ok-cells.ensures.items_if_clones_equal (λ y h. each_same zeros y h.whole) in
    made-none g.row.N c.args.base c.in_ok-cells.cells.items made
