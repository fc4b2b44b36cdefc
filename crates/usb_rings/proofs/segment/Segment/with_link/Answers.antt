use Rattle.std.proofs.Common.{◌≡◌, ◌+◌, ◌∙◌, suc, replicate, ap, arith, ℕ}
use Rattle.std.specs.List.{each_same}
use Rattle.usb_rings.specs.Memory.{zeros}
use Rattle.usb_rings.proofs.Fresh.{made-link}
use Rattle.usb_rings.proofs.segment.Segment.with_link.Goals as goal

pub returns : goal.returns
returns g c =
    let one : g.row.N + 1 ≡ suc g.row.N = omega arith in
    let made : c.in_ok-cells.cells.items ≡ replicate (suc g.row.N) zeros =
    c.in_ok-cells.ensures.items_if_clones_equal (λ y h. each_same zeros y h.whole) ∙ ap (λ (n : ℕ). replicate n zeros) one in
    made-link g.row.N c.args.base c.in_ok-cells.cells.items c.link.result made c.link.ensures
