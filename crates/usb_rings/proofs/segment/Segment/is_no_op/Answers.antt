use Rattle.std.proofs.Common.{◌≡◌, sym, ap, ◌∙◌, nat_eq, List, ℕ}
use Rattle.usb_trb.specs.Read.{type_in}
use Rattle.usb_rings.specs.Memory.{Memory, cell}
use Rattle.usb_rings.proofs.Types.{cell-read}
use Rattle.usb_rings.proofs.segment.Segment.is_no_op.Goals as goal

pub returns : goal.returns
returns g c =
    let m : Memory = record { base = c.self.inside.base; cells = c.self.inside.cells.items } in
    let there : c.index-2.result.now ≡ cell g.row.N c.args.self.now c.args.place =
    cell-read g.row.N m c.args.self.now c.args.place c.index.result c.index-2.result.now c.index.ensures.below c.self.invariant.cells c.index.ensures.value c.index-2.ensures c.self.view_is in
    record {
      read = c.is_no_op.ensures.read ∙ ap (λ (xs : List ℕ). nat_eq (type_in xs) 8) there;
      told = λ t h e. c.is_no_op.ensures.told t h (e ∙ sym there);
    }
