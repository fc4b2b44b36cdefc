-- An owner that is read.
use Rattle.std.proofs.Common.{◌≡◌, ◌+◌, ◌*◌, slice_index_or, arith}
use Rattle.usb_tables.proofs.Owners.{owner_is}
use Rattle.usb_tables.proofs.owner_table.OwnerTable.get.Goals as goal

pub returns : goal.returns
returns c =
    let e : c.index.result.now ≡ slice_index_or c.self.inside.owners.items (256 * c.args.dev + c.args.i) c.index.result.now = cc in
    rw (← c.self.view_is) (owner_is c.self.inside.owners.items c.args.dev c.args.i c.index.result.now (omega arith) (omega arith) c.self.invariant e)
