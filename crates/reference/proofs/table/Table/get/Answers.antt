-- A cell that is read.
use Rattle.std.proofs.Common.{◌≡◌, ◌+◌, ◌*◌, slice_index_or, arith}
use Rattle.reference.proofs.Tables.{cell_is}
use Rattle.reference.proofs.table.Table.get.Goals as goal

pub returns : goal.returns
returns g c =
    let e : c.index.result.now ≡ slice_index_or c.self.inside.cells.items (256 * c.args.dev + c.args.byte) c.index.result.now = cc in
    λ other. rw (← c.self.view_is) (cell_is other c.self.inside.cells.items c.args.dev c.args.byte c.index.result.now (omega arith) (omega arith) c.self.invariant e)
