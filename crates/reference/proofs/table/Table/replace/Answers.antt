-- A cell that is replaced.
use Rattle.std.proofs.Common.{◌≡◌, ◌+◌, ◌*◌, slice_index_or, arith}
use Rattle.reference.proofs.Tables.{cell_is, cell_put}
use Rattle.reference.proofs.table.Table.replace.Goals as goal

pub returns-clause-old : goal.returns-clause-old
returns-clause-old g c =
    let e : c.replace.result ≡ slice_index_or c.self.inside.cells.items (256 * c.args.dev + c.args.byte) c.replace.result = cc in
    λ other. rw (← c.self.view_is) (cell_is other c.self.inside.cells.items c.args.dev c.args.byte c.replace.result (omega arith) (omega arith) c.self.invariant e)

pub returns-clause-new : goal.returns-clause-new
returns-clause-new g c = λ other d k. rw (c.replace.ensures.after, c.place.ensures.value, ← c.self.view_is) (cell_put other c.self.inside.cells.items c.args.value c.args.dev c.args.byte d k (omega arith) (omega arith) c.self.invariant)
