-- All cells are nobody's.
use Rattle.std.proofs.Common.{None}
use Rattle.reference.proofs.Tables.{cells_same}
use Rattle.reference.proofs.table.Table+Option+Name.unclaimed.Goals as goal

pub returns : goal.returns
returns c = cells_same None c.loop.cells.items c.loop.invariant.unheld
