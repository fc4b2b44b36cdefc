-- As many cells as turns.
use Rattle.std.proofs.Common.{◌≡◌, length}
use Rattle.reference.proofs.table.Table+Endpoint.blank.Given as goal

abbrev pub invariant-loop : goal.invariant-loop
invariant-loop l = length l.cells.items ≡ l.counter
