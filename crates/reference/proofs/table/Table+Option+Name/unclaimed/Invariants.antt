-- As many cells as turns, and nobody holds one.
use Rattle.std.proofs.Common.{◌≡◌, ℕ, length, slice_index_or, None}
use Rattle.reference.proofs.table.Table+Option+Name.unclaimed.Given as goal

abbrev pub invariant-loop : goal.invariant-loop
invariant-loop l = record { count : length l.cells.items ≡ l.counter; unheld : (k : ℕ) → slice_index_or l.cells.items k None ≡ None }
