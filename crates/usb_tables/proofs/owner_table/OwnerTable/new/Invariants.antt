-- As many owners as turns, and nobody holds an interface.
use Rattle.std.proofs.Common.{◌≡◌, ℕ, length, slice_index_or, None}
use Rattle.usb_tables.proofs.owner_table.OwnerTable.new.Given as goal

abbrev pub invariant-loop : goal.invariant-loop
invariant-loop l = record { count : length l.owners.items ≡ l.counter; unheld : (k : ℕ) → slice_index_or l.owners.items k None ≡ None }
