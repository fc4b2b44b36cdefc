-- As many names as turns, and none has a device open.
use Rattle.std.proofs.Common.{◌≡◌, ℕ, length, slice_index_or, None}
use Rattle.usb_tables.proofs.open_table.OpenTable.new.Given as goal

abbrev pub invariant-loop : goal.invariant-loop
invariant-loop l = record { count : length l.devices.items ≡ l.counter; closed : (k : ℕ) → slice_index_or l.devices.items k None ≡ None }
