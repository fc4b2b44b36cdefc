-- As many values as turns, and none is an errand.
use Rattle.std.proofs.Common.{◌≡◌, ℕ, length, slice_index_or, None}
use Rattle.usb_tables.proofs.outstanding.Outstanding.new.Given as goal

abbrev pub invariant-loop : goal.invariant-loop
invariant-loop l = record { count : length l.errands.items ≡ l.counter; none : (k : ℕ) → slice_index_or l.errands.items k None ≡ None }
