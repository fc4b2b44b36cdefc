-- The places below are freed.
use Rattle.std.proofs.Common.{◌≡◌, ℕ, nat_lt, slice_index_or, None}
use Rattle.std.specs.Prelude.{if◌then◌else◌}
use Rattle.reference.specs.Tables.{freed}
use Rattle.reference.proofs.table.Table+Option+Name.free.Given as goal

abbrev pub invariant-loop-at : goal.invariant-loop-at
invariant-loop-at l = (k : ℕ) → slice_index_or l.self k None ≡ (if nat_lt k l.at then freed l.fn.h (slice_index_or l.initial.self k None) else slice_index_or l.initial.self k None)
