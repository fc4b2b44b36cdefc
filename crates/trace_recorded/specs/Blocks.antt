-- What is known of a block that stands whole in front of bytes.
use Rattle.std.specs.Prelude.{ℕ, ◌+◌, ◌≤◌, List, length, ⊤}
use Rattle.trace_recorded.specs.declared.block.Front.{Front}
use Rattle.trace_recorded.specs.declared.block.Front.TheVariants.{Block, Amid, Unknown}
use Rattle.trace_recorded.specs.Packets.{number_at}
use Rattle.trace_recorded.specs.Files.{fields_size}

-- it has room for its type, its two lengths and its fields, and ends within them
abbrev pub IsWithin : Front → List ℕ → Type 0
IsWithin (Block order size) bytes = (12 + fields_size (number_at order 0 4 bytes) ≤ size) × (size ≤ length bytes)
IsWithin _ bytes = ⊤
