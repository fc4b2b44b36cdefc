-- Memory that a transfer reads into.
use Rattle.std.specs.Prelude.{ℕ, Bool, true, false, List, [], vec_capacity}
use Rattle.usb_model.specs.declared.buffer.Memory.{Memory}
use Rattle.usb_model.specs.declared.buffer.Memory.TheVariants.{Own, Lent}

-- the bytes that stand in it, for how many there is room, and whether it is the caller's
pub record Buffer : Type 0 where
  pub items : List ℕ
  pub capacity : ℕ
  pub lent : Bool

-- no memory
abbrev pub no_memory : Buffer
no_memory = record { items = []; capacity = 0; lent = false }

-- what is seen of it
abbrev pub seen : Memory → Buffer
seen (Own bytes) = record { items = bytes.items; capacity = vec_capacity bytes; lent = false }
seen (Lent bytes) = record { items = bytes.items; capacity = vec_capacity bytes; lent = true }
