-- The store of transfers in flight, as a caller sees it.
use Rattle.std.specs.Prelude.{◌≡◌, ◌≢◌, ℕ, List, Option, Some, None, is_some, count_by, slice_index_or, slice_set}

-- the transfer or nothing at each key from 0 on, and the key of the next transfer
pub record Slots (T : Type 0) : Type 0 where
  pub slots : List (Option T)
  pub vacant_key : ℕ

module _ {T : Type 0} where
  -- the transfer with this key
  abbrev pub transfer_at : Slots T → ℕ → Option T
  transfer_at v key = slice_index_or v.slots key None

  -- how many there are
  abbrev pub count : Slots T → ℕ
  count v = count_by is_some v.slots

  -- the store after a write to the transfer with this key
  abbrev pub with_transfer : Slots T → ℕ → T → Slots T
  with_transfer v key t = record v { slots = slice_set v.slots key (Some t) }

  -- the new store has this at the key, and at every other key what it had
  pub record Updates (old new : Slots T) (key : ℕ) (slot : Option T) : Type 0 where
    pub changed : transfer_at new key ≡ slot
    pub others : (other : ℕ) → other ≢ key → transfer_at new other ≡ transfer_at old other
