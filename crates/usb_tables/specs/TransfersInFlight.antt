-- The transfers in flight, as a caller sees them.
use Rattle.std.specs.Prelude.{ℕ, ◌==◌, Bool, true, false, List, [], ◌∷◌, ◌++◌, drop, Option, Some, None, is_some, slice_index_or, slice_set}
use Rattle.usb_tables.specs.declared.ended.Mark.{Mark}
use Rattle.usb_tables.specs.declared.transfer.Transfer.{Transfer}
use Rattle.usb_tables.specs.ByEndpoint.{lane_at}
use Rattle.usb_tables.specs.declared.ending.EndedTransfer.{EndedTransfer}
use Rattle.usb_tables.specs.declared.ending.Ending.{Ending}

-- a transfer that ended, and what came of it
pub record EndedOf (T : Type 0) : Type 0 where
  pub transfer : T
  pub ending : Ending

-- lines: of each lane the items, a transfer or a blank. keys: of each lane the keys of its items, none of a blank. ended: the transfers that
-- wait to be taken, the oldest first. next_key: the key of the next transfer
pub record TransfersInFlight (T : Type 0) : Type 0 where
  pub lines : List (List (Option T))
  pub keys : List (List (Option ℕ))
  pub ended : List (EndedOf T)
  pub next_key : ℕ

-- the keys of an endpoint's line
abbrev pub keys_at : List (List (Option ℕ)) → ℕ → ℕ → List (Option ℕ)
keys_at lanes d e = slice_index_or lanes (lane_at d e) []

-- with another line of keys at an endpoint
abbrev pub with_keys : List (List (Option ℕ)) → ℕ → ℕ → List (Option ℕ) → List (List (Option ℕ))
with_keys lanes d e l = slice_set lanes (lane_at d e) l

module _ {T : Type 0} where
  -- the line of an endpoint
  abbrev pub line_at : TransfersInFlight T → ℕ → ℕ → List (Option T)
  line_at v d e = slice_index_or v.lines (lane_at d e) []

  -- the transfer at a place of the line; none at a blank, and behind the line
  abbrev pub item_at : TransfersInFlight T → ℕ → ℕ → ℕ → Option T
  item_at v d e i = slice_index_or (line_at v d e) i None

  -- with another line at an endpoint
  abbrev pub with_line : TransfersInFlight T → ℕ → ℕ → List (Option T) → TransfersInFlight T
  with_line v d e l = record v { lines = slice_set v.lines (lane_at d e) l }

  -- with another transfer, or a blank, at a place of the line
  abbrev pub with_item : TransfersInFlight T → ℕ → ℕ → ℕ → Option T → TransfersInFlight T
  with_item v d e i x = with_line v d e (slice_set (line_at v d e) i x)

  -- with one item more behind the line: a transfer, and its key
  abbrev pub with_last : TransfersInFlight T → ℕ → ℕ → ℕ → T → TransfersInFlight T
  with_last v d e key t = record (with_line v d e (line_at v d e ++ Some t ∷ [])) { keys = with_keys v.keys d e (keys_at v.keys d e ++ Some key ∷ []) }

  -- with a blank in the place of an item
  abbrev pub blanked_at : TransfersInFlight T → ℕ → ℕ → ℕ → TransfersInFlight T
  blanked_at v d e i = record (with_item v d e i None) { keys = with_keys v.keys d e (slice_set (keys_at v.keys d e) i None) }

  -- without the first items of the line
  abbrev pub left_at : TransfersInFlight T → ℕ → ℕ → ℕ → TransfersInFlight T
  left_at v d e count = record (with_line v d e (drop count (line_at v d e))) { keys = with_keys v.keys d e (drop count (keys_at v.keys d e)) }

module _ {P : Type 0} where
  -- whether an item is the transfer of this number
  abbrev pub is_number : ℕ → Option (Transfer P) → Bool
  is_number n None = false
  is_number n (Some t) = t.n == n

  -- what errands read of an item
  abbrev pub mark_in : Option (Transfer P) → Mark
  mark_in None = record { blank = true; asked = false }
  mark_in (Some t) = record { blank = false; asked = is_some t.ask }

  -- a transfer that is handed out with its ending
  abbrev pub ended_of : EndedTransfer P → EndedOf (Transfer P)
  ended_of x = record { transfer = x.transfer; ending = x.ending }
