-- Where the transfers of the store stand: each key at one place of a line, or among those that ended.
use Rattle.std.specs.Prelude.{◌≡◌, ℕ, ◌+◌, ◌==◌, List, [], ◌∷◌, Option, Some, None, is_some, if◌then◌else◌}
use Rattle.usb_tables.specs.Store.{Slots, count, transfer_at}
use Rattle.usb_tables.specs.declared.ending.Waiting.{Waiting}
use Rattle.usb_tables.specs.TransfersInFlight.{EndedOf, TransfersInFlight}

module _ {T : Type 0} where
  -- the transfer with a line's key; none where the line has a blank
  abbrev pub seen : Slots T → Option ℕ → Option T
  seen s None = None
  seen s (Some key) = transfer_at s key

  -- a line with its transfers in place of their keys
  unfoldable pub seen_line : Slots T → List (Option ℕ) → List (Option T)
  seen_line s [] = []
  seen_line s (x ∷ xs) = seen s x ∷ seen_line s xs

  -- the same of all lines
  unfoldable pub seen_lines : Slots T → List (List (Option ℕ)) → List (List (Option T))
  seen_lines s [] = []
  seen_lines s (l ∷ ls) = seen_line s l ∷ seen_lines s ls

  -- a transfer that ended joins others
  abbrev pub joins : Option T → Waiting → List (EndedOf T) → List (EndedOf T)
  joins None w rest = rest
  joins (Some t) w rest = record { transfer = t; ending = w.ending } ∷ rest

  -- those that ended with their transfers in place of their keys
  unfoldable pub seen_ended : Slots T → List Waiting → List (EndedOf T)
  seen_ended s [] = []
  seen_ended s (w ∷ ws) = joins (transfer_at s w.key) w (seen_ended s ws)

  -- what a caller sees
  abbrev pub seen_flights : Slots T → List (List (Option ℕ)) → List Waiting → TransfersInFlight T
  seen_flights s lanes waits = record { lines = seen_lines s lanes; keys = lanes; ended = seen_ended s waits; next_key = s.vacant_key }

-- what an item counts, where each key counts so much
abbrev pub weight : (ℕ → ℕ) → Option ℕ → ℕ
weight f None = 0
weight f (Some key) = f key

-- a line
unfoldable pub line_weight : (ℕ → ℕ) → List (Option ℕ) → ℕ
line_weight f [] = 0
line_weight f (x ∷ xs) = weight f x + line_weight f xs

-- all lines
unfoldable pub lines_weight : (ℕ → ℕ) → List (List (Option ℕ)) → ℕ
lines_weight f [] = 0
lines_weight f (l ∷ ls) = line_weight f l + lines_weight f ls

-- those that ended
unfoldable pub ended_weight : (ℕ → ℕ) → List Waiting → ℕ
ended_weight f [] = 0
ended_weight f (w ∷ ws) = f w.key + ended_weight f ws

-- one for this key
abbrev pub one_at : ℕ → ℕ → ℕ
one_at key other = if other == key then 1 else 0

-- one for each key
abbrev pub one_each : ℕ → ℕ
one_each key = 1

-- each key of a transfer stands at one place, each other key at none; so there are as many places as transfers
pub record Stands {T : Type 0} (s : Slots T) (lanes : List (List (Option ℕ))) (waits : List Waiting) : Type 0 where
  pub once : (key : ℕ) → lines_weight (one_at key) lanes + ended_weight (one_at key) waits ≡ (if is_some (transfer_at s key) then 1 else 0)
  pub all : lines_weight one_each lanes + ended_weight one_each waits ≡ count s
