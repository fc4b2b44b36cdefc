-- Packets that stand one behind another in one buffer.
use Rattle.std.specs.Prelude.{◌≡◌, ℕ, zero, suc, ◌*◌, ◌≤◌, length, List, [], ◌∷◌, slice_index}
use Rattle.std.specs.List.{slice_range}

-- the packets, for how many there is room, and for how many bytes in each
pub record Taken : Type 0 where
  pub packets : List (List ℕ)
  pub places : ℕ
  pub size : ℕ

-- the bytes from one end to the next, from `start` on
unfoldable pub cut_at : ℕ → List ℕ → List ℕ → List (List ℕ)
cut_at start [] bytes = []
cut_at start (end ∷ ends) bytes = slice_range bytes start end ∷ cut_at end ends bytes

-- where the packet of this index begins
abbrev pub start_of : ℕ → List ℕ → ℕ → ℕ
start_of start ends zero = start
start_of start ends (suc i) = slice_index ends i

-- each end stands at or behind the one before it, and the last at `last`
abbrev pub Ascends : ℕ → List ℕ → ℕ → Type 0
Ascends start [] last = start ≡ last
Ascends start (end ∷ ends) last = (start ≤ end) × Ascends end ends last

-- the buffer has the packets up to the last end, and room for as many of this size as there is room for ends
pub record IsTaken (bytes ends : List ℕ) (size room places : ℕ) : Type 0 where
  pub ascends : Ascends 0 ends (length bytes)
  pub used : length bytes ≤ length ends * size
  pub reserved : places * size ≤ room
