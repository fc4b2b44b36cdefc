-- Places of a ring's segment (xHCI 1.2, 4.9.2). They are counted on from the making of the ring, over two turns of the segment's width: the
-- place behind the last of the second turn is 0 again, as which it has the same index and the same cycle.
use Rattle.std.specs.Prelude.{ℕ, ◌+◌, ◌*◌, ◌%◌, ◌<◌, ◌≤◌, Bool, nat_lt}

-- the place so many behind a place
abbrev pub after : ℕ → ℕ → ℕ → ℕ
after width p n = (p + n) % (width + width)

-- the index in memory of a place
abbrev pub index_of : ℕ → ℕ → ℕ
index_of width p = p % width

-- the cycle of a place: true in the first turn, false in the second
abbrev pub cycle_of : ℕ → ℕ → Bool
cycle_of width p = nat_lt (p % (width + width)) width

-- the address of a place
abbrev pub address_of : ℕ → ℕ → ℕ → ℕ
address_of width base p = base + 16 * index_of width p

-- a segment has at least one place, and at most 4,096 (xHCI 1.2, 6.5)
abbrev pub IsWidth : ℕ → Type 0
IsWidth width = (0 < width) × (width ≤ 4096)
