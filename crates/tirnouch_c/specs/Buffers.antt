-- Bytes in C's buffers.
use Rattle.std.specs.Prelude.{ℕ, ℤ, pos, ◌++◌, List, drop, length, min, take}

-- a count as an answer, as far as it fits
abbrev pub answer_of : ℕ → ℤ
answer_of count = pos (min count 2147483647)

-- how many bytes there is room for
abbrev pub taken_count : (bytes old : List ℕ) → ℕ
taken_count bytes old = min (length bytes) (length old)

-- a buffer with these bytes at its front, as far as there is room
abbrev pub filled : (bytes old : List ℕ) → List ℕ
filled bytes old = take (taken_count bytes old) bytes ++ drop (taken_count bytes old) old
