-- The input.
use Rattle.std.specs.Prelude.{ℕ}

-- how many bytes an input may have
abbrev pub longest_input : ℕ
longest_input = 67108864
