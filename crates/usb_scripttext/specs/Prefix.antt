-- Words that begin as they have to.
use Rattle.std.specs.Prelude.{ℕ, nat_eq, List, length, drop, Option, Some, None, if◌then◌else◌}
use Rattle.std.specs.List.{starts_with}

-- what stands behind the beginning of a word
abbrev pub behind : List ℕ → List ℕ → Option (List ℕ)
behind begin word = if starts_with nat_eq word begin then Some (drop (length begin) word) else None
