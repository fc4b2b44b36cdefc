-- Names between plus signs, as sets of bits.
use Rattle.std.specs.Prelude.{ℕ, ◌==◌, List, [], ◌∷◌, Option, Some, bit_or}
use Rattle.std.specs.Option.{option_and_then}
use Rattle.std.specs.List.{slice_split}
use Rattle.bitflags.specs.Sets.{find_name}

-- the bits of some names, after those that are there
unfoldable pub union_from : List (List ℕ × ℕ) → ℕ → List (List ℕ) → Option ℕ
union_from table bits [] = Some bits
union_from table bits (name ∷ names) = option_and_then (λ bit. union_from table (bit_or bits bit) names) (find_name table name)

-- the bits of the names of a word, between its plus signs
abbrev pub union_of : List (List ℕ × ℕ) → List ℕ → Option ℕ
union_of table word = union_from table 0 (slice_split (λ b. b == 43) word)
