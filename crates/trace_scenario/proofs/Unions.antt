-- The bits of names, read one after another.
use Rattle.std.proofs.Common.{◌≡◌, ℕ, ◌+◌, ◌<◌, ◌≤◌, List, ◌∷◌, length, get_or, drop, Some, None, bit_or, sym, ◌∙◌, ap}
use Rattle.std.specs.Option.{option_and_then}
use Rattle.std.proofs.lemmas.List.{at_drop_more, at_drop_all}
use Rattle.bitflags.specs.Sets.{find_name}
use Rattle.trace_scenario.specs.Names.{union_from}

-- what a name says of the union from it on
more : (table : List (List ℕ × ℕ)) (bits : ℕ) (names : List (List ℕ)) (i : ℕ) (name : List ℕ)
    → (i < length names) × (name ≡ get_or names i name)
    → union_from table bits (drop i names)
    ≡ option_and_then (λ bit. union_from table (bit_or bits bit) (drop (i + 1) names)) (find_name table name)
unfolding union_from
more table bits names i name here =
    at_drop_more (union_from table bits) names i name here.0
    ∙ ap (λ n. union_from table bits (n ∷ drop (i + 1) names)) (sym here.1)

-- a word that is no name has no union
pub unknown : (table : List (List ℕ × ℕ)) (bits : ℕ) (names : List (List ℕ)) (i : ℕ) (name : List ℕ)
    → (i < length names) × (name ≡ get_or names i name)
    → find_name table name ≡ None → union_from table bits (drop i names) ≡ None
unknown table bits names i name here none = more table bits names i name here ∙ ap (option_and_then _) none

-- a name's bits are added
pub known : (table : List (List ℕ × ℕ)) (bits bit : ℕ) (names : List (List ℕ)) (i : ℕ) (name : List ℕ)
    → (i < length names) × (name ≡ get_or names i name)
    → find_name table name ≡ Some bit
    → union_from table bits (drop i names) ≡ union_from table (bit_or bits bit) (drop (i + 1) names)
known table bits bit names i name here some = more table bits names i name here ∙ ap (option_and_then _) some

-- behind the last name the bits are those that are there
pub ended : (table : List (List ℕ × ℕ)) (bits : ℕ) (names : List (List ℕ)) (i : ℕ) → length names ≤ i
    → union_from table bits (drop i names) ≡ Some bits
unfolding union_from
ended table bits names i end = at_drop_all (union_from table bits) names i end
