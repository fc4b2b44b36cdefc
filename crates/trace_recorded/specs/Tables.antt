-- Values by number, in a list by rising number.
use Rattle.std.specs.Prelude.{ℕ, List, Option}
use Rattle.std.specs.Map.{lookup, remove_entry}
use Rattle.std.specs.BTreeMap.{insert_entry, is_at}
use Rattle.std.specs.Ordering.{nat_cmp}

-- the value of a number, where it has one
abbrev pub value_at : {V : Type 0} → ℕ → List (ℕ × V) → Option V
value_at number table = lookup (is_at (nat_cmp number)) table

-- the others
abbrev pub without : {V : Type 0} → ℕ → List (ℕ × V) → List (ℕ × V)
without number table = remove_entry (is_at (nat_cmp number)) table

-- with this value at the number, in place of any other
abbrev pub with_value : {V : Type 0} → ℕ → V → List (ℕ × V) → List (ℕ × V)
with_value number value table = insert_entry nat_cmp table number value
