-- The rules that the plain program keeps.
use Rattle.std.specs.Prelude.{ℕ, List, [], slice_index_or}
use Rattle.usb_model.specs.declared.verdict.Rule.{Rule}
use Rattle.usb_model.specs.World.Plans.{once_only}

-- the rule of a number among a name's
abbrev pub rule_at : List Rule → ℕ → Rule
rule_at rules n = slice_index_or rules n once_only

-- the rule of a number of a name
abbrev pub book_at : List (List Rule) → ℕ → ℕ → Rule
book_at book h n = rule_at (slice_index_or book h []) n
