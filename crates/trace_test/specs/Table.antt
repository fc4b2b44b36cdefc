-- A table of macros by their names.
use Rattle.std.specs.Prelude.{◌≡◌, ◌<◌, ℕ, List, length, Option, Some, None, option_and_then, slice_get, reverse}
use Rattle.std.specs.HashMap.{HashMap, get_by}
use Rattle.std.specs.Str.{bytes_eq}
use denote.Ref.{Bor}
use Rattle.trace_test.specs.Macros.{Macro, named}

-- where the latest macro of a name stands, as it is noted
abbrev pub place_of : {S : Type 0} → HashMap (Bor (List ℕ)) ℕ S → List ℕ → Option ℕ
place_of places name = get_by (λ (key : Bor (List ℕ)). bytes_eq name key.now) places

-- of each name the latest macro stands where that is noted, in the order in which they were closed
pub record IsTable {S : Type 0} (closed : List Macro) (places : HashMap (Bor (List ℕ)) ℕ S) : Type 0 where
  pub found : (name : List ℕ) → named (reverse closed) name ≡ option_and_then (slice_get closed) (place_of places name)
  pub within : (name : List ℕ) (place : ℕ) → place_of places name ≡ Some place → place < length closed
