-- The lines of a text, one behind another.
use Rattle.std.specs.Prelude.{ℕ, ◌+◌, ◌==◌, List, [], ◌∷◌, Option, Some, None, Result, Ok, Err}
use Rattle.std.specs.List.{slice_split}

-- the lines of a text
abbrev pub lines_in : List ℕ → List (List ℕ)
lines_in text = slice_split (λ b. b == 10) text

-- what follows a line that is taken; the number of one that isn't
abbrev pub taken_at : {S : Type 0} → ℕ → (S → Result S ℕ) → Option S → Result S ℕ
taken_at at further None = Err at
taken_at at further (Some s) = further s

-- what some lines make of a value, each by f, where the first has this number; or the number of the first that isn't taken
unfoldable pub from_lines : {S : Type 0} → (S → List ℕ → Option S) → ℕ → S → List (List ℕ) → Result S ℕ
from_lines f at s [] = Ok s
from_lines f at s (text ∷ texts) = taken_at at (λ t. from_lines f (at + 1) t texts) (f s text)
