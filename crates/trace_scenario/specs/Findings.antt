-- The bad lines of a text, where each is skipped.
use Rattle.std.specs.Prelude.{ℕ, ◌+◌, ◌==◌, List, [], ◌∷◌, ◌++◌, Option, Some, None, unwrap_or}
use Rattle.std.specs.List.{slice_split}
use Rattle.trace_scenario.specs.declared.scenario.Scenario.{Scenario}
use Rattle.trace_scenario.specs.Scenario.{nothing_said, with_text}

-- the scenario behind a line: with what the line says, or as it was where the line is bad
abbrev pub behind_line : Scenario → List ℕ → Scenario
behind_line s text = unwrap_or (with_text s text) s

-- the number of a line that says nothing it may say
abbrev pub bad_number : ℕ → Option Scenario → List ℕ
bad_number at None = at ∷ []
bad_number at (Some s) = []

-- the number of a line of which a problem is noted
abbrev pub noted_number : {P : Type 0} → ℕ → Option P → List ℕ
noted_number at None = []
noted_number at (Some problem) = at ∷ []

-- the numbers of the bad lines among some behind others, of which the first has this number
unfoldable pub bad_from : ℕ → Scenario → List (List ℕ) → List ℕ
bad_from at s [] = []
bad_from at s (text ∷ texts) = bad_number at (with_text s text) ++ bad_from (at + 1) (behind_line s text) texts

-- the scenario of the good lines among some behind others
unfoldable pub good_from : Scenario → List (List ℕ) → Scenario
good_from s [] = s
good_from s (text ∷ texts) = good_from (behind_line s text) texts

-- the numbers of the bad lines of a text, whose lines are counted from 1
abbrev pub bad_lines : List ℕ → List ℕ
bad_lines text = bad_from 1 nothing_said (slice_split (λ b. b == 10) text)

-- the scenario of the good lines of a text
abbrev pub good_lines : List ℕ → Scenario
good_lines text = good_from nothing_said (slice_split (λ b. b == 10) text)
