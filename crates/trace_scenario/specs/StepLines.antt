-- Which lines of a text say steps.
use Rattle.std.specs.Prelude.{ℕ, ◌+◌, ◌==◌, nat_lt, Bool, List, [], ◌∷◌, length, Option, Some, None, if◌then◌else◌}
use Rattle.std.specs.List.{slice_split}
use Rattle.trace_scenario.specs.declared.lined.NumberedLine.{NumberedLine}
use Rattle.trace_scenario.specs.declared.scenario.Scenario.{Scenario}
use Rattle.trace_scenario.specs.Scenario.{nothing_said, with_text}

-- a line's number and its bytes
abbrev pub numbered : NumberedLine → ℕ × List ℕ
numbered line = (line.number, line.text.now)

-- whether the plan of a scenario grew
abbrev pub has_grown : Scenario → Scenario → Bool
has_grown s t = nat_lt (length s.plan) (length t.plan)

-- the lines that say steps, from one on that leads here: it is one of them if the plan grew
abbrev pub step_lines_past : ℕ → Scenario → List ℕ → (Scenario → List (ℕ × List ℕ)) → Option Scenario → List (ℕ × List ℕ)
step_lines_past at s text further None = []
step_lines_past at s text further (Some t) = if has_grown s t then (at, text) ∷ further t else further t

-- those of some lines behind others, of which the first has this number, up to the first that isn't taken
unfoldable pub step_lines_from : ℕ → Scenario → List (List ℕ) → List (ℕ × List ℕ)
step_lines_from at s [] = []
step_lines_from at s (text ∷ texts) = step_lines_past at s text (λ t. step_lines_from (at + 1) t texts) (with_text s text)

-- the lines of a text that say steps, each with its number
abbrev pub step_lines : List ℕ → List (ℕ × List ℕ)
step_lines text = step_lines_from 1 nothing_said (slice_split (λ b. b == 10) text)
