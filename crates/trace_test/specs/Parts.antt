-- A text's parts around a shorter text in it.
use Rattle.std.specs.Prelude.{ℕ, ◌+◌, List, length, take, drop, Option}
use Rattle.std.specs.Option.{option_map}
use Rattle.memchr.specs.Find.{first_of, matches}
use denote.Ref.{Bor}

-- what stands in front of the first such text in another, and behind it; None where there is none in it
abbrev pub parts_around : List ℕ → List ℕ → Option (List ℕ × List ℕ)
parts_around middle text = option_map (λ at. (take at text, drop (at + length middle) text)) (first_of (matches text middle 0))

-- such parts, as they are lent
abbrev pub lent_parts : Option (Bor (List ℕ) × Bor (List ℕ)) → Option (List ℕ × List ℕ)
lent_parts parts = option_map (λ (p : Bor (List ℕ) × Bor (List ℕ)). (p.0.now, p.1.now)) parts
