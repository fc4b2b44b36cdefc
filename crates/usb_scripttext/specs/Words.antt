-- Lines, and the words that they are made of.
use Rattle.std.specs.Prelude.{ℕ, ◌==◌, nat_lt, Bool, true, List, [], ◌∷◌, map, Option, Some, None, if◌then◌else◌}
use Rattle.std.specs.List.{list_all, slice_split}
use denote.Ref.{Bor}

-- the parts of a line between its spaces
abbrev pub words_in : List ℕ → List (List ℕ)
words_in line = slice_split (λ b. b == 32) line

-- the texts of some words
abbrev pub words_of : List (Bor (List ℕ)) → List (List ℕ)
words_of words = map (λ (word : Bor (List ℕ)). word.now) words

-- whether a text is all ASCII
abbrev pub is_ascii : List ℕ → Bool
is_ascii text = list_all (λ b. nat_lt b 128) text

-- the text, where it is all ASCII
abbrev pub ascii_of : List ℕ → Option (List ℕ)
ascii_of text = if is_ascii text then Some text else None

-- whether a line says nothing: an empty one, or a comment
abbrev pub says_nothing : List ℕ → Bool
says_nothing [] = true
says_nothing (b ∷ bs) = b == 35
