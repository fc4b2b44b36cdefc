-- String descriptors (USB 2.0, 9.6.7).
use Rattle.std.specs.Prelude.{ℕ, ◌+◌, ◌%◌, ◌==◌, nat_le, ◌&&◌, List, [], ◌∷◌, codes, drop, length, Option, Some, None, if◌then◌else◌}
use Rattle.std.specs.List.{flat_map}
use Rattle.std.specs.Option.{option_and_then}
use Rattle.usb_scripttext.specs.Number.{bytes_of}
use Rattle.usb_scripttext.specs.Prefix.{behind}

-- each byte of a text as a unit of UTF-16, the lower byte first
abbrev pub wide : List ℕ → List ℕ
wide text = flat_map (λ b. b ∷ 0 ∷ []) text

-- some words, each behind a space
abbrev pub spaced : List (List ℕ) → List ℕ
spaced words = flat_map (λ word. 32 ∷ 0 ∷ wide word) words

-- the descriptor of a text in ASCII: length, type, and its units, of which the first space is none
unfoldable pub string_of : List (List ℕ) → Option (List ℕ)
string_of words = if nat_le (length (spaced words)) 255 && nat_le 2 (length (spaced words)) then Some (length (spaced words) ∷ 3 ∷ drop 2 (spaced words)) else None

-- the descriptor of these units
unfoldable pub units_of : List ℕ → Option (List ℕ)
units_of digits = option_and_then (λ units. if nat_le (length units) 252 && (length units % 2 == 0) then Some ((2 + length units) ∷ 3 ∷ units) else None) (bytes_of digits)

-- that of the words of a text, or of its units
abbrev pub text_by : List (List ℕ) → Option (List ℕ) → Option (List ℕ)
text_by words (Some digits) = units_of digits
text_by words None = string_of words

unfoldable pub text_of : List (List ℕ) → Option (List ℕ)
text_of [] = None
text_of (first ∷ words) = text_by (first ∷ words) (behind (codes "u:") first)
