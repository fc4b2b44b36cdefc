-- Words that stand for many: answers that repeat, and the words that they are when they are written out.
use Rattle.std.specs.Prelude.{ℕ, ◌-◌, ◌==◌, nat_le, nat_lt, Bool, List, ◌∷◌, [], ◌++◌, codes, get_or, length, replicate, take, Option, Some, None, if◌then◌else◌}
use Rattle.std.specs.List.{after_first, before_first, flat_map, position_or_len}
use Rattle.std.specs.Option.{option_and_then, option_map}
use Rattle.std.specs.Str.{bytes_eq}
use Rattle.usb_model.specs.Limits.{longest_script}
use Rattle.usb_scripttext.specs.Number.{number_of}

-- how often a word stands: a decimal number, 1 to as many as a script may have answers
unfoldable pub times_of : List ℕ → Option ℕ
times_of word = option_and_then (λ n. if n == 0 then None else Some n) (number_of longest_script word)

-- a word that says how often it stands: what is before its first star (42), and the number behind that
unfoldable pub repeat_of : List ℕ → Option (List ℕ × ℕ)
repeat_of word =
    if nat_lt (position_or_len (λ b. b == 42) word) (length word)
    then option_map (λ n. (before_first (λ b. b == 42) word, n)) (times_of (after_first (λ b. b == 42) word))
    else None

-- a word without how often it stands
abbrev pub one_by : List ℕ → Option (List ℕ × ℕ) → List ℕ
one_by word None = word
one_by word (Some r) = r.0

abbrev pub one_of : List ℕ → List ℕ
one_of word = one_by word (repeat_of word)

-- so many of a word; another word stands once, as it is
abbrev pub copies_by : List ℕ → Option (List ℕ × ℕ) → List (List ℕ)
copies_by word None = word ∷ []
copies_by word (Some r) = replicate r.1 r.0

abbrev pub copies_of : List ℕ → List (List ℕ)
copies_of word = copies_by word (repeat_of word)

-- some words, each as often as it stands
abbrev pub all_copies : List (List ℕ) → List (List ℕ)
all_copies words = flat_map copies_of words

-- the last of some words; an empty one where there is none
abbrev pub last_of : List (List ℕ) → List ℕ
last_of words = get_or words (length words - 1) []

-- whether the last word says that the answer before it stays
abbrev pub stays : List (List ℕ) → Bool
stays words = bytes_eq (last_of words) (codes "..")

-- some words, and the last of them again until there are as many as a script may have answers
abbrev pub filled : List (List ℕ) → List (List ℕ)
filled words = words ++ replicate (longest_script - length words) (last_of words)

-- some words as they are when each is written out as often as it stands
unfoldable pub written_out : List (List ℕ) → List (List ℕ)
written_out words = if stays words then filled (all_copies (take (length words - 1) words)) else all_copies words

-- these words, where they aren't more than a script may have answers
abbrev pub few_of : List (List ℕ) → Option (List (List ℕ))
few_of words = if nat_le (length words) longest_script then Some words else None
