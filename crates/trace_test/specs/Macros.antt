-- Macros of a test's own, and the test that its lines stand for without them.
use Rattle.std.specs.Prelude.{ℕ, true, false, nat_le, ◌+◌, ◌-◌, ◌*◌, ◌==◌, ◌&&◌, ◌||◌, ◌++◌, Bool, not, is_some, List, [], ◌∷◌, map, length, take, drop, replicate, codes, slice_get, Option, Some, None, option_and_then, unwrap_or, if◌then◌else◌}
use Rattle.std.specs.Bool.{then_some}
use Rattle.std.specs.List.{count_by, find, flat_map, list_all, repeat, slice_split}
use Rattle.std.specs.Str.{bytes_eq}
use Rattle.usb_scripttext.specs.Number.{u32_of}
use Rattle.usb_scripttext.specs.Prefix.{behind}
use Rattle.usb_scripttext.specs.Words.{says_nothing, words_in}
use Rattle.trace_test.specs.Comparison.{first_text}
use Rattle.trace_test.specs.Expanded.{Expansion, lines_in, most_times, nothing_added, text_of}
use Rattle.trace_test.specs.Expected.{expected_of}
use Rattle.trace_test.specs.Parts.{parts_around}

-- a macro: the number of its first line, that line, its name, and the text of its body, each line of which ends with a line feed
pub record Macro : Type 0 where
  pub at : ℕ
  pub line : List ℕ
  pub name : List ℕ
  pub body : List ℕ

-- what is known at a line of a test: the macros that were closed, the latest first; the one that is begun and not closed; how many more bytes lines may stand for; and what the lines before it stand for
pub record Known : Type 0 where
  pub closed : List Macro
  pub begun : Option Macro
  pub room : ℕ
  pub unrolled : Expansion

-- how many lines a body has at most, and how many bytes a test's lines stand for at most, those of its macros' bodies among them
abbrev pub most_lines : ℕ
most_lines = 65536

abbrev pub most_bytes : ℕ
most_bytes = 67108864

-- the parts of a body between its `$`
abbrev pub parts_in : List ℕ → List (List ℕ)
parts_in body = slice_split (λ b. b == 36) body

-- how many lines of a text end
abbrev pub line_count : List ℕ → ℕ
line_count text = count_by (λ b. b == 10) text

-- whether a text has no space
abbrev pub is_word : List ℕ → Bool
is_word text = list_all (λ b. not (b == 32)) text

-- the name of the macro that a line begins: one word behind `macro `
abbrev pub name_begun : List ℕ → Option (List ℕ)
name_begun line = option_and_then (λ name. then_some (not (length name == 0) && is_word name) name) (behind (codes "macro ") line)

-- the word of a call that the digit stands for with which a text begins: 1 .. 9, where there are so many behind the name
abbrev pub argument : List (List ℕ) → List ℕ → Option (List ℕ)
argument words [] = None
argument words (digit ∷ rest) = if nat_le 49 digit && nat_le digit 57 then slice_get words (digit - 48) else None

-- what stands behind a `$`, and the `$`: the word in the place of both it and the digit, or as they are
abbrev pub filled_by : Option (List ℕ) → List ℕ → List ℕ
filled_by None part = codes "$" ++ part
filled_by (Some word) part = word ++ drop 1 part

abbrev pub part_filled : List (List ℕ) → List ℕ → List ℕ
part_filled words part = filled_by (argument words part) part

-- a body with the words of a call in it
abbrev pub filled : List (List ℕ) → List ℕ → List ℕ
filled words body = first_text (parts_in body) ++ flat_map (part_filled words) (drop 1 (parts_in body))

-- a text where there is room for it; and so many times
abbrev pub within : ℕ → List ℕ → Option (List ℕ)
within room text = if nat_le (length text) room then Some text else None

abbrev pub times_within : ℕ → ℕ → List ℕ → Option (List ℕ)
times_within room times text = if nat_le (times * length text) room then Some (repeat times text) else None

-- what stands behind the star of a call's last word, if it begins with one
abbrev pub star_of : List (List ℕ) → Option (List ℕ)
star_of words = behind (codes "*") (first_text (drop (length words - 1) words))

-- how many times a call's body stands: once, or as its last word says; None where that has a star and no such number
abbrev pub times_by : Option (List ℕ) → Option ℕ
times_by None = Some 1
times_by (Some digits) = option_and_then (λ n. then_some (nat_le n most_times) n) (u32_of digits)

abbrev pub times_of : List (List ℕ) → Option ℕ
times_of words = times_by (star_of words)

-- the name and the arguments of a call: its words but for the star
abbrev pub call_words : List (List ℕ) → List (List ℕ)
call_words words = if is_some (star_of words) then take (length words - 1) words else words

-- the latest macro of a name
abbrev pub named : List Macro → List ℕ → Option Macro
named closed name = find (λ m. bytes_eq m.name name) closed

-- a macro's body; None where it has too many lines
abbrev pub body_of : Macro → Option (List ℕ)
body_of m = then_some (nat_le (line_count m.body) most_lines) m.body

-- what a call of these words stands for; None where they are no call, or there is no room
abbrev pub called : List Macro → ℕ → List (List ℕ) → Option (List ℕ)
called closed room words =
    option_and_then (λ times.
    option_and_then (λ body.
    option_and_then (times_within room times)
    (within room (filled (call_words words) body)))
    (option_and_then body_of (named closed (first_text (call_words words)))))
    (times_of words)

-- a line's parts around its arrow, the first ` -> `: what it does, and what that has to print. None where it has none, of a comment and of a line that expects something
abbrev pub arrow_of : List ℕ → Option (List ℕ × List ℕ)
arrow_of line = if says_nothing line || is_some (expected_of line) then None else parts_around (codes " -> ") line

-- what a line without an arrow stands for: as a call, or itself
abbrev pub plain_meaning : List Macro → ℕ → List ℕ → List ℕ
plain_meaning closed room line = unwrap_or (called closed room (words_in line)) (line ++ codes "\n")

-- what a line outside of a macro or in its body stands for: what it stands for without its arrow, and below that a line that expects what stands behind the arrow
abbrev pub meaning_by : Option (List ℕ × List ℕ) → List Macro → ℕ → List ℕ → List ℕ
meaning_by None closed room line = plain_meaning closed room line
meaning_by (Some parts) closed room line = plain_meaning closed room parts.0 ++ (codes "expect " ++ (parts.1 ++ codes "\n"))

abbrev pub meaning : List Macro → ℕ → List ℕ → List ℕ
meaning closed room line = meaning_by (arrow_of line) closed room line

-- a text is added, each line of which comes from this line of the test
abbrev pub with_text : ℕ → List ℕ → Expansion → Expansion
with_text at text e = record { text = e.text ++ text; origins = e.origins ++ replicate (line_count text) at }

-- behind a line in the body of a macro: `end` closes it, and what any other stands for is one more part of the body
abbrev pub inside_by : Bool → List ℕ → Macro → Known → Known
inside_by true text m k = record k { closed = m ∷ k.closed }
inside_by false text m k = record k { begun = Some (record m { body = m.body ++ text }); room = k.room - length text }

abbrev pub inside : List ℕ → Macro → Known → Known
inside line m k = inside_by (bytes_eq line (codes "end")) (meaning k.closed k.room line) m k

-- behind a line outside of one: it begins a macro, or is added as what it stands for
abbrev pub outside_by : Option (List ℕ) → ℕ → List ℕ → List ℕ → Known → Known
outside_by (Some name) at line text k = record k { begun = Some (record { at = at; line = line; name = name; body = [] }) }
outside_by None at line text k = record k { room = k.room - length text; unrolled = with_text at text k.unrolled }

abbrev pub outside : ℕ → List ℕ → Known → Known
outside at line k = outside_by (name_begun line) at line (meaning k.closed k.room line) k

-- behind a line: the macro that is begun is taken, and put back where it isn't closed
abbrev pub behind_by : Option Macro → ℕ → List ℕ → Known → Known
behind_by None at line k = outside at line k
behind_by (Some m) at line k = inside line m k

abbrev pub behind_line : ℕ → List ℕ → Known → Known
behind_line at line k = behind_by k.begun at line (record k { begun = None })

-- behind these lines, of which the first has this number
unfoldable pub behind_lines : ℕ → List (List ℕ) → Known → Known
behind_lines at [] k = k
behind_lines at (line ∷ lines) k = behind_lines (at + 1) lines (behind_line at line k)

-- in front of the first line
abbrev pub nothing_known : Known
nothing_known = record { closed = []; begun = None; room = most_bytes; unrolled = nothing_added }

-- a macro that is never closed: its first line stands for itself
abbrev pub ended_by : Option Macro → Expansion → Expansion
ended_by None e = e
ended_by (Some m) e = record { text = e.text ++ text_of (m.line ∷ []); origins = e.origins ++ map (λ _. m.at) (m.line ∷ []) }

abbrev pub ended : Known → Expansion
ended k = ended_by k.begun k.unrolled

-- the test that a test stands for, each line with the number of the line that it comes from
abbrev pub unrolled : List ℕ → Expansion
unrolled text = ended (behind_lines 1 (lines_in text) nothing_known)
