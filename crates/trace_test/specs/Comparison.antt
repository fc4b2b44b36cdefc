-- What a test's lines expect, compared with what the run printed and left.
use Rattle.std.specs.Prelude.{◌≡◌, ℕ, ◌+◌, ◌||◌, ◌++◌, nat_eq, Bool, false, not, is_some, length, drop, map, List, [], ◌∷◌, Option, Some, None, Result, Ok, Err, codes, if◌then◌else◌}
use Rattle.std.specs.Fmt.{decimal}
use Rattle.std.specs.List.{prefix_len, starts_with}
use Rattle.std.specs.Option.{unwrap_or}
use denote.Ref.{Bor}
use Rattle.usb_scripttext.specs.Prefix.{behind}
use Rattle.trace_test.specs.Expanded.{lines_in, may_be_nothing}
use Rattle.trace_test.specs.Expected.{expected_any_of, expected_left_of, expected_of, fits}
use Rattle.trace_test.specs.declared.difference.Difference.{Difference}

-- some texts
abbrev pub texts_of : List (Bor (List ℕ)) → List (List ℕ)
texts_of texts = map (λ (text : Bor (List ℕ)). text.now) texts

-- what a run printed, each entry behind the number of its line, and what is left at its end, as far as nothing was compared with it; the entries that are compared are those of this line
pub record Uncompared : Type 0 where
  pub of : ℕ
  pub printed : List (List ℕ)
  pub left : List (List ℕ)

-- what stands in front of each entry of a line
abbrev pub front_of : ℕ → List ℕ
front_of at = decimal at ++ codes "  | "

-- whether a printed line has an entry of that line
abbrev pub is_of : ℕ → List ℕ → Bool
is_of at text = starts_with nat_eq text (front_of at)

-- the first of some texts; no text where there is none
abbrev pub first_text : List (List ℕ) → List ℕ
first_text [] = []
first_text (text ∷ texts) = text

-- the next entry of the line that is compared, if there is one; no text where there is none
abbrev pub next_of : Uncompared → Option (List ℕ)
next_of u = behind (front_of u.of) (first_text u.printed)

abbrev pub got_of : Uncompared → List ℕ
got_of u = unwrap_or (next_of u) []

-- what is printed behind the entries of a line
abbrev pub past : ℕ → List (List ℕ) → List (List ℕ)
past at printed = drop (prefix_len (is_of at) printed) printed

-- where a line has entries, these are compared next; so where it may stand for no line, whether or not it has entries
abbrev pub at_line : ℕ → List ℕ → Uncompared → Uncompared
at_line at line u = if may_be_nothing line || is_of at (first_text (past u.of u.printed)) then record u { of = at; printed = past u.of u.printed } else u

-- what is shown of a text that was got
abbrev pub shown : List ℕ → List ℕ
shown [] = codes "NOTHING"
shown text = text

-- how many texts were compared: one, or none where there was none
abbrev pub taken : List ℕ → ℕ
taken [] = 0
taken text = 1

-- a line expects something, and finds it or something else
abbrev pub differs : ℕ → (wanted got : List ℕ) → Difference
differs at wanted got = record { line = at; wanted = wanted; got = shown got }

abbrev pub compared : ℕ → (wanted got : List ℕ) → Uncompared → Result Uncompared Difference
compared at wanted got u = if fits wanted (shown got) then Ok u else Err (differs at wanted got)

-- a line that expects the next entry
abbrev pub compare_entry : ℕ → List ℕ → Uncompared → Result Uncompared Difference
compare_entry at wanted u = compared at wanted (got_of u) (record u { printed = drop (taken (got_of u)) u.printed })

-- whether what stands behind the front of a line's entries is another entry than is wanted
abbrev pub is_other_by : List ℕ → Option (List ℕ) → Bool
is_other_by wanted None = false
is_other_by wanted (Some entry) = not (fits wanted entry)

-- whether a printed line has an entry of that line, and another than is wanted
abbrev pub is_other : List ℕ → List ℕ → List ℕ → Bool
is_other front wanted text = is_other_by wanted (behind front text)

-- from the first entry of the line on that is wanted; from behind its entries where none is
abbrev pub past_others : List ℕ → Uncompared → Uncompared
past_others wanted u = record u { printed = drop (prefix_len (is_other (front_of u.of) wanted) u.printed) u.printed }

-- what is wanted, as the line says it
abbrev pub any_of : List ℕ → List ℕ
any_of wanted = codes "any " ++ wanted

-- a line that expects some entry from the next on: comparison goes on behind it
abbrev pub compare_any : ℕ → List ℕ → Uncompared → Result Uncompared Difference
compare_any at wanted u =
    if is_some (next_of (past_others wanted u)) then Ok (record u { printed = drop 1 (past_others wanted u).printed })
    else Err (differs at (any_of wanted) (got_of u))

-- a line that expects that something is left
abbrev pub compare_left : ℕ → List ℕ → Uncompared → Result Uncompared Difference
compare_left at wanted u = compared at wanted (first_text u.left) (record u { left = drop (taken (first_text u.left)) u.left })

-- a line that expects that something is left, that some entry is something, or that the next is; or another
abbrev pub compare_by : (left any entry : Option (List ℕ)) → ℕ → List ℕ → Uncompared → Result Uncompared Difference
compare_by (Some wanted) any entry at line u = compare_left at wanted u
compare_by None (Some wanted) entry at line u = compare_any at wanted u
compare_by None None (Some wanted) at line u = compare_entry at wanted u
compare_by None None None at line u = Ok (at_line at line u)

abbrev pub compare_line : ℕ → List ℕ → Uncompared → Result Uncompared Difference
compare_line at line u = compare_by (expected_left_of line) (expected_any_of line) (expected_of line) at line u

-- what follows a line that was compared; the first difference
abbrev pub difference_past : (Uncompared → Option Difference) → Result Uncompared Difference → Option Difference
difference_past further (Ok u) = further u
difference_past further (Err difference) = Some difference

-- the first line of these that differs, of which the first has this number
unfoldable pub difference_from : ℕ → List (List ℕ) → Uncompared → Option Difference
difference_from at [] u = None
difference_from at (line ∷ lines) u = difference_past (difference_from (at + 1) lines) (compare_line at line u)

-- whether a line expects something to be left
abbrev pub is_of_left : List ℕ → Bool
is_of_left line = is_some (expected_left_of line)

-- what is compared of a run that printed so much and left so much
abbrev pub all_of : (printed left : List ℕ) → Uncompared
all_of printed left = record { of = 0; printed = lines_in printed; left = lines_in left }

-- a text's lines find the same difference, or none, whether this is left or that, whatever was printed
abbrev pub IsAsGoodAs : List ℕ → (left other : List ℕ) → Type 0
IsAsGoodAs text left other = (printed : List ℕ) → difference_from 1 (lines_in text) (all_of printed left) ≡ difference_from 1 (lines_in text) (all_of printed other)

-- what a line was compared to: what is left to compare, or its difference
abbrev pub compared_as : Option Difference → Uncompared → Result Uncompared Difference
compared_as None u = Ok u
compared_as (Some difference) u = Err difference
