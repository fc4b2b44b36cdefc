-- What lines and words expect, one after another.
use Rattle.std.proofs.Common.{◌≡◌, ℕ, ◌+◌, ◌<◌, ◌≤◌, List, [], ◌∷◌, ◌++◌, length, get_or, drop, append_assoc, append-nil, Option, Some, None, sym, ap, ◌∙◌}
use Rattle.std.specs.Prelude.{filter_map}
use Rattle.std.specs.List.{cons_option}
use Rattle.std.specs.Option.{option_and_then}
use Rattle.std.proofs.lemmas.List.{at_drop_all, at_drop_more, get_or-map, length-map}
use denote.Ref.{Bor}
use Rattle.trace_scenario.specs.Expectations.{expected_by_words, expected_in_line}
use Rattle.usb_scripttext.specs.Words.{ascii_of}
use Rattle.usb_scripttext.specs.Words.{words_in, words_of}

-- what the words of a line expect, it expects
pub line_expects : (text ascii : List ℕ) (words : List (List ℕ)) → ascii_of text ≡ Some ascii → words ≡ words_in ascii → expected_by_words words ≡ expected_in_line text
line_expects text ascii words is parted = ap expected_by_words parted ∙ sym (ap (option_and_then (λ a. expected_by_words (words_in a))) is)

-- those so far, and those from here on, with one more
pub some_more : {X Y : Type 0} (h : X → Option Y) (xs : List X) (i : ℕ) (x : X) (y : Y) (old all : List Y)
    → (i < length xs) × (x ≡ get_or xs i x) → h x ≡ Some y → old ++ filter_map h (drop i xs) ≡ all → (old ++ y ∷ []) ++ filter_map h (drop (i + 1) xs) ≡ all
some_more h xs i x y old all here is so_far =
    append_assoc old (y ∷ []) (filter_map h (drop (i + 1) xs))
    ∙ (ap (λ o. old ++ cons_option o (filter_map h (drop (i + 1) xs))) (sym is)
    ∙ (ap (λ z. old ++ filter_map h (z ∷ drop (i + 1) xs)) here.1 ∙ (ap (λ l. old ++ l) (sym (at_drop_more (filter_map h) xs i x here.0)) ∙ so_far)))

-- and with none more
pub none_more : {X Y : Type 0} (h : X → Option Y) (xs : List X) (i : ℕ) (x : X) (old all : List Y)
    → (i < length xs) × (x ≡ get_or xs i x) → h x ≡ None → old ++ filter_map h (drop i xs) ≡ all → old ++ filter_map h (drop (i + 1) xs) ≡ all
none_more h xs i x old all here is so_far =
    ap (λ o. old ++ cons_option o (filter_map h (drop (i + 1) xs))) (sym is)
    ∙ (ap (λ z. old ++ filter_map h (z ∷ drop (i + 1) xs)) here.1 ∙ (ap (λ l. old ++ l) (sym (at_drop_more (filter_map h) xs i x here.0)) ∙ so_far))

-- at the end none is left
pub no_more : {X Y : Type 0} (h : X → Option Y) (xs : List X) (i : ℕ) (old all : List Y) → length xs ≤ i → old ++ filter_map h (drop i xs) ≡ all → old ≡ all
no_more h xs i old all past so_far = sym (append-nil old) ∙ (sym (ap (λ l. old ++ l) (at_drop_all (filter_map h) xs i past)) ∙ so_far)

-- a word stands among the texts where it stands among the words
pub text_at : (words : List (Bor (List ℕ))) (i : ℕ) (d : Bor (List ℕ)) → i < length words
    → (i < length (words_of words)) × ((get_or words i d).now ≡ get_or (words_of words) i (get_or words i d).now)
text_at words i d low = (
  rw (length-map words (λ (word : Bor (List ℕ)). word.now)) low,
  sym (get_or-map (λ (word : Bor (List ℕ)). word.now) words i d (get_or words i d).now low),
)
