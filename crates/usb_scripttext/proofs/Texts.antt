-- Texts of lines.
use Rattle.std.proofs.Common.{◌≡◌, ℕ, ◌<◌, ◌==◌, Bool, true, false, nat_lt, ◌&&◌, List, [], ◌∷◌, length, get_or, cond, Option, Some, Result, Ok, Err, MatchResult, refl, sym, ◌∙◌, ap, subst, arith}
use denote.Ref.{Bor}
use Rattle.std.specs.Bool.{MatchBool}
use Rattle.std.specs.List.{All, onto_first, slice_split}
use Rattle.std.specs.Option.{option_copied, option_map}
use Rattle.std.specs.Result.{result_ok}
use Rattle.std.specs.Str.{IsUtf8, IsAscii, IsNotAscii}
use Rattle.std.proofs.lemmas.Bool.{and_parts, cond-true, lt-ltb}
use borrow.Author.Tests.{ltb-true}
use Rattle.std.proofs.lemmas.List.Elements.{All-cons, All-get_or, All-head, All-nil, All-tail}
use Rattle.std.proofs.lemmas.Str.{IsUtf8-from_ascii}
use Rattle.std.proofs.lemmas.Str.Ascii.{All-from_ascii, IsAscii-nil, IsAscii-cons}
use Rattle.usb_scripttext.specs.Words.{words_in}
use Rattle.usb_scripttext.specs.Words.{is_ascii, ascii_of}

-- a text that is all ASCII has no byte of 128 or more
all_below : (bs : List ℕ) → is_ascii bs ≡ true → IsAscii bs
all_below [] all = IsAscii-nil
all_below (b ∷ bs) all = IsAscii-cons b bs (first (nat_lt b 128) (is_ascii bs) all refl) (all_below bs (rest (nat_lt b 128) (is_ascii bs) all))
  where
    first : (x y : Bool) → (x && y) ≡ true → nat_lt b 128 ≡ x → b < 128
    first true y both is = ltb-true _ _ is
    first false y both is = cc

    rest : (x y : Bool) → (x && y) ≡ true → y ≡ true
    rest true y both = both
    rest false y both = cc

-- what `from_utf8` makes of it
pub ascii_taken : {E : Type 0} (Q : E → Type 0) (bs : List ℕ) (r : Result (Bor (List ℕ)) E) (o : Option (Bor (List ℕ)))
    → is_ascii bs ≡ true → o ≡ result_ok r
    → MatchResult r (λ s. (s.now ≡ bs) × IsUtf8 bs) (λ e. (¬ (IsUtf8 bs)) × Q e)
    → option_copied o ≡ ascii_of bs
ascii_taken Q bs (Ok s) o all is match = ap option_copied is ∙ ap Some match.0 ∙ sym (cond-true _ _ _ all)
ascii_taken Q bs (Err e) o all is match = absurd (match.0 (IsUtf8-from_ascii bs (all_below bs all)))

-- nor has one of bytes that are each below
all_pass : (bs : List ℕ) → All (λ b. b < 128) bs → is_ascii bs ≡ true
all_pass [] all = refl
all_pass (b ∷ bs) all = rw (lt-ltb b 128 (All-head (λ b. b < 128) b bs all), all_pass bs (All-tail (λ b. b < 128) b bs all)) refl

-- what `is_ascii` of a slice makes of it
pub ascii_tested : (test : Bool) (bs : List ℕ) → MatchBool test (IsAscii bs) (IsNotAscii bs) → test ≡ is_ascii bs
ascii_tested true bs all = sym (all_pass bs (All-from_ascii bs all))
ascii_tested false bs one = by_test (is_ascii bs) refl
  where
    by_test : (test : Bool) → is_ascii bs ≡ test → false ≡ test
    by_test false is = refl
    by_test true is = absurd (omega (arith, all_below bs is one.0, one.1))

-- the parts of a text that is all ASCII are so too
parts_ascii : (p : ℕ → Bool) (bs : List ℕ) → is_ascii bs ≡ true → All (λ part. is_ascii part ≡ true) (slice_split p bs)
parts_ascii p [] all = All-cons (λ part. is_ascii part ≡ true) [] [] refl (All-nil (λ part. is_ascii part ≡ true))
parts_ascii p (b ∷ bs) all =
    let both = and_parts (nat_lt b 128) (is_ascii bs) all in
    by_test (p b) (slice_split p bs) both.0 (parts_ascii p bs both.1)
  where
    onto : (parts : List (List ℕ)) → nat_lt b 128 ≡ true → All (λ part. is_ascii part ≡ true) parts → All (λ part. is_ascii part ≡ true) (onto_first b parts)
    onto [] low each = All-cons (λ part. is_ascii part ≡ true) (b ∷ []) [] (rw low refl) (All-nil (λ part. is_ascii part ≡ true))
    onto (part ∷ parts) low each =
        All-cons (λ part. is_ascii part ≡ true) (b ∷ part) parts (rw (low, All-head (λ part. is_ascii part ≡ true) part parts each) refl) (All-tail (λ part. is_ascii part ≡ true) part parts each)

    by_test : (test : Bool) (parts : List (List ℕ)) → nat_lt b 128 ≡ true → All (λ part. is_ascii part ≡ true) parts
        → All (λ part. is_ascii part ≡ true) (cond test ([] ∷ parts) (onto_first b parts))
    by_test true parts low each = All-cons (λ part. is_ascii part ≡ true) [] parts refl each
    by_test false parts low each = onto parts low each

-- so each of its words is a text
pub word_is_text : (text : List ℕ) (i : ℕ) (word : List ℕ) → is_ascii text ≡ true
    → (i < length (words_in text)) × (word ≡ get_or (words_in text) i word) → IsUtf8 word
word_is_text text i word all here =
    IsUtf8-from_ascii word (all_below word
    (subst (λ w. is_ascii w ≡ true) (sym here.1) (All-get_or (λ part. is_ascii part ≡ true) (words_in text) i word here.0 (parts_ascii (λ b. b == 32) text all))))

-- the words that it is cut into
pub cut_whole : (text : List ℕ) (words : List (List ℕ)) → is_ascii text ≡ true → words ≡ words_in text
    → option_map words_in (ascii_of text) ≡ Some words
cut_whole text words all cut = ap (option_map words_in) (cond-true _ _ _ all) ∙ ap Some (sym cut)
