-- The numbers of words.
use Rattle.std.proofs.Common.{◌≡◌, ◌≢◌, ℕ, ◌^◌, ◌<◌, ◌≤◌, Bool, true, false, ◌&&◌, nat_le, ◌⊎◌, List, [], ◌∷◌, length, get_or, Option, Some, None, Result, Ok, Err, refl, sym, ap, ◌∙◌, inl, inr, arith, cond, lit<}
use Rattle.std.specs.Fmt.{decimal}
use Rattle.std.specs.Bool.{then_some}
use Rattle.std.specs.Str.{bytes_eq}
use Rattle.std.specs.Str.Parse.{digits_value, AllDigits, ParsesUnsigned}
use Rattle.std.specs.Result.{result_ok}
use Rattle.std.proofs.lemmas.Bool.{leb-true, leb-false, le-leb, cases_lt}
use Rattle.std.proofs.lemmas.Slice.Eq.{bytes_eq-Decides}
use Rattle.std.proofs.lemmas.Fmt.{decimal_is_IsNumeral, decimal_digit, first_decimal, decimal_nonempty, decimal-digits_value, parse-decimal, decimal_injective}
use Rattle.std.proofs.lemmas.Str.Parse.{IsNumeralModel, numerals_by_value, tells_digits, parse_plain}
use Rattle.std.proofs.lemmas.Bool.Decides.{nat_tests}
use Rattle.usb_scripttext.specs.Number.{is_decimal, number_of, begins_plainly, TakesDecimals}

-- the words of digits and their values are std's own
pub own : IsNumeralModel (AllDigits 10) (digits_value 10)
own = numerals_by_value (AllDigits 10) tells_digits

-- the decimal of a number within the limit is taken, as that number
pub taken : (limit n : ℕ) (word : List ℕ) → n < 2 ^ 64 → n ≤ limit → word ≡ decimal n → number_of limit word ≡ Some n
unfolding number_of is_decimal
taken limit n word small within spelt =
    let value : digits_value 10 word ≡ n = ap (digits_value 10) spelt ∙ (decimal_is_IsNumeral n small).1 in
    let same : bytes_eq word (decimal (digits_value 10 word)) ≡ true = (bytes_eq-Decides _ _).1 (spelt ∙ ap decimal (sym value)) in
    let low : nat_le (digits_value 10 word) limit ≡ true = le-leb _ _ (omega (arith, value)) in
    rw (same, low) (ap Some value)

-- a word that is taken is the decimal of its number, which is within the limit
pub spelt : (limit n : ℕ) (word : List ℕ) → number_of limit word ≡ Some n → (n ≤ limit) × (word ≡ decimal n)
unfolding number_of is_decimal
spelt limit n word = by_test (bytes_eq word (decimal (digits_value 10 word))) (nat_le (digits_value 10 word) limit) refl refl
  where
    by_test : (b c : Bool) → bytes_eq word (decimal (digits_value 10 word)) ≡ b → nat_le (digits_value 10 word) limit ≡ c
        → cond (b && c) (Some (digits_value 10 word)) None ≡ Some n → (n ≤ limit) × (word ≡ decimal n)
    by_test true true same low some =
        let value : digits_value 10 word ≡ n = cc in
        (omega (arith, leb-true _ _ low, value), (bytes_eq-Decides _ _).0 same ∙ ap decimal value)
    by_test true false same low some = cc
    by_test false c same low some = cc

-- a decimal has no sign, and begins with 0 only where that is all
pub plain : (n : ℕ) → n < 2 ^ 64 → begins_plainly (decimal n) ≡ true
plain n small = by_size (cases_lt 0 n)
  where
    by_size : (0 < n) ⊎ (n ≤ 0) → begins_plainly (decimal n) ≡ true
    by_size (inl above) =
        let first : 48 < get_or (decimal n) 0 0 = first_decimal n above small in
        let long : 0 < length (decimal n) = decimal_nonempty n small in
        grind (arith, nat_tests)
    by_size (inr none) =
        let zero : n ≡ 0 = omega arith in
        let one : decimal n ≡ 48 ∷ [] = rw zero (decimal_digit 0 (lit< tt)) in
        rw one refl

-- where a word is no decimal within the limit it isn't taken
pub not_taken : (limit : ℕ) (word : List ℕ)
    → ((n : ℕ) → n ≤ limit → word ≡ decimal n → ⊥) → number_of limit word ≡ None
not_taken limit word no_decimal = by_result (number_of limit word) refl
  where
    by_result : (r : Option ℕ) → number_of limit word ≡ r → number_of limit word ≡ None
    by_result None is = is
    by_result (Some n) is =
        let s = spelt limit n word is in
        absurd (no_decimal n s.0 s.1)

-- the words that are taken are the decimals within the limit
pub takes : (limit : ℕ) (word : List ℕ) → limit < 2 ^ 64 → TakesDecimals limit word
takes limit word small = λ n. (spelt limit n word, λ h. taken limit n word (omega (arith, h.0)) h.0 h.1)

-- a word that doesn't begin as a decimal isn't taken
pub not_plain : (limit : ℕ) (word : List ℕ) → limit < 2 ^ 64 → begins_plainly word ≡ false → number_of limit word ≡ None
not_plain limit word small bad =
    not_taken limit word (λ n low is. let good : begins_plainly word ≡ true = rw is (plain n (omega arith)) in cc)

-- nor is one that can't be parsed
pub not_parsed : (E : Type 0) (limit : ℕ) (word : List ℕ) (r : Result ℕ E) → limit < 2 ^ 64 → result_ok r ≡ None
    → ParsesUnsigned {E = E} 64 10 word r → number_of limit word ≡ None
not_parsed E limit word (Ok n) small none parses = cc
not_parsed E limit word (Err e) small none parses =
    not_taken limit word (λ n low is.
    let ok = parse-decimal {E = E} 64 n word (Err e) (omega arith) (omega arith) is parses in cc)

-- a word that begins plainly and was parsed is the decimal of its number
pub parsed : (E : Type 0) (n : ℕ) (word : List ℕ) → begins_plainly word ≡ true
    → ParsesUnsigned {E = E} 64 10 word (Ok n) → (n < 2 ^ 64) × (word ≡ decimal n)
parsed E n word begins parses =
    let first : get_or word 0 0 ≢ 43 = grind (arith, nat_tests) in
    let zero : get_or word 0 0 ≡ 48 → length word ≡ 1 = grind (arith, nat_tests) in
    let whole = parse_plain own {E = E} 64 word (Ok n) parses first in
    let value : n ≡ digits_value 10 word = whole.1 in
    (omega (arith, whole.0.2, value), sym (ap decimal value ∙ decimal-digits_value own word whole.0.0 whole.0.1 zero whole.0.2))

-- so it is taken where its number is within the limit, and else refused
plain_by_limit : (limit n : ℕ) (word : List ℕ) → limit < 2 ^ 64 → n < 2 ^ 64 → word ≡ decimal n
    → then_some (nat_le n limit) n ≡ number_of limit word
plain_by_limit limit n word small low is = by_test (nat_le n limit) refl
  where
    by_test : (b : Bool) → nat_le n limit ≡ b → then_some b n ≡ number_of limit word
    by_test true within = sym (taken limit n word low (leb-true _ _ within) is)
    by_test false high = sym (not_taken limit word (λ m below other.
        let same : m ≡ n = decimal_injective m n (omega arith) low (sym other ∙ is) in
        let above = leb-false _ _ high in absurd (omega (arith, above))))

-- the same of what a parse gave
pub by_limit : (E : Type 0) (limit n : ℕ) (word : List ℕ) (r : Result ℕ E) → limit < 2 ^ 64
    → begins_plainly word ≡ true → result_ok r ≡ Some n
    → ParsesUnsigned {E = E} 64 10 word r → then_some (nat_le n limit) n ≡ number_of limit word
by_limit E limit n word (Err e) small begins some parses = cc
by_limit E limit n word (Ok m) small begins some parses =
    let p = parsed E m word begins parses in
    let same : m ≡ n = cc in
    plain_by_limit limit n word small (omega (arith, p.0, same)) (p.1 ∙ ap decimal same)
