-- Texts without a line feed.
use Rattle.std.proofs.Common.{◌≡◌, ℕ, zero, suc, ◌+◌, ◌/◌, ◌%◌, ◌==◌, Bool, true, false, not, ◌&&◌, cond, List, [], ◌∷◌, ◌++◌, refl, ap, ◌∙◌, arith}
use Rattle.std.specs.Prelude.{slice_index, nat_lt}
use Rattle.std.specs.Fmt.{decimal, digit_glyph, digits, digits_onto}
use Rattle.std.specs.List.{All, list_all}
use Rattle.std.proofs.lemmas.List.Folds.{list_all-append}
use Rattle.std.proofs.lemmas.List.Sums.{AllPass-from_list_all}
use Rattle.hex.specs.Hex.{encode_lower, encode_with, lower_digits}

-- a byte that is no line feed
abbrev pub is_plain : ℕ → Bool
is_plain b = not (b == 10)

pub record Plain (t : List ℕ) : Type 0 where
  pub all : list_all is_plain t ≡ true

pub plain : {t : List ℕ} → list_all is_plain t ≡ true → Plain t
plain all = record { all = all }

pub plain_join : (a b : List ℕ) → Plain a → Plain b → Plain (a ++ b)
plain_join a b p q = record { all = list_all-append is_plain a b ∙ ap (λ x. x && list_all is_plain b) p.all ∙ q.all }

pub plain_push : (x : ℕ) (t : List ℕ) → is_plain x ≡ true → Plain t → Plain (x ∷ t)
plain_push x t p q = record { all = ap (λ b. b && list_all is_plain t) p ∙ q.all }

pub plain_either : (b : Bool) (x y : List ℕ) → Plain x → Plain y → Plain (cond b x y)
plain_either true x y p q = p
plain_either false x y p q = q

-- what a cut asks
pub none_of : (p : ℕ → Bool) (t : List ℕ) → list_all (λ b. not (p b)) t ≡ true → All (λ b. p b ≡ false) t
none_of p t all k d less = by_test (p _) (AllPass-from_list_all (λ b. not (p b)) t all k d less)
  where
    by_test : (b : Bool) → not b ≡ true → b ≡ false
    by_test true h = cc
    by_test false h = refl

-- a digit
plain_glyph : (d : ℕ) → is_plain (digit_glyph false d) ≡ true
plain_glyph d = by_size (nat_lt d 10)
  where
    by_size : (b : Bool) → not (cond b (48 + d) (87 + d) == 10) ≡ true
    by_size true = grind arith
    by_size false = grind arith

-- a decimal number
plain_digits : (k base n : ℕ) (acc : List ℕ) → Plain acc → Plain (digits_onto k base false n acc)
plain_digits zero base n acc p = p
plain_digits (suc k) base n acc p =
    let more = plain_push (digit_glyph false (n % base)) acc (plain_glyph (n % base)) p in
    plain_either (n / base == 0) _ _ more (plain_digits k base (n / base) (digit_glyph false (n % base) ∷ acc) more)

pub plain_decimal : (n : ℕ) → Plain (decimal n)
unfolding digits
plain_decimal n = plain_digits 64 10 n [] (plain refl)

-- two hexadecimal digits
pub plain_hex_byte : (n : ℕ) → Plain (digit_glyph false (n / 16) ∷ digit_glyph false (n % 16) ∷ [])
plain_hex_byte n = plain_push _ _ (plain_glyph (n / 16)) (plain_push _ _ (plain_glyph (n % 16)) (plain refl))

-- a test that 0 and each digit pass, each digit of bytes passes
digit_passes : (p : ℕ → Bool) (t : List ℕ) → p 0 ≡ true → list_all p t ≡ true → (i : ℕ) → p (slice_index t i) ≡ true
digit_passes p [] none all i = none
digit_passes p (x ∷ t) none all i = by_test (p x) refl (λ rest. digit_passes p t none rest) i
  where
    by_test : (b : Bool) → p x ≡ b → (list_all p t ≡ true → (j : ℕ) → p (slice_index t j) ≡ true) → (j : ℕ) → p (slice_index (x ∷ t) j) ≡ true
    by_test true h later zero = h
    by_test true h later (suc j) = later (rw h at all) j
    by_test false h later j = let wrong : false ≡ true = rw h at all in cc

push_passes : (p : ℕ → Bool) (x : ℕ) (t : List ℕ) → p x ≡ true → list_all p t ≡ true → list_all p (x ∷ t) ≡ true
push_passes p x t h all = ap (λ b. b && list_all p t) h ∙ all

pub digits_pass : (p : ℕ → Bool) → p 0 ≡ true → list_all p lower_digits ≡ true → (bytes : List ℕ) → list_all p (encode_lower bytes) ≡ true
unfolding encode_with
digits_pass p none all [] = refl
digits_pass p none all (b ∷ bytes) =
    push_passes p (slice_index lower_digits (b / 16)) (slice_index lower_digits (b % 16) ∷ encode_lower bytes) (digit_passes p lower_digits none all (b / 16))
    (push_passes p (slice_index lower_digits (b % 16)) (encode_lower bytes) (digit_passes p lower_digits none all (b % 16)) (digits_pass p none all bytes))

pub plain_encode : (bytes : List ℕ) → Plain (encode_lower bytes)
plain_encode bytes = plain (digits_pass is_plain refl refl bytes)
