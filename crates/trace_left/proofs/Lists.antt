-- Lists, part by part.
use Rattle.std.proofs.Common.{◌≡◌, ℕ, List, [], ◌∷◌, ◌++◌, ap, append-nil, append_assoc, arith, map, refl, sym, true, ◌∙◌, ◌+◌, zero, suc, ◌<◌, length, take, get_or}
use Rattle.std.proofs.lemmas.List.{flat_map_more, take_more}
use Rattle.std.specs.List.{flat_map}
use Rattle.usb_model.specs.World.Shared.{past_first}
use Rattle.trace_left.specs.declared.left.Left.{Left}
use Rattle.trace_left.specs.Gathered.{first_of, of_option}

-- what is made of the first of a list, and of one more
pub one_further : {X A : Type 0} (f : X → List A) (old now new : List A) (xs : List X) (i : ℕ) (x d : X) → i < length xs → x ≡ get_or xs i d → now ≡ old ++ flat_map f (take i xs) → new ≡ now ++ f x
    → new ≡ old ++ flat_map f (take (i + 1) xs)
one_further f old now new xs i x d low here so_far more =
    more ∙ ap (λ l. l ++ f x) so_far ∙ flat_map_more f old (take i xs) x
    ∙ ap (λ l. old ++ flat_map f l) (sym (take_more xs i d low ∙ ap (λ e. take i xs ++ e ∷ []) (sym here)))

-- none of an empty list, and one of a list that has one
pub take_nil : {A : Type 0} (k : ℕ) → take {A = A} k [] ≡ []
take_nil zero = refl
take_nil (suc k) = refl

take_first : {A : Type 0} (k : ℕ) (x : A) (xs : List A) → take (k + 1) (x ∷ xs) ≡ x ∷ take k xs
take_first k x xs = let more : k + 1 ≡ suc k = omega arith in rw more refl

-- the first of so many more is gathered
pub one_gathered : {A : Type 0} (f : A → Left) (k : ℕ) (xs ys : List A) (now now' all : List Left) → now ++ map f (take (k + 1) xs) ≡ all → now' ≡ now ++ of_option (first_of f xs) → ys ≡ past_first true xs → now' ++ map f (take k ys) ≡ all
one_gathered f k [] ys now now' all so_far more rest = rw (rest, more) (ap (λ l. (now ++ []) ++ map f l) (take_nil k) ∙ (append-nil (now ++ []) ∙ (ap (λ l. now ++ map f l) (sym (take_nil (k + 1))) ∙ so_far)))
one_gathered f k (x ∷ xs) ys now now' all so_far more rest = rw (rest, more) (append_assoc now (f x ∷ []) (map f (take k xs)) ∙ (ap (λ l. now ++ map f l) (sym (take_first k x xs)) ∙ so_far))

-- three lists, put one behind the other
pub three_parts : {A : Type 0} (old a b d x y new : List A) → x ≡ old ++ a → y ≡ x ++ b → new ≡ y ++ d → new ≡ old ++ (a ++ (b ++ d))
three_parts old a b d x y new at_a at_b at_d = at_d ∙ ap (λ l. l ++ d) (at_b ∙ ap (λ l. l ++ b) at_a) ∙ append_assoc (old ++ a) b d ∙ append_assoc old a (b ++ d)
