-- How often a number stands in a list; numbers that stand once, and so differ.
use Rattle.std.proofs.Common.{◌≡◌, ℕ, ◌+◌, ◌==◌, List, [], ◌∷◌, ◌++◌, Bool, false, ap, ap₂, arith, eq-eqb, map, refl, sym, ◌∙◌}
use Rattle.std.specs.Prelude.{if◌then◌else◌, nat_eq}
use Rattle.std.proofs.lemmas.Bool.{ne_eqb}
use Rattle.std.proofs.lemmas.List.Sums.{sum_by-cons, sum_by-append}
use Rattle.usb_model.specs.Laws.Cut.{times}
use Rattle.proof_model.proofs.Lists.Pieces.{same_name}
use Rattle.std.specs.List.{AllByRecursion, IsDistinct, count_by}

-- once more in front, where it is the number
pub times-cons : (n x : ℕ) (xs : List ℕ) → times n (x ∷ xs) ≡ (if x == n then 1 else 0) + times n xs
times-cons n x xs = sum_by-cons (λ k. if k == n then 1 else 0) x xs

-- in two lists together, as often as in each
pub times-append : (n : ℕ) (xs ys : List ℕ) → times n (xs ++ ys) ≡ times n xs + times n ys
times-append n xs ys = sum_by-append (λ k. if k == n then 1 else 0) xs ys

-- how many pass a test: one more in front, where it does
pub count-cons : {A : Type 0} (test : A → Bool) (x : A) (xs : List A) → count_by test (x ∷ xs) ≡ (if test x then 1 else 0) + count_by test xs
count-cons test x xs = sum_by-cons (λ y. if test y then 1 else 0) x xs

-- in two lists together, as many as in each
pub count-append : {A : Type 0} (test : A → Bool) (xs ys : List A) → count_by test (xs ++ ys) ≡ count_by test xs + count_by test ys
count-append test xs ys = sum_by-append (λ y. if test y then 1 else 0) xs ys

-- in the list of itself once
pub times_one : (n x : ℕ) → x ≡ n → times n (x ∷ []) ≡ 1
times_one n x e = rw (e, same_name n)

-- in the list of another never
pub times_none : (n x : ℕ) → (x ≡ n → ⊥) → times n (x ∷ []) ≡ 0
times_none n x e = rw (ne_eqb x n e)

-- a number in front of a list, and another
pub times_here : (n x : ℕ) (xs : List ℕ) → x ≡ n → times n (x ∷ xs) ≡ 1 + times n xs
times_here n x xs same = times-cons n x xs ∙ ap (λ (b : Bool). (if b then 1 else 0) + times n xs) (eq-eqb x n same)

-- another number at the head is not counted
pub times_past : (n x : ℕ) (xs : List ℕ) → (x ≡ n → ⊥) → times n (x ∷ xs) ≡ times n xs
times_past n x xs differ = times-cons n x xs ∙ (ap (λ (b : Bool). (if b then 1 else 0) + times n xs) (ne_eqb x n differ) ∙ (let zero_more : 0 + times n xs ≡ times n xs = omega arith in zero_more))

-- of each element but those of this number
pub each_apart : {A : Type 0} (P Q : A → Type 0) (number : A → ℕ) (k : ℕ) (xs : List A) → times k (map number xs) ≡ 0 → ((x : A) → (number x ≡ k → ⊥) → P x → Q x) → AllByRecursion P xs → AllByRecursion Q xs
each_apart P Q number k [] none f p = tt
each_apart P Q number k (x ∷ xs) none f p =
    let differ : number x ≡ k → ⊥ = λ same. by_test same in
    (f x differ p.0, each_apart P Q number k xs (omega (arith, none, times-cons k (number x) (map number xs))) f p.1)
  where
    by_test : number x ≡ k → ⊥
    by_test same = omega (arith, none, times_here k (number x) (map number xs) same)

-- a list of images comes apart as the list does
pub map_split : {A B : Type 0} (f : A → B) (zs : List A) (xs ys : List B) → map f zs ≡ xs ++ ys → (fs : List A) × (bs : List A) × (zs ≡ fs ++ bs) × (map f fs ≡ xs) × (map f bs ≡ ys)
map_split f zs [] ys e = ([], zs, refl, refl, e)
map_split f [] (x ∷ xs) ys e = absurd cc
map_split f (z ∷ zs) (x ∷ xs) ys e =
    let r = map_split f zs xs ys cc in
    let same : f z ≡ x = cc in
    (z ∷ r.0, r.1, ap (λ l. z ∷ l) r.2, ap₂ (λ a l. a ∷ l) same r.3, r.4)

-- each number stands once
abbrev pub StandOnce : List ℕ → Type 0
StandOnce [] = Unit {0}
StandOnce (x ∷ xs) = (times x xs ≡ 0) × StandOnce xs

-- a number that never stands in a list differs from each there
others_differ : (n : ℕ) (xs : List ℕ) → times n xs ≡ 0 → AllByRecursion (λ x. nat_eq n x ≡ false) xs
others_differ n [] none = tt
others_differ n (x ∷ xs) none = (ne_eqb n x differ, others_differ n xs (omega (arith, none, times-cons n x xs)))
  where
    differ : n ≡ x → ⊥
    differ same = omega (arith, none, times_here n x xs (sym same))

-- so numbers that stand once differ
pub distinct_once : (xs : List ℕ) → StandOnce xs → IsDistinct nat_eq xs
unfolding IsDistinct
distinct_once [] d = tt
distinct_once (x ∷ xs) d = (others_differ x xs d.0, distinct_once xs d.1)

-- a number amid numbers that stand once is not among the others
pub distinct_mid : (k : ℕ) (xs ys : List ℕ) → StandOnce (xs ++ k ∷ ys) → (times k xs ≡ 0) × (times k ys ≡ 0)
distinct_mid k [] ys d = (refl, d.0)
distinct_mid k (x ∷ xs) ys d =
    let r = distinct_mid k xs ys d.1 in
    (times_past k x xs differ ∙ r.0, r.1)
  where
    differ : x ≡ k → ⊥
    differ same = omega (arith, d.0, times-append x xs (k ∷ ys), times_here x k ys (sym same))

-- a number that is not there yet is appended
pub distinct_push : (k : ℕ) (xs : List ℕ) → StandOnce xs → times k xs ≡ 0 → StandOnce (xs ++ k ∷ [])
distinct_push k [] d none = (refl, tt)
distinct_push k (x ∷ xs) d none = (joined, distinct_push k xs d.1 (omega (arith, none, times-cons k x xs)))
  where
    differ : k ≡ x → ⊥
    differ same = omega (arith, none, times_here k x xs (sym same))

    joined : times x (xs ++ k ∷ []) ≡ 0
    joined = omega (arith, times-append x xs (k ∷ []), d.0, times_none x k differ)
