-- Lists of which some are left out, and what holds of each element of a list.
use Rattle.std.proofs.Common.{ℕ, ◌<◌, ◌≤◌, Bool, true, false, List, [], ◌∷◌, ◌++◌, map, arith, refl, ◌≡◌}
use Rattle.std.specs.Prelude.{if◌then◌else◌}
use Rattle.std.specs.List.{filter, AllByRecursion, count_by}
use Rattle.usb_model.specs.Laws.Cut.{times}
use Rattle.proof_model.proofs.Lists.Times.{count-cons, times-cons, times_here}

-- xs is what is left of ys when some are left out
pub data IsPart {A : Type 0} : List A → List A → Type 0 where
  nothing : IsPart [] []
  skips : {y : A} {xs ys : List A} → IsPart xs ys → IsPart xs (y ∷ ys)
  keeps : {y : A} {xs ys : List A} → IsPart xs ys → IsPart (y ∷ xs) (y ∷ ys)

-- none are left out
pub whole : {A : Type 0} (xs : List A) → IsPart xs xs
whole [] = nothing
whole (x ∷ xs) = keeps (whole xs)

-- all are
pub none_of : {A : Type 0} (xs : List A) → IsPart [] xs
none_of [] = nothing
none_of (x ∷ xs) = skips (none_of xs)

-- behind the same
pub part_behind : {A : Type 0} (front : List A) {xs ys : List A} → IsPart xs ys → IsPart (front ++ xs) (front ++ ys)
part_behind [] p = p
part_behind (a ∷ front) p = keeps (part_behind front p)

-- of what the elements are mapped to
pub part_map : {A B : Type 0} (f : A → B) {xs ys : List A} → IsPart xs ys → IsPart (map f xs) (map f ys)
part_map f nothing = nothing
part_map f (skips p) = skips (part_map f p)
part_map f (keeps p) = keeps (part_map f p)

-- of those that pass a test
pub part_filter : {A : Type 0} (test : A → Bool) {xs ys : List A} → IsPart xs ys → IsPart (filter test xs) (filter test ys)
part_filter test nothing = nothing
part_filter test (skips {y = y} {xs = xs} {ys = ys} p) = by_test (test y) (part_filter test p)
  where
    by_test : (b : Bool) → IsPart (filter test xs) (filter test ys) → IsPart (filter test xs) (if b then y ∷ filter test ys else filter test ys)
    by_test true q = skips q
    by_test false q = q
part_filter test (keeps {y = y} {xs = xs} {ys = ys} p) = by_test (test y) (part_filter test p)
  where
    by_test : (b : Bool) → IsPart (filter test xs) (filter test ys) → IsPart (if b then y ∷ filter test xs else filter test xs) (if b then y ∷ filter test ys else filter test ys)
    by_test true q = keeps q
    by_test false q = q

-- a number stands in a part at most as often
pub part_times : {xs ys : List ℕ} (n : ℕ) → IsPart xs ys → times n xs ≤ times n ys
part_times n nothing = omega arith
part_times n (skips {y = y} {ys = ys} p) = let q = part_times n p in omega (arith, q, times-cons n y ys)
part_times n (keeps {y = y} {xs = xs} {ys = ys} p) = let q = part_times n p in omega (arith, q, times-cons n y xs, times-cons n y ys)

-- as many pass a test at most
pub part_count : {A : Type 0} (test : A → Bool) {xs ys : List A} → IsPart xs ys → count_by test xs ≤ count_by test ys
part_count test nothing = omega arith
part_count test (skips {y = y} {ys = ys} p) = let q = part_count test p in omega (arith, q, count-cons test y ys)
part_count test (keeps {y = y} {xs = xs} {ys = ys} p) = let q = part_count test p in omega (arith, q, count-cons test y xs, count-cons test y ys)

-- of each of both lists it holds
pub each_append : {A : Type 0} (P : A → Type 0) (xs ys : List A) → AllByRecursion P xs → AllByRecursion P ys → AllByRecursion P (xs ++ ys)
each_append P [] ys p q = q
each_append P (x ∷ xs) ys p q = (p.0, each_append P xs ys p.1 q)

-- of each of the front it holds
pub each_front : {A : Type 0} (P : A → Type 0) (xs ys : List A) → AllByRecursion P (xs ++ ys) → AllByRecursion P xs
each_front P [] ys p = tt
each_front P (x ∷ xs) ys p = (p.0, each_front P xs ys p.1)

-- of each behind the front it holds
pub each_behind : {A : Type 0} (P : A → Type 0) (xs ys : List A) → AllByRecursion P (xs ++ ys) → AllByRecursion P ys
each_behind P [] ys p = p
each_behind P (x ∷ xs) ys p = each_behind P xs ys p.1

-- what follows of each element holds of each
pub each_weaker : {A : Type 0} (P Q : A → Type 0) (xs : List A) → ((x : A) → P x → Q x) → AllByRecursion P xs → AllByRecursion Q xs
each_weaker P Q [] f p = tt
each_weaker P Q (x ∷ xs) f p = (f x p.0, each_weaker P Q xs f p.1)

-- the number of each is among their numbers
pub each_here : {A : Type 0} (number : A → ℕ) (xs : List A) → AllByRecursion (λ x. 0 < times (number x) (map number xs)) xs
each_here number [] = tt
each_here number (x ∷ xs) = (
  omega (arith, times_here (number x) (number x) (map number xs) refl),
  each_weaker (λ y. 0 < times (number y) (map number xs)) (λ y. 0 < times (number y) (map number (x ∷ xs))) xs (λ y lt. omega (arith, lt, times-cons (number y) (number x) (map number xs))) (each_here number xs),
)

-- of each that is left, where some are left out, it holds
pub each_part : {A : Type 0} (P : A → Type 0) {xs ys : List A} → IsPart xs ys → AllByRecursion P ys → AllByRecursion P xs
each_part P nothing a = a
each_part P (skips p) a = each_part P p a.1
each_part P (keeps p) a = (a.0, each_part P p a.1)

-- equal lists have equal heads and rests
pub heads_same : {A : Type 0} (x y : A) (xs ys : List A) → x ∷ xs ≡ y ∷ ys → (x ≡ y) × (xs ≡ ys)
heads_same x y xs ys e = (cc, cc)
