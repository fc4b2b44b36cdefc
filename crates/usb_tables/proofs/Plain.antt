-- Plain facts on lists and results.
use Rattle.std.proofs.Common.{Bor, option_copied, ◌≡◌, ℕ, zero, suc, ◌+◌, ◌-◌, ◌<◌, ◌≤◌, Bool, true, false, not, cond, List, [], ◌∷◌, drop, position, length, nat_lt, is_err, is_none, is_some, slice_index_or, Option, None, Some, Result, Ok, Err, OnOk, refl, ap, ◌∙◌, arith}
use Rattle.std.specs.List.{prefix_len}
use Rattle.std.proofs.lemmas.Bool.{ltb-true, lt-ltb}
use Rattle.std.proofs.lemmas.List.{get_or-drop, length-drop}

-- what holds where there is no error
pub ok-there : {A E : Type 0} (r : Result A E) (P : Type 0) → is_err r ≡ false → OnOk r P → P
ok-there (Ok x) P none holds = holds
ok-there (Err e) P none holds = absurd cc

-- a list of no length is empty
pub nil-is : {A : Type 0} (xs : List A) → length xs ≡ 0 → xs ≡ []
nil-is [] e = refl
nil-is (x ∷ xs) e = absurd (omega arith)

-- a number is 0 where it can't be above
pub zero-is : (n : ℕ) → (0 < n → false ≡ true) → n ≡ 0
zero-is zero not_above = refl
zero-is (suc n) not_above = let wrong : false ≡ true = not_above (omega arith) in absurd cc

-- nor is it below another
pub not-below : (n m : ℕ) → (n < m → false ≡ true) → m ≤ n
not-below n zero isnt = omega arith
not-below zero (suc m) isnt = let wrong : false ≡ true = isnt (omega arith) in absurd cc
not-below (suc n) (suc m) isnt = omega (arith, not-below n m (λ lt. isnt (omega arith)))

-- a list by its first
pub first-is : {A : Type 0} (xs : List A) (x : A) → 0 < length xs → x ≡ slice_index_or xs 0 x → xs ≡ x ∷ drop 1 xs
first-is [] x some e = absurd (omega arith)
first-is (y ∷ ys) x some e = rw e refl

-- a value is none or some
pub none-some : {T : Type 0} (o : Option T) → o ≡ None → is_some o ≡ true → ⊥
none-some None none some = absurd cc
none-some (Some t) none some = absurd cc

-- a value behind a reference is there where the reference is
pub some-copied : {T : Type 0} (o : Option (Bor T)) → is_some (option_copied o) ≡ is_some o
some-copied None = refl
some-copied (Some x) = refl

module _ {T : Type 0} (p : Option T → Bool) where
  -- how many don't pass, up to the first that does
  found-len : (xs : List (Option T)) (i : ℕ) → i < length xs → ((k : ℕ) → k < i → p (slice_index_or xs k None) ≡ false) → p (slice_index_or xs i None) ≡ true
      → prefix_len (λ x. not (p x)) xs ≡ i
  found-len [] i within before here = absurd (omega arith)
  found-len (x ∷ xs) zero within before here = rw here refl
  found-len (x ∷ xs) (suc i) within before here =
      let first : p x ≡ false = before 0 (omega arith) in
      let rest = found-len xs i (omega arith) (λ k lt. before (suc k) (omega arith)) here in
      rw first (omega arith)

  -- and where none does
  none-len : (xs : List (Option T)) → ((k : ℕ) → k < length xs → p (slice_index_or xs k None) ≡ false) → prefix_len (λ x. not (p x)) xs ≡ length xs
  none-len [] before = refl
  none-len (x ∷ xs) before =
      let first : p x ≡ false = before 0 (omega arith) in
      let rest = none-len xs (λ k lt. before (suc k) (omega arith)) in
      rw first (omega arith)

  -- the first that passes
  pub found-at : (xs : List (Option T)) (i : ℕ) → i < length xs → ((k : ℕ) → k < i → p (slice_index_or xs k None) ≡ false) → p (slice_index_or xs i None) ≡ true
      → position p xs ≡ Some i
  found-at xs i within before here =
      let len = found-len xs i within before here in
      let inside : nat_lt i (length xs) ≡ true = lt-ltb i (length xs) within in
      rw (len, inside) refl

  -- and where none does
  pub none-at : (xs : List (Option T)) → ((k : ℕ) → k < length xs → p (slice_index_or xs k None) ≡ false) → position p xs ≡ None
  none-at xs before =
      let len = none-len xs before in
      rw len (by_test (nat_lt (length xs) (length xs)) refl)
    where
      by_test : (b : Bool) → nat_lt (length xs) (length xs) ≡ b → cond b (Some (length xs)) None ≡ None
      by_test true test = let wrong = ltb-true (length xs) (length xs) test in absurd (omega arith)
      by_test false test = refl

module _ {T : Type 0} where
  -- as many blanks as stand together at the front
  run-is : (xs : List (Option T)) (n : ℕ) → n ≤ length xs → ((k : ℕ) → k < n → slice_index_or xs k None ≡ None) → (n < length xs → is_some (slice_index_or xs n None) ≡ true)
      → prefix_len is_none xs ≡ n
  run-is [] n within blank stops = omega arith
  run-is (None ∷ xs) zero within blank stops = let wrong : false ≡ true = stops (omega arith) in absurd cc
  run-is (Some x ∷ xs) zero within blank stops = refl
  run-is (x ∷ xs) (suc n) within blank stops =
      let first : x ≡ None = blank 0 (omega arith) in
      let rest = run-is xs n (omega arith) (λ k lt. blank (suc k) (omega arith)) (λ lt. stops (omega arith)) in
      rw first (omega arith)

  -- the same behind the first items
  pub run-from : (xs : List (Option T)) (i n : ℕ) → i + n ≤ length xs → ((k : ℕ) → i ≤ k → k < i + n → slice_index_or xs k None ≡ None)
      → (i + n < length xs → is_some (slice_index_or xs (i + n) None) ≡ true) → prefix_len is_none (drop i xs) ≡ n
  run-from xs i n within blank stops =
      let len = length-drop i xs in
      run-is (drop i xs) n (omega arith) (λ k lt. get_or-drop i xs k None ∙ blank (i + k) (omega arith) (omega arith))
      (λ lt. ap is_some (get_or-drop i xs n None) ∙ stops (omega arith))

  -- the same by where the run ends
  pub run-to : (xs : List (Option T)) (i at : ℕ) → i ≤ at → at ≤ length xs → ((k : ℕ) → i ≤ k → k < at → slice_index_or xs k None ≡ None)
      → (at < length xs → is_some (slice_index_or xs at None) ≡ true) → prefix_len is_none (drop i xs) ≡ at - i
  run-to xs i at above within blank stops =
      let e : i + (at - i) ≡ at = omega arith in
      run-from xs i (at - i) (omega arith) (λ k from to. blank k from (omega arith)) (λ lt. rw e (stops (omega arith)))

  -- no item stands behind a line
  pub run-past : (xs : List (Option T)) (i : ℕ) → length xs ≤ i → prefix_len is_none (drop i xs) ≡ 0
  run-past xs i past = let len = length-drop i xs in by_list (drop i xs) (omega arith)
    where
      by_list : (ys : List (Option T)) → length ys ≡ 0 → prefix_len is_none ys ≡ 0
      by_list [] none = refl
      by_list (y ∷ ys) none = absurd (omega arith)
