-- A list whose elements are each somebody's, taken apart by whose they are: where at most one has elements that pass a test, those are all that pass.
use Rattle.std.proofs.Common.{◌≡◌, ◌≢◌, ◌≤◌, ◌+◌, ◌==◌, ℕ, Bool, true, false, true≢false, ◌||◌, ◌⊎◌, inl, inr, List, [], ◌∷◌, ◌++◌, length, map, filter, cond, refl, sym, ap, ◌∙◌, append-nil, arith}
use Rattle.std.specs.List.{list_any, flat_map}

-- in each list there is nothing
abbrev pub Empty : {A : Type 0} → List (List A) → Type 0
Empty [] = Unit {0}
Empty (k ∷ ks) = (k ≡ []) × Empty ks

-- at most one of the lists has elements
abbrev pub Lone : {A : Type 0} → List (List A) → Type 0
Lone [] = Unit {0}
Lone (k ∷ ks) = ((k ≡ []) × Lone ks) ⊎ Empty ks

abbrev pub joined : {A : Type 0} → List (List A) → List A
joined ks = flat_map (λ k. k) ks

pub joined-empty : {A : Type 0} (ks : List (List A)) → Empty ks → joined ks ≡ []
joined-empty [] e = refl
joined-empty (k ∷ ks) e = ap (λ l. l ++ joined ks) e.0 ∙ joined-empty ks e.1

-- a list with an element isn't empty
has_one : {A : Type 0} → List A → Bool
has_one [] = false
has_one (x ∷ xs) = true

cons≢nil : {A : Type 0} (x : A) (xs : List A) → x ∷ xs ≢ []
unfolding has_one
cons≢nil x xs e = true≢false (ap has_one e)

or-swap : (a b c : Bool) → ((a || (b || c)) ≡ true) → (b || (a || c)) ≡ true
or-swap true true c e = refl
or-swap true false c e = refl
or-swap false true c e = refl
or-swap false false c e = e

or-none : (a : Bool) → (a || false) ≡ true → a ≡ true
or-none true e = refl
or-none false e = e

-- of: whose an element is; test: which are looked at
module _ {A : Type 0} (of : A → ℕ) (test : A → Bool) where
  abbrev pub theirs : ℕ → List A → List A
  theirs n xs = filter (λ x. of x == n) xs

  abbrev pub part : List A → ℕ → List A
  part xs n = filter test (theirs n xs)

  -- each that passes is such a one
  abbrev pub Covers : (A → Bool) → List A → Type 0
  Covers p [] = Unit {0}
  Covers p (x ∷ xs) = (test x ≡ true → p x ≡ true) × Covers p xs

  weaker : (p q : A → Bool) → ((x : A) → p x ≡ true → q x ≡ true) → (xs : List A) → Covers p xs → Covers q xs
  weaker p q w [] c = tt
  weaker p q w (x ∷ xs) c = ((λ t. w x (c.0 t)), weaker p q w xs c.1)

  -- whether an element is one of theirs
  abbrev pub is_by : List ℕ → A → Bool
  is_by ns x = list_any (λ n. of x == n) ns

  -- whose part is empty has none that passes
  dropped : (n : ℕ) (p : A → Bool) (xs : List A) → Covers (λ x. (of x == n) || p x) xs → part xs n ≡ [] → Covers p xs
  dropped n p [] c e = tt
  dropped n p (x ∷ xs) c e = by_owner (of x == n) c.0 e (λ none. dropped n p xs c.1 none)
    where
      by_test : (b : Bool) → test x ≡ b → cond b (x ∷ part xs n) (part xs n) ≡ [] → (test x ≡ true → p x ≡ true) × (part xs n ≡ [])
      by_test true same e = absurd (cons≢nil x (part xs n) e)
      by_test false same e = ((λ t. absurd (true≢false (sym t ∙ same))), e)

      by_owner : (a : Bool) → (test x ≡ true → (a || p x) ≡ true) → filter test (cond a (x ∷ theirs n xs) (theirs n xs)) ≡ [] → (part xs n ≡ [] → Covers p xs) → (test x ≡ true → p x ≡ true) × Covers p xs
      by_owner true covers e further = let both = by_test (test x) refl e in (both.0, further both.1)
      by_owner false covers e further = (covers, further e)

  -- nobody has one that passes
  nobody : (xs : List A) → Covers (λ x. false) xs → filter test xs ≡ []
  nobody [] c = refl
  nobody (x ∷ xs) c = by_test (test x) refl (nobody xs c.1)
    where
      by_test : (b : Bool) → test x ≡ b → filter test xs ≡ [] → cond b (x ∷ filter test xs) (filter test xs) ≡ []
      by_test true same none = absurd (true≢false (sym (c.0 same)))
      by_test false same none = none

  -- one has all that pass
  only : (n : ℕ) (xs : List A) → Covers (λ x. of x == n) xs → filter test xs ≡ part xs n
  only n [] c = refl
  only n (x ∷ xs) c = by_owner (of x == n) c.0 (only n xs c.1)
    where
      by_test : (b : Bool) → test x ≡ b → (test x ≡ true → false ≡ true) → filter test xs ≡ part xs n → cond b (x ∷ filter test xs) (filter test xs) ≡ part xs n
      by_test true same covers further = absurd (true≢false (sym (covers same)))
      by_test false same covers further = further

      by_owner : (a : Bool) → (test x ≡ true → a ≡ true) → filter test xs ≡ part xs n → cond (test x) (x ∷ filter test xs) (filter test xs) ≡ filter test (cond a (x ∷ theirs n xs) (theirs n xs))
      by_owner true covers further = ap (λ l. cond (test x) (x ∷ l) l) further
      by_owner false covers further = by_test (test x) refl covers further

  -- the parts of these, one behind another
  abbrev pub parts : List A → List ℕ → List (List A)
  parts xs ns = map (part xs) ns

  -- where the parts of these are empty the others have all
  others : (p : A → Bool) (ns : List ℕ) (xs : List A) → Covers (λ x. p x || is_by ns x) xs → Empty (parts xs ns) → Covers p xs
  others p [] xs c e = weaker (λ x. p x || false) p (λ x t. or-none (p x) t) xs c
  others p (n ∷ ns) xs c e =
      others p ns xs (dropped n (λ x. p x || is_by ns x) xs (weaker (λ x. p x || ((of x == n) || is_by ns x)) (λ x. (of x == n) || (p x || is_by ns x)) (λ x t. or-swap (p x) (of x == n) (is_by ns x) t) xs c) e.0) e.1

  -- where all parts but the second are empty, that one has all that pass
  pub second : (c e : ℕ) (ns : List ℕ) (xs : List A) → Covers (is_by (c ∷ e ∷ ns)) xs → Empty (parts xs (c ∷ ns)) → Covers (λ x. of x == e) xs
  second c e ns xs covers none = others (λ x. of x == e) ns xs (dropped c (is_by (e ∷ ns)) xs covers none.0) none.1

  -- where one at most has elements that pass, those are all that pass
  pub together : (ns : List ℕ) (xs : List A) → Covers (is_by ns) xs → Lone (parts xs ns) → filter test xs ≡ joined (parts xs ns)
  together [] xs c lone = nobody xs c
  together (n ∷ ns) xs c (inl there) = together ns xs (dropped n (is_by ns) xs c there.0) there.1 ∙ ap (λ l. l ++ joined (parts xs ns)) (sym there.0)
  together (n ∷ ns) xs c (inr none) =
      only n xs (others (λ x. of x == n) ns xs c none) ∙ (sym (append-nil (part xs n)) ∙ ap (λ l. part xs n ++ l) (sym (joined-empty (parts xs ns) none)))

module _ {A : Type 0} (of : A → ℕ) where
  -- how many elements they have together
  unfoldable pub total : List ℕ → List A → ℕ
  total [] xs = 0
  total (n ∷ ns) xs = length (filter (λ x. of x == n) xs) + total ns xs

  -- how often a number is among these
  unfoldable pub times : List ℕ → ℕ → ℕ
  times [] m = 0
  times (n ∷ ns) m = cond (m == n) 1 0 + times ns m

  total-nil : (ns : List ℕ) → total ns [] ≡ 0
  unfolding total
  total-nil [] = refl
  total-nil (n ∷ ns) = omega (arith, total-nil ns)

  total-more : (ns : List ℕ) (x : A) (xs : List A) → total ns (x ∷ xs) ≡ times ns (of x) + total ns xs
  unfolding total times
  total-more [] x xs = refl
  total-more (n ∷ ns) x xs = by_owner (of x == n) (total-more ns x xs)
    where
      by_owner : (a : Bool) → total ns (x ∷ xs) ≡ times ns (of x) + total ns xs
          → length (cond a (x ∷ filter (λ x. of x == n) xs) (filter (λ x. of x == n) xs)) + total ns (x ∷ xs) ≡ (cond a 1 0 + times ns (of x)) + (length (filter (λ x. of x == n) xs) + total ns xs)
      by_owner true e = omega (arith, e)
      by_owner false e = omega (arith, e)

  fewer : (ns : List ℕ) → ((m : ℕ) → times ns m ≤ 1) → (xs : List A) → total ns xs ≤ length xs
  fewer ns once [] = omega (arith, total-nil ns)
  fewer ns once (x ∷ xs) = omega (arith, total-more ns x xs, once (of x), fewer ns once xs)

  among : (ns : List ℕ) (m : ℕ) → times ns m ≡ 1 → list_any (λ n. m == n) ns ≡ true
  unfolding times
  among [] m e = absurd (omega (arith, e))
  among (n ∷ ns) m e = by_same (m == n) e (among ns m)
    where
      by_same : (a : Bool) → cond a 1 0 + times ns m ≡ 1 → (times ns m ≡ 1 → list_any (λ n. m == n) ns ≡ true) → (a || list_any (λ n. m == n) ns) ≡ true
      by_same true e further = refl
      by_same false e further = further (omega (arith, e))

  -- where they have as many as there are, and no two have one number, each element is one of theirs
  pub all_theirs : (test : A → Bool) (ns : List ℕ) → ((m : ℕ) → times ns m ≤ 1) → (xs : List A) → length xs ≡ total ns xs → Covers of test (is_by of test ns) xs
  all_theirs test ns once [] e = tt
  all_theirs test ns once (x ∷ xs) e =
      let more = total-more ns x xs in
      let few = fewer ns once xs in
      let one = once (of x) in
      ((λ t. among ns (of x) (omega (arith, more, few, one, e))), all_theirs test ns once xs (omega (arith, more, few, one, e)))
