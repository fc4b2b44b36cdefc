-- What stands in lists that are made of others, and in which order.
use Rattle.std.proofs.Common.{◌≡◌, ℕ, zero, suc, ◌<◌, ◌≤◌, Bool, true, false, cond, ◌⊎◌, inl, inr, List, [], ◌∷◌, ◌++◌, map, length, get_or, refl, sym, subst, ap, ◌∙◌, arith, append-nil, All, AllPairs, Contains}
use Rattle.std.specs.List.{filter, flat_map}
use Rattle.std.proofs.lemmas.Bool.{cases_lt}
use Rattle.std.proofs.lemmas.List.Concat.{flat_map-append}
use Rattle.std.proofs.lemmas.List.Elements.{All-append, All-head, All-map, All-tail, Contains-append_cases, Contains-append_left, Contains-append_right, Contains-get_or, Contains-push, Contains-push_cases}
use Rattle.std.proofs.lemmas.List.Kept.{AllPairs-cons, AllPairs-filter}
use Rattle.std.proofs.lemmas.List.Quantifiers.{all_pairs_push}
use Rattle.usb_model.specs.World.Due.{below}

module _ {A : Type 0} where
  -- the first of a list stands in it
  pub here : (y : A) (ys : List A) (x : A) → y ≡ x → Contains (y ∷ ys) x
  here y ys x e = (0, omega arith, e)

  -- so does what stands behind it
  pub behind : (y : A) (ys : List A) (x : A) → Contains ys x → Contains (y ∷ ys) x
  behind y ys x c = (suc c.0, omega (arith, c.1), c.2)

  cases_at : (y : A) (ys : List A) (x : A) (k : ℕ) → k < length (y ∷ ys) → get_or (y ∷ ys) k x ≡ x → (y ≡ x) ⊎ Contains ys x
  cases_at y ys x zero lt e = inl e
  cases_at y ys x (suc k) lt e = inr (k, omega (arith, lt), e)

  -- and nothing else
  pub front_or_behind : (y : A) (ys : List A) (x : A) → Contains (y ∷ ys) x → (y ≡ x) ⊎ Contains ys x
  front_or_behind y ys x c = cases_at y ys x c.0 c.1 c.2

  -- nothing stands in an empty list
  pub nowhere : (x : A) → Contains {X = A} [] x → ⊥
  nowhere x c = omega (arith, c.1)

-- what passes a test
pub in_filter : {A : Type 0} (test : A → Bool) (xs : List A) (x : A) → Contains (filter test xs) x → Contains xs x × (test x ≡ true)
in_filter test [] x c = absurd (nowhere x c)
in_filter test (y ∷ ys) x c = by_test (test y) refl c (in_filter test ys x)
  where
    more : Contains ys x × (test x ≡ true) → Contains (y ∷ ys) x × (test x ≡ true)
    more r = (behind y ys x r.0, r.1)

    by_front : test y ≡ true → (y ≡ x) ⊎ Contains (filter test ys) x → (Contains (filter test ys) x → Contains ys x × (test x ≡ true)) → Contains (y ∷ ys) x × (test x ≡ true)
    by_front is (inl e) rest = (here y ys x e, subst (λ v. test v ≡ true) e is)
    by_front is (inr c) rest = more (rest c)

    by_test : (b : Bool) → test y ≡ b → Contains (cond b (y ∷ filter test ys) (filter test ys)) x → (Contains (filter test ys) x → Contains ys x × (test x ≡ true)) → Contains (y ∷ ys) x × (test x ≡ true)
    by_test true is c rest = by_front is (front_or_behind y (filter test ys) x c) rest
    by_test false is c rest = more (rest c)

pub to_filter : {A : Type 0} (test : A → Bool) (xs : List A) (x : A) → test x ≡ true → Contains xs x → Contains (filter test xs) x
to_filter test [] x passes c = absurd (nowhere x c)
to_filter test (y ∷ ys) x passes c = by_front (front_or_behind y ys x c) (to_filter test ys x passes)
  where
    by_test : (b : Bool) → Contains (filter test ys) x → Contains (cond b (y ∷ filter test ys) (filter test ys)) x
    by_test true c = behind y (filter test ys) x c
    by_test false c = c

    by_front : (y ≡ x) ⊎ Contains ys x → (Contains ys x → Contains (filter test ys) x) → Contains (cond (test y) (y ∷ filter test ys) (filter test ys)) x
    by_front (inl e) rest = subst (λ b. Contains (cond b (y ∷ filter test ys) (filter test ys)) x) (sym (ap test e ∙ passes)) (here y (filter test ys) x e)
    by_front (inr c) rest = by_test (test y) (rest c)

-- the image of what stands in a list
module _ {A B : Type 0} (f : A → B) where
  pub in_map : (xs : List A) (y : B) → Contains (map f xs) y → (x : A) × Contains xs x × (y ≡ f x)
  in_map [] y c = absurd (nowhere y c)
  in_map (x ∷ xs) y c = by_front (front_or_behind (f x) (map f xs) y c) (in_map xs y)
    where
      by_front : (f x ≡ y) ⊎ Contains (map f xs) y → (Contains (map f xs) y → (v : A) × Contains xs v × (y ≡ f v)) → (v : A) × Contains (x ∷ xs) v × (y ≡ f v)
      by_front (inl e) rest = (x, here x xs x refl, sym e)
      by_front (inr c) rest = let r = rest c in (r.0, behind x xs r.0 r.1, r.2)

  pub to_map : (xs : List A) (x : A) → Contains xs x → Contains (map f xs) (f x)
  to_map [] x c = absurd (nowhere x c)
  to_map (y ∷ ys) x c = by_front (front_or_behind y ys x c) (to_map ys x)
    where
      by_front : (y ≡ x) ⊎ Contains ys x → (Contains ys x → Contains (map f ys) (f x)) → Contains (f y ∷ map f ys) (f x)
      by_front (inl e) rest = here (f y) (map f ys) (f x) (ap f e)
      by_front (inr c) rest = behind (f y) (map f ys) (f x) (rest c)

-- the numbers below another
pub in_below : (k n : ℕ) → Contains (below k) n → n < k
in_below zero n c = absurd (nowhere n c)
in_below (suc k) n c = by_part (Contains-push_cases (below k) k n c) (in_below k n)
  where
    by_part : Contains (below k) n ⊎ (k ≡ n) → (Contains (below k) n → n < k) → n < suc k
    by_part (inl c) rest = omega (arith, rest c)
    by_part (inr e) rest = omega (arith, e)

pub to_below : (k n : ℕ) → n < k → Contains (below k) n
to_below zero n lt = absurd (omega (arith, lt))
to_below (suc k) n lt = by_order (cases_lt n k) (to_below k n)
  where
    by_order : (n < k) ⊎ (k ≤ n) → (n < k → Contains (below k) n) → Contains (below k ++ k ∷ []) n
    by_order (inl less) rest = Contains-append_left (below k) (k ∷ []) n (rest less)
    by_order (inr le) rest = let same : k ≡ n = omega (arith, lt, le) in subst (Contains (below k ++ k ∷ [])) same (Contains-push (below k) k)

-- a list for each number below another, joined
pub flat_more : {A : Type 0} (F : ℕ → List A) (j : ℕ) → flat_map F (below (suc j)) ≡ flat_map F (below j) ++ F j
flat_more F j = flat_map-append F (below j) (j ∷ []) ∙ ap (λ l. flat_map F (below j) ++ l) (append-nil (F j))

pub in_flat : {A : Type 0} (F : ℕ → List A) (j : ℕ) (x : A) → Contains (flat_map F (below j)) x → (h : ℕ) × (h < j) × Contains (F h) x
in_flat F zero x c = absurd (nowhere x c)
in_flat F (suc j) x c = by_part (Contains-append_cases (flat_map F (below j)) (F j) x (subst (λ l. Contains l x) (flat_more F j) c)) (in_flat F j x)
  where
    by_part : Contains (flat_map F (below j)) x ⊎ Contains (F j) x → (Contains (flat_map F (below j)) x → (h : ℕ) × (h < j) × Contains (F h) x) → (h : ℕ) × (h < suc j) × Contains (F h) x
    by_part (inl c) rest = let r = rest c in (r.0, omega (arith, r.1), r.2)
    by_part (inr c) rest = (j, omega arith, c)

pub to_flat : {A : Type 0} (F : ℕ → List A) (j h : ℕ) (x : A) → h < j → Contains (F h) x → Contains (flat_map F (below j)) x
to_flat F zero h x lt c = absurd (omega (arith, lt))
to_flat F (suc j) h x lt c = subst (λ l. Contains l x) (sym (flat_more F j)) (by_order (cases_lt h j) (λ less. to_flat F j h x less c))
  where
    by_order : (h < j) ⊎ (j ≤ h) → (h < j → Contains (flat_map F (below j)) x) → Contains (flat_map F (below j) ++ F j) x
    by_order (inl less) rest = Contains-append_left (flat_map F (below j)) (F j) x (rest less)
    by_order (inr le) rest = let same : h ≡ j = omega (arith, lt, le) in Contains-append_right (flat_map F (below j)) (F j) x (subst (λ k. Contains (F k) x) same c)

-- what holds of all that stands in a list holds of each of its places
pub all_of : {A : Type 0} (P : A → Type 0) (xs : List A) → ((x : A) → Contains xs x → P x) → All P xs
all_of P xs f k d lt = f (get_or xs k d) (Contains-get_or xs k d lt)

-- a list behind another, in order
pub pairs_append : {A : Type 0} (R : A → A → Type 0) (xs ys : List A) → AllPairs R xs → AllPairs R ys → All (λ x. All (R x) ys) xs → AllPairs R (xs ++ ys)
pairs_append R [] ys p q across = q
pairs_append R (x ∷ xs) ys p q across =
    AllPairs-cons R x (xs ++ ys)
    (All-append (R x) xs ys (λ k d lt. p zero (suc k) d (omega arith) (omega (arith, lt))) (All-head (λ x. All (R x) ys) x xs across))
    (pairs_append R xs ys (λ i j d lt within. p (suc i) (suc j) d (omega (arith, lt)) (omega (arith, within))) q (All-tail (λ x. All (R x) ys) x xs across))

-- the images of a list in order
pub pairs_map : {A B : Type 0} (f : A → B) (R : A → A → Type 0) (S : B → B → Type 0) → ((x y : A) → R x y → S (f x) (f y)) → (xs : List A) → AllPairs R xs → AllPairs S (map f xs)
pairs_map f R S up [] p = λ i j d lt within. absurd (omega (arith, within))
pairs_map f R S up (x ∷ xs) p =
    AllPairs-cons S (f x) (map f xs)
    (All-map (S (f x)) f xs (λ k d lt. up x (get_or xs k d) (p zero (suc k) d (omega arith) (omega (arith, lt)))))
    (pairs_map f R S up xs (λ i j d lt within. p (suc i) (suc j) d (omega (arith, lt)) (omega (arith, within))))

-- the numbers below another rise
pub below_rises : (k : ℕ) → AllPairs (λ x y. x < y) (below k)
below_rises zero = λ i j d lt within. absurd (omega (arith, within))
below_rises (suc k) = all_pairs_push (λ x y. x < y) (below k) k (below_rises k) (all_of (λ n. n < k) (below k) (in_below k))

-- and those of them that pass a test
pub chosen_rise : (test : ℕ → Bool) (k : ℕ) → AllPairs (λ x y. x < y) (filter test (below k))
chosen_rise test k = AllPairs-filter (λ x y. x < y) test (below k) (below_rises k)
