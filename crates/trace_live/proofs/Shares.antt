-- Whose elements are whose, of a list that is taken apart among callers; and of lists that were dealt from one.
use Rattle.std.proofs.Common.{◌≡◌, ◌≢◌, ◌≤◌, ◌<◌, ◌+◌, ◌==◌, ℕ, suc, Bool, true, false, true≢false, ◌⊎◌, inl, inr, List, [], ◌∷◌, ◌++◌, length, map, filter, get_or, cond, refl, sym, ap, ◌∙◌, subst, append-nil, arith}
use Rattle.std.specs.List.{count_by, sum_by}
use Rattle.std.proofs.lemmas.List.Sums.{sum_by-cons}
use Rattle.std.proofs.lemmas.List.{map-append}
use Rattle.std.proofs.lemmas.Bool.{eqb-true, eqb-false}
use Rattle.trace_live.proofs.Parts.{Covers, Empty, Lone, all_theirs, joined, joined-empty, parts, second, times, together, total}

-- a test of what elements become
filter-map : {A S : Type 0} (st : A → S) (test : S → Bool) (xs : List A) → filter test (map st xs) ≡ map st (filter (λ x. test (st x)) xs)
filter-map st test [] = refl
filter-map st test (x ∷ xs) = by_test (test (st x)) (filter-map st test xs)
  where
    by_test : (b : Bool) → filter test (map st xs) ≡ map st (filter (λ x. test (st x)) xs)
        → cond b (st x ∷ filter test (map st xs)) (filter test (map st xs)) ≡ map st (cond b (x ∷ filter (λ x. test (st x)) xs) (filter (λ x. test (st x)) xs))
    by_test true e = ap (λ l. st x ∷ l) e
    by_test false e = e

map-joined : {A S : Type 0} (st : A → S) (ks : List (List A)) → map st (joined ks) ≡ joined (map (map st) ks)
map-joined st [] = refl
map-joined st (k ∷ ks) = map-append st k (joined ks) ∙ ap (λ l. map st k ++ l) (map-joined st ks)

empty-mapped : {A S : Type 0} (st : A → S) (xs : List A) → map st xs ≡ [] → xs ≡ []
empty-mapped st [] e = refl
empty-mapped st (x ∷ xs) e = absurd (some_there e)
  where
    has_one : {B : Type 0} → List B → Bool
    has_one [] = false
    has_one (b ∷ bs) = true

    some_there : {B : Type 0} {y : B} {ys : List B} → y ∷ ys ≢ []
    some_there e = true≢false (ap has_one e)

all_empty : {A S : Type 0} (st : A → S) (ks : List (List A)) → Empty (map (map st) ks) → Empty ks
all_empty st [] e = tt
all_empty st (k ∷ ks) e = (empty-mapped st k e.0, all_empty st ks e.1)

lone : {A S : Type 0} (st : A → S) (ks : List (List A)) → Lone (map (map st) ks) → Lone ks
lone st [] l = tt
lone st (k ∷ ks) (inl l) = inl (empty-mapped st k l.0, lone st ks l.1)
lone st (k ∷ ks) (inr l) = inr (all_empty st ks l)

-- callers, each with a number and its own elements of a list; of: for whom an element is; st: what is looked at of one
module _ {A C S : Type 0} (of : A → ℕ) (number : C → ℕ) (own : C → List A) (st : A → S) where
  -- each has its own of a list
  abbrev pub Owns : List A → List C → Type 0
  Owns xs [] = Unit {0}
  Owns xs (c ∷ cs) = (own c ≡ filter (λ x. of x == number c) xs) × Owns xs cs

  -- what a caller's own are that pass
  abbrev pub passing : (S → Bool) → C → List S
  passing test c = filter test (map st (own c))

  total_is : (xs : List A) (cs : List C) → Owns xs cs → sum_by (λ c. length (own c)) cs ≡ total of (map number cs) xs
  unfolding total
  total_is xs [] o = refl
  total_is xs (c ∷ cs) o = sum_by-cons (λ c. length (own c)) c cs ∙ (ap (λ l. length l + sum_by (λ c. length (own c)) cs) o.0 ∙ ap (λ n. length (filter (λ x. of x == number c) xs) + n) (total_is xs cs o.1))

  times_is : (m : ℕ) (cs : List C) → times of (map number cs) m ≡ count_by (λ c. number c == m) cs
  unfolding times
  times_is m [] = refl
  times_is m (c ∷ cs) = by_same (number c == m) refl (times_is m cs) ∙ sym (sum_by-cons (λ c. cond (number c == m) 1 0) c cs)
    where
      other_way : (b : Bool) → (number c == m) ≡ b → (m == number c) ≡ b
      other_way true e = subst (λ k. (m == k) ≡ true) (sym (eqb-true (number c) m e)) (same m)
        where
          same : (k : ℕ) → (k == k) ≡ true
          same k = grind arith
      other_way false e = grind (arith, e)

      by_same : (b : Bool) → (number c == m) ≡ b → times of (map number cs) m ≡ count_by (λ c. number c == m) cs
          → cond (m == number c) 1 0 + times of (map number cs) m ≡ cond (number c == m) 1 0 + count_by (λ c. number c == m) cs
      by_same b e further = ap (λ t. cond t 1 0 + times of (map number cs) m) (other_way b e ∙ sym e) ∙ ap (λ n. cond (number c == m) 1 0 + n) further

  mapped_parts : (test : S → Bool) (xs : List A) (cs : List C) → Owns xs cs → map (map st) (parts of (λ x. test (st x)) xs (map number cs)) ≡ map (passing test) cs
  mapped_parts test xs [] o = refl
  mapped_parts test xs (c ∷ cs) o =
      ap (λ k. k ∷ map (map st) (parts of (λ x. test (st x)) xs (map number cs))) (sym (filter-map st test (filter (λ x. of x == number c) xs)) ∙ ap (λ l. filter test (map st l)) (sym o.0))
      ∙ ap (λ l. passing test c ∷ l) (mapped_parts test xs cs o.1)

  -- where one caller at most has some that pass, and all elements are theirs, these are all that pass, in order
  pub all_passing : (test : S → Bool) (xs : List A) (cs : List C) → Owns xs cs → ((m : ℕ) → count_by (λ c. number c == m) cs ≤ 1) → length xs ≡ sum_by (λ c. length (own c)) cs → Lone (map (passing test) cs)
      → filter test (map st xs) ≡ joined (map (passing test) cs)
  all_passing test xs cs o once counted few =
      let ns = map number cs in
      let t : A → Bool = λ x. test (st x) in
      let same = mapped_parts test xs cs o in
      filter-map st test xs
      ∙ (ap (map st) (together of t ns xs (all_theirs of t ns (λ m. subst (λ n. n ≤ 1) (sym (times_is m cs)) (once m)) xs (counted ∙ total_is xs cs o)) (lone st (parts of t xs ns) (subst Lone (sym same) few)))
      ∙ (map-joined st (parts of t xs ns) ∙ ap joined same))

  -- where all callers but the second have none that pass, those that pass are its own
  pub second_has : (test : S → Bool) (xs : List A) (c e : C) (cs : List C) → Owns xs (c ∷ e ∷ cs) → ((m : ℕ) → count_by (λ c. number c == m) (c ∷ e ∷ cs) ≤ 1) → length xs ≡ sum_by (λ c. length (own c)) (c ∷ e ∷ cs)
      → Empty (map (passing test) (c ∷ cs)) → Covers of (λ x. test (st x)) (λ x. of x == number e) xs
  second_has test xs c e cs o once counted none =
      let all = c ∷ e ∷ cs in
      let t : A → Bool = λ x. test (st x) in
      second of t (number c) (number e) (map number cs) xs (all_theirs of t (map number all) (λ m. subst (λ n. n ≤ 1) (sym (times_is m all)) (once m)) xs (counted ∙ total_is xs all o))
      (all_empty st (parts of t xs (map number (c ∷ cs))) (subst Empty (sym (mapped_parts test xs (c ∷ cs) (o.0, o.1.1))) none))

-- lists that were dealt from one; by: whose a step is
module _ {S : Type 0} (by : ℕ → S → Bool) (apart : (g h : ℕ) (s : S) → by g s ≡ true → by h s ≡ true → g ≡ h) where
  -- those of two names
  none_of : (g h : ℕ) → g ≢ h → (xs : List S) → filter (by h) (filter (by g) xs) ≡ []
  none_of g h other [] = refl
  none_of g h other (x ∷ xs) = by_first (by g x) refl (none_of g h other xs)
    where
      by_second : (b : Bool) → by h x ≡ b → by g x ≡ true → filter (by h) (filter (by g) xs) ≡ [] → cond b (x ∷ filter (by h) (filter (by g) xs)) (filter (by h) (filter (by g) xs)) ≡ []
      by_second true e is further = absurd (other (apart g h x is e))
      by_second false e is further = further

      by_first : (a : Bool) → by g x ≡ a → filter (by h) (filter (by g) xs) ≡ [] → filter (by h) (cond a (x ∷ filter (by g) xs) (filter (by g) xs)) ≡ []
      by_first true e further = by_second (by h x) refl e further
      by_first false e further = further

  -- what passes one test passes another
  pub passes : (p q : S → Bool) → ((s : S) → p s ≡ true → q s ≡ true) → (xs : List S) → filter p (filter q xs) ≡ filter p xs
  passes p q w [] = refl
  passes p q w (x ∷ xs) = by_second (q x) refl (passes p q w xs)
    where
      by_first : (b : Bool) → p x ≡ b → q x ≡ false → filter p (filter q xs) ≡ filter p xs → filter p (filter q xs) ≡ cond b (x ∷ filter p xs) (filter p xs)
      by_first true e isnt further = absurd (true≢false (sym (w x e) ∙ isnt))
      by_first false e isnt further = further

      by_second : (a : Bool) → q x ≡ a → filter p (filter q xs) ≡ filter p xs → filter p (cond a (x ∷ filter q xs) (filter q xs)) ≡ cond (p x) (x ∷ filter p xs) (filter p xs)
      by_second true e further = ap (λ l. cond (p x) (x ∷ l) l) further
      by_second false e further = by_first (p x) refl e further

  -- each has its own of some steps, from this name on
  abbrev pub Dealt : List S → ℕ → List (List S) → Type 0
  Dealt steps base all = (i : ℕ) → i < length all → get_or all i [] ≡ filter (by (base + i)) steps

  behind : (steps : List S) (base : ℕ) (l : List S) (all : List (List S)) → Dealt steps base (l ∷ all) → Dealt steps (suc base) all
  behind steps base l all d i lt = d (suc i) (omega (arith, lt)) ∙ ap (λ n. filter (by n) steps) (let at : base + suc i ≡ suc base + i = omega arith in at)

  front : (steps : List S) (base : ℕ) (l : List S) (all : List (List S)) → Dealt steps base (l ∷ all) → l ≡ filter (by base) steps
  front steps base l all d = d 0 (omega arith) ∙ ap (λ n. filter (by n) steps) (let at : base + 0 ≡ base = omega arith in at)

  -- a name before all these has none of theirs
  before : (h : ℕ) (steps : List S) (base : ℕ) (all : List (List S)) → h < base → Dealt steps base all → Empty (map (filter (by h)) all)
  before h steps base [] lt d = tt
  before h steps base (l ∷ all) lt d =
      ((ap (filter (by h)) (front steps base l all d) ∙ none_of base h (λ e. absurd (omega (arith, lt, e))) steps), before h steps (suc base) all (omega (arith, lt)) (behind steps base l all d))

  pub lone_dealt : (h : ℕ) (steps : List S) (base : ℕ) (all : List (List S)) → Dealt steps base all → Lone (map (filter (by h)) all)
  lone_dealt h steps base [] d = tt
  lone_dealt h steps base (l ∷ all) d = by_name (h == base) refl (lone_dealt h steps (suc base) all (behind steps base l all d))
    where
      by_name : (b : Bool) → (h == base) ≡ b → Lone (map (filter (by h)) all) → ((filter (by h) l ≡ []) × Lone (map (filter (by h)) all)) ⊎ Empty (map (filter (by h)) all)
      by_name true e further = inr (before h steps (suc base) all (omega (arith, eqb-true h base e)) (behind steps base l all d))
      by_name false e further = inl ((ap (filter (by h)) (front steps base l all d) ∙ none_of base h (λ same. eqb-false h base e (sym same)) steps), further)

  pub joined_dealt : (h : ℕ) (steps : List S) (base : ℕ) (all : List (List S)) → base ≤ h → h < base + length all → Dealt steps base all → joined (map (filter (by h)) all) ≡ filter (by h) steps
  joined_dealt h steps base [] le lt d = absurd (omega (arith, le, lt))
  joined_dealt h steps base (l ∷ all) le lt d = by_name (h == base) refl (λ other. joined_dealt h steps (suc base) all (omega (arith, le, other)) (omega (arith, lt)) (behind steps base l all d))
    where
      by_name : (b : Bool) → (h == base) ≡ b → (h ≢ base → joined (map (filter (by h)) all) ≡ filter (by h) steps) → filter (by h) l ++ joined (map (filter (by h)) all) ≡ filter (by h) steps
      by_name true e further =
          ap (λ k. k ++ joined (map (filter (by h)) all)) (ap (filter (by h)) (front steps base l all d ∙ ap (λ n. filter (by n) steps) (sym (eqb-true h base e))) ∙ passes (by h) (by h) (λ s is. is) steps)
          ∙ (ap (λ k. filter (by h) steps ++ k) (joined-empty (map (filter (by h)) all) (before h steps (suc base) all (omega (arith, eqb-true h base e)) (behind steps base l all d))) ∙ append-nil (filter (by h) steps))
      by_name false e further =
          ap (λ k. k ++ joined (map (filter (by h)) all)) (ap (filter (by h)) (front steps base l all d) ∙ none_of base h (λ same. eqb-false h base e (sym same)) steps)
          ∙ further (λ same. eqb-false h base e same)

  -- of steps of which none passes there is none in what was dealt
  pub empty_dealt : (test : S → Bool) → ((g : ℕ) (s : S) → by g s ≡ true → test s ≡ false) → (steps : List S) (base : ℕ) (all : List (List S)) → Dealt steps base all → Empty (map (filter test) all)
  empty_dealt test none steps base [] d = tt
  empty_dealt test none steps base (l ∷ all) d = ((ap (filter test) (front steps base l all d) ∙ without steps), empty_dealt test none steps (suc base) all (behind steps base l all d))
    where
      by_first : (x : S) (xs : List S) (a : Bool) → by base x ≡ a → filter test (filter (by base) xs) ≡ [] → filter test (cond a (x ∷ filter (by base) xs) (filter (by base) xs)) ≡ []
      by_first x xs true e further = ap (λ t. cond t (x ∷ filter test (filter (by base) xs)) (filter test (filter (by base) xs))) (none base x e) ∙ further
      by_first x xs false e further = further

      without : (xs : List S) → filter test (filter (by base) xs) ≡ []
      without [] = refl
      without (x ∷ xs) = by_first x xs (by base x) refl (without xs)

-- lists that are empty are left out: what the others have that passes is all
module _ {S : Type 0} (test : S → Bool) (has : List S → Bool) (only_empty : (l : List S) → has l ≡ false → l ≡ []) where
  pub empty_had : (all : List (List S)) → Empty (map (filter test) all) → Empty (map (filter test) (filter has all))
  empty_had [] e = tt
  empty_had (l ∷ all) e = by_had (has l) e.0 (empty_had all e.1)
    where
      by_had : (b : Bool) → filter test l ≡ [] → Empty (map (filter test) (filter has all)) → Empty (map (filter test) (cond b (l ∷ filter has all) (filter has all)))
      by_had true none further = (none, further)
      by_had false none further = further

  pub lone_empty : (ks : List (List S)) → Empty ks → Lone ks
  lone_empty [] e = tt
  lone_empty (k ∷ ks) e = inr e.1

  pub lone_had : (all : List (List S)) → Lone (map (filter test) all) → Lone (map (filter test) (filter has all))
  lone_had [] e = tt
  lone_had (l ∷ all) (inl e) = by_had (has l) (lone_had all e.1)
    where
      by_had : (b : Bool) → Lone (map (filter test) (filter has all)) → Lone (map (filter test) (cond b (l ∷ filter has all) (filter has all)))
      by_had true further = inl (e.0, further)
      by_had false further = further
  lone_had (l ∷ all) (inr e) = by_had (has l) (empty_had all e)
    where
      by_had : (b : Bool) → Empty (map (filter test) (filter has all)) → Lone (map (filter test) (cond b (l ∷ filter has all) (filter has all)))
      by_had true further = inr further
      by_had false further = lone_empty (map (filter test) (filter has all)) further

  pub joined_had : (all : List (List S)) → joined (map (filter test) (filter has all)) ≡ joined (map (filter test) all)
  joined_had [] = refl
  joined_had (l ∷ all) = by_had (has l) refl (joined_had all)
    where
      by_had : (b : Bool) → has l ≡ b → joined (map (filter test) (filter has all)) ≡ joined (map (filter test) all) → joined (map (filter test) (cond b (l ∷ filter has all) (filter has all))) ≡ filter test l ++ joined (map (filter test) all)
      by_had true e further = ap (λ k. filter test l ++ k) further
      by_had false e further = further ∙ ap (λ k. filter test k ++ joined (map (filter test) all)) (sym (only_empty l e))
