-- The transfers of a name that are in their callbacks: each number once, and what is left where one ends.
use Rattle.std.proofs.Common.{◌≡◌, ℕ, ◌+◌, ◌<◌, ◌≤◌, Bool, true, false, refl, ap, sym, subst, ◌∙◌, arith, List, [], ◌∷◌, map, Option, Some, None, ◌⊎◌, inl, inr}
use Rattle.std.specs.Prelude.{◌==◌, count_by, if◌then◌else◌}
use Rattle.std.specs.List.{AllByRecursion}
use Rattle.std.proofs.lemmas.Bool.{cases_lt, eqb-true}
use Rattle.std.proofs.lemmas.Option.{same_Some}
use Rattle.usb_model.specs.declared.result.InCallback.{InCallback}
use Rattle.usb_model.specs.Laws.Cut.{times}
use Rattle.usb_model.specs.Laws.Places.{InNoPlace, InOnePlace, numbers_called}
use Rattle.usb_model.specs.Machine.{Machine}
use Rattle.usb_model.specs.Machine.Calls.{callback_of, without}
use Rattle.usb_model.specs.Setup.{Setup}
use Rattle.usb_model.specs.World.{World, machine_of}
use Rattle.usb_model.specs.World.Journal.{entries}
use Rattle.proof_model.proofs.Lists.Pieces.{same_name}
use Rattle.proof_model.proofs.Lists.Times.{count-cons, times-cons, times_here}
use Rattle.proof_model.proofs.Bounds.Runs.{keeps_bounds}
use Rattle.proof_model.proofs.Places.Placed.{IsPlaced}
use Rattle.proof_model.proofs.Places.Runs.{kept_at}
use Rattle.refine_world.specs.Shows.{Core, Shows}
use Rattle.refine_world.proofs.Links.{machine_parts}

-- the numbers of transfers in callbacks
abbrev pub numbers_in : List InCallback → List ℕ
numbers_in xs = map (λ x. x.n) xs

-- the one that is found has the number
pub found_number : (n : ℕ) (xs : List InCallback) (x : InCallback) → callback_of n xs ≡ Some x → x.n ≡ n
unfolding callback_of
found_number n [] x is = absurd cc
found_number n (y ∷ ys) x is = by_test (y.n == n) refl is (found_number n ys x)
  where
    by_test : (b : Bool) → (y.n == n) ≡ b → (if b then Some y else callback_of n ys) ≡ Some x → (callback_of n ys ≡ Some x → x.n ≡ n) → x.n ≡ n
    by_test true test it rest = ap (λ (z : InCallback). z.n) (sym (same_Some y x it)) ∙ eqb-true y.n n test
    by_test false test it rest = rest it

-- and passes what all pass
pub found_passes : (p : InCallback → Type 0) (n : ℕ) (xs : List InCallback) (x : InCallback) → AllByRecursion p xs → callback_of n xs ≡ Some x → p x
unfolding callback_of
found_passes p n [] x all is = absurd cc
found_passes p n (y ∷ ys) x all is = by_test (y.n == n) is (found_passes p n ys x all.1)
  where
    by_test : (b : Bool) → (if b then Some y else callback_of n ys) ≡ Some x → (callback_of n ys ≡ Some x → p x) → p x
    by_test true it rest = subst p (same_Some y x it) all.0
    by_test false it rest = rest it

-- and its number is among them
found_there : (n : ℕ) (xs : List InCallback) (x : InCallback) → callback_of n xs ≡ Some x → 1 ≤ times n (numbers_in xs)
unfolding callback_of
found_there n [] x is = absurd cc
found_there n (y ∷ ys) x is = by_test (y.n == n) refl is (found_there n ys x)
  where
    by_test : (b : Bool) → (y.n == n) ≡ b → (if b then Some y else callback_of n ys) ≡ Some x → (callback_of n ys ≡ Some x → 1 ≤ times n (numbers_in ys)) → 1 ≤ times n (y.n ∷ numbers_in ys)
    by_test true test it rest = omega (arith, times_here n y.n (numbers_in ys) (eqb-true y.n n test))
    by_test false test it rest = omega (arith, rest it, times-cons n y.n (numbers_in ys))

-- of another number the same is found where one ended, and of its own none
pub found_without : (n k : ℕ) (xs : List InCallback) → callback_of k (without n xs) ≡ (if n == k then None else callback_of k xs)
unfolding callback_of without
found_without n k [] = by_test (n == k)
  where
    by_test : (b : Bool) → ◌≡◌ {A = Option InCallback} None (if b then None else None)
    by_test true = refl
    by_test false = refl
found_without n k (x ∷ xs) = by_test (x.n == n) refl (n == k) refl (x.n == k) refl (found_without n k xs)
  where
    by_test : (a : Bool) → (x.n == n) ≡ a → (b : Bool) → (n == k) ≡ b → (t : Bool) → (x.n == k) ≡ t → callback_of k (without n xs) ≡ (if n == k then None else callback_of k xs)
        → callback_of k (if a then without n xs else x ∷ without n xs) ≡ (if b then None else if t then Some x else callback_of k xs)
    by_test true a true b t is rest = rest ∙ ap (λ (v : Bool). if v then None else callback_of k xs) b
    by_test true a false b true is rest =
        let same : n ≡ k = sym (eqb-true x.n n a) ∙ eqb-true x.n k is in
        let both : false ≡ true = sym b ∙ ap (λ (v : ℕ). v == k) same ∙ same_name k in
        absurd cc
    by_test true a false b false is rest = rest ∙ ap (λ (v : Bool). if v then None else callback_of k xs) b
    by_test false a true b true is rest =
        let same : x.n ≡ n = eqb-true x.n k is ∙ sym (eqb-true n k b) in
        let both : false ≡ true = sym a ∙ ap (λ (v : ℕ). v == n) same ∙ same_name n in
        absurd cc
    by_test false a true b false is rest = ap (λ (v : Bool). if v then Some x else callback_of k (without n xs)) is ∙ rest ∙ ap (λ (v : Bool). if v then None else callback_of k xs) b
    by_test false a false b true is rest = ap (λ (v : Bool). if v then Some x else callback_of k (without n xs)) is
    by_test false a false b false is rest = ap (λ (v : Bool). if v then Some x else callback_of k (without n xs)) is ∙ rest ∙ ap (λ (v : Bool). if v then None else callback_of k xs) b

-- where a number stands nowhere nothing ends
none_without : (n : ℕ) (xs : List InCallback) → times n (numbers_in xs) ≡ 0 → without n xs ≡ xs
unfolding without
none_without n [] none = refl
none_without n (x ∷ xs) none = by_test (x.n == n) refl (none_without n xs (omega (arith, none, times-cons n x.n (numbers_in xs))))
  where
    by_test : (b : Bool) → (x.n == n) ≡ b → without n xs ≡ xs → (if b then without n xs else x ∷ without n xs) ≡ x ∷ xs
    by_test true test rest = absurd (omega (arith, none, times_here n x.n (numbers_in xs) (eqb-true x.n n test)))
    by_test false test rest = ap (λ (l : List InCallback). x ∷ l) rest

-- whether the one that ended passes a test
abbrev pub passes_one : (InCallback → Bool) → Option InCallback → Bool
passes_one p None = false
passes_one p (Some x) = p x

-- one less passes a test, if the one that ended does
pub counted_without : (p : InCallback → Bool) (n : ℕ) (xs : List InCallback) → times n (numbers_in xs) ≤ 1 → count_by p xs ≡ count_by p (without n xs) + (if passes_one p (callback_of n xs) then 1 else 0)
unfolding callback_of without
counted_without p n [] once = refl
counted_without p n (x ∷ xs) once = count-cons p x xs ∙ by_test (x.n == n) refl (counted_without p n xs (omega (arith, once, times-cons n x.n (numbers_in xs))))
  where
    by_test : (b : Bool) → (x.n == n) ≡ b → count_by p xs ≡ count_by p (without n xs) + (if passes_one p (callback_of n xs) then 1 else 0)
        → (if p x then 1 else 0) + count_by p xs ≡ count_by p (if b then without n xs else x ∷ without n xs) + (if passes_one p (if b then Some x else callback_of n xs) then 1 else 0)
    by_test true test rest =
        let none : times n (numbers_in xs) ≡ 0 = omega (arith, once, times_here n x.n (numbers_in xs) (eqb-true x.n n test)) in
        let same : count_by p (without n xs) ≡ count_by p xs = ap (count_by p) (none_without n xs none) in
        omega (arith, same)
    by_test false test rest = omega (arith, rest, count-cons p x (without n xs))

-- what all pass those that are left pass
pub passes_without : (p : InCallback → Type 0) (n : ℕ) (xs : List InCallback) → AllByRecursion p xs → AllByRecursion p (without n xs)
unfolding without
passes_without p n [] all = tt
passes_without p n (x ∷ xs) all = by_test (x.n == n) (passes_without p n xs all.1)
  where
    by_test : (b : Bool) → AllByRecursion p (without n xs) → AllByRecursion p (if b then without n xs else x ∷ without n xs)
    by_test true rest = rest
    by_test false rest = (all.0, rest)

-- each number is in one place, in every world that is shown
placed : (setup : Setup) (w : World) (c : Core) (s : Shows setup w c) (h : ℕ) → IsPlaced (machine_of setup h w) (numbers_called (entries setup s.steps h))
placed setup w c s h = subst (λ u. IsPlaced (machine_of setup h u) (numbers_called (entries setup s.steps h))) (sym s.reached) (kept_at setup h s.steps).placed

-- the handle of a machine is the core's
handle_is : (setup : Setup) (w : World) (c : Core) → Shows setup w c → (h : ℕ) → (machine_of setup h w).handle ≡ c.names h
handle_is setup w c s h = (machine_parts setup h w).0 ∙ sym (ap (λ names. names h) s.names)

-- each number is in one callback at most
pub once_called : (setup : Setup) (w : World) (c : Core) → Shows setup w c → (h n : ℕ) → times n (numbers_in (c.names h).in_callbacks) ≤ 1
once_called setup w c s h n = subst (λ v. times n (numbers_in v.in_callbacks) ≤ 1) (handle_is setup w c s h) (by_order (cases_lt n m.handle.next_number))
  where
    m : Machine
    m = machine_of setup h w

    called : List ℕ
    called = numbers_called (entries setup s.steps h)

    in_one : InOnePlace n m called → times n (numbers_in m.handle.in_callbacks) ≤ 1
    in_one p = omega (arith, p.once, p.in_callback)

    in_none : InNoPlace n m called → times n (numbers_in m.handle.in_callbacks) ≤ 1
    in_none p = omega (arith, p.in_no_callback)

    by_order : (n < m.handle.next_number) ⊎ (m.handle.next_number ≤ n) → times n (numbers_in m.handle.in_callbacks) ≤ 1
    by_order (inl lt) = in_one ((placed setup w c s h).given n lt)
    by_order (inr le) = in_none ((placed setup w c s h).not_given n le)

-- a transfer in its callback was submitted before less often than numbers were given
pub round_called : (setup : Setup) (w : World) (c : Core) → Shows setup w c → (h n : ℕ) (x : InCallback) → callback_of n (c.names h).in_callbacks ≡ Some x → x.round < (c.names h).next_number
round_called setup w c s h n x is =
    subst (λ v. x.round < v.next_number) (handle_is setup w c s h) (by_order (cases_lt n m.handle.next_number))
  where
    m : Machine
    m = machine_of setup h w

    found : callback_of n m.handle.in_callbacks ≡ Some x
    found = ap (λ v. callback_of n v.in_callbacks) (handle_is setup w c s h) ∙ is

    rounds : x.round ≤ x.n
    rounds = found_passes (λ y. y.round ≤ y.n) n m.handle.in_callbacks x (subst (λ u. AllByRecursion (λ (y : InCallback). y.round ≤ y.n) (machine_of setup h u).handle.in_callbacks) (sym s.reached) (keeps_bounds setup s.steps h).rounds_in_callbacks) found

    by_order : (n < m.handle.next_number) ⊎ (m.handle.next_number ≤ n) → x.round < m.handle.next_number
    by_order (inl lt) = omega (arith, lt, rounds, found_number n m.handle.in_callbacks x found)
    by_order (inr le) = absurd (omega (arith, ((placed setup w c s h).not_given n le).in_no_callback, found_there n m.handle.in_callbacks x found))

-- where none is found nothing ends
pub none_ends : (n : ℕ) (xs : List InCallback) → callback_of n xs ≡ None → without n xs ≡ xs
unfolding callback_of without
none_ends n [] none = refl
none_ends n (x ∷ xs) none = by_test (x.n == n) none (none_ends n xs)
  where
    by_test : (b : Bool) → ◌≡◌ {A = Option InCallback} (if b then Some x else callback_of n xs) None → (callback_of n xs ≡ None → without n xs ≡ xs) → (if b then without n xs else x ∷ without n xs) ≡ x ∷ xs
    by_test true it rest = absurd cc
    by_test false it rest = ap (λ (l : List InCallback). x ∷ l) (rest it)
