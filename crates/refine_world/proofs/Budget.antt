-- How much waits for one endpoint, how much for all, and why a ring's index names one place.
use Rattle.std.proofs.Common.{Bool, List, Option, [], ap, arith, false, length, length-append, refl, suc, true, ℕ, ◌%◌, ◌*◌, ◌+◌, ◌/◌, ◌<◌, ◌≤◌, ◌==◌, ◌∷◌, ◌≡◌, replicate, ◌-◌}
use Rattle.std.specs.Prelude.{if◌then◌else◌, nat_lt, not, ◌||◌}
use Rattle.std.specs.List.{AllByRecursion, filter, list_any}
use Rattle.usb_model.specs.Stands.{full_trbs, lengths_of}
use Rattle.std.proofs.lemmas.List.{length-replicate}
use Rattle.std.proofs.Math.Nat.{div-mul-le_self, mul-le-mul_right, suc-mul}
use Rattle.std.proofs.lemmas.Nat.{div-add-mod'}
use Rattle.std.proofs.lemmas.Bool.{ltb-false, ltb-true}
use Rattle.usb_model.specs.declared.errand.Errand.{Errand}
use Rattle.usb_model.specs.declared.endpoint.Endpoint.{Endpoint}
use Rattle.usb_model.specs.declared.news.Event.{Event}
use Rattle.usb_model.specs.Coherence.{IsCoherent, served_events}
use Rattle.proof_model.proofs.Bounds.Waits.{few_behind, few_ends}
use Rattle.usb_model.specs.Kept.{InRow, KeptTransfer, first_place}

-- at most 18 events and 1 order wait for an endpoint of 16 places
pub few_at_endpoint : (e : Endpoint) (os : List Errand) (ns : List Event) → IsCoherent e os ns → length e.line ≤ 16 → (length os ≤ 1) × (length ns ≤ 18)
few_at_endpoint e os ns c short =
    let w = few_behind e.state e.errand os (served_events e.line) c.tail c.phase in
    (w.0, omega (arith, ap length c.news, length-append (served_events e.line) c.tail, few_ends e.line, w.1, short))

-- a list is those that pass a test, and the others
pub split_length : {A : Type 0} (test : A → Bool) (xs : List A) → length xs ≡ length (filter test xs) + length (filter (λ x. not (test x)) xs)
split_length test [] = refl
split_length test (x ∷ xs) = by_test (test x) (split_length test xs)
  where
    by_test : (b : Bool) → length xs ≡ length (filter test xs) + length (filter (λ x. not (test x)) xs)
        → suc (length xs) ≡ length (if b then x ∷ filter test xs else filter test xs) + length (if not b then x ∷ filter (λ x. not (test x)) xs else filter (λ x. not (test x)) xs)
    by_test true e = omega (arith, e)
    by_test false e = omega (arith, e)

-- fewer pass where some were left out before
pub fewer : {A : Type 0} (test other : A → Bool) (xs : List A) → length (filter test (filter other xs)) ≤ length (filter test xs)
fewer test other [] = omega arith
fewer test other (x ∷ xs) = by_tests (other x) (fewer test other xs)
  where
    by_tests : (o : Bool) → length (filter test (filter other xs)) ≤ length (filter test xs)
        → length (filter test (if o then x ∷ filter other xs else filter other xs)) ≤ length (if test x then x ∷ filter test xs else filter test xs)
    by_tests true le = by_test (test x)
      where
        by_test : (t : Bool) → length (if t then x ∷ filter test (filter other xs) else filter test (filter other xs)) ≤ length (if t then x ∷ filter test xs else filter test xs)
        by_test true = omega (arith, le)
        by_test false = le
    by_tests false le = by_test (test x)
      where
        by_test : (t : Bool) → length (filter test (filter other xs)) ≤ length (if t then x ∷ filter test xs else filter test xs)
        by_test true = omega (arith, le)
        by_test false = le

-- each has one of these keys
abbrev pub KeysIn : {A : Type 0} → (A → ℕ) → List ℕ → List A → Type 0
KeysIn key ks xs = AllByRecursion (λ x. list_any (λ k. key x == k) ks ≡ true) xs

keys_left : {A : Type 0} (key : A → ℕ) (k : ℕ) (ks : List ℕ) (xs : List A) → KeysIn key (k ∷ ks) xs → KeysIn key ks (filter (λ x. not (key x == k)) xs)
keys_left key k ks [] a = tt
keys_left key k ks (x ∷ xs) a = by_test (key x == k) a.0 (keys_left key k ks xs a.1)
  where
    by_test : (b : Bool) → (b || list_any (λ j. key x == j) ks) ≡ true → KeysIn key ks (filter (λ x. not (key x == k)) xs) → KeysIn key ks (if not b then x ∷ filter (λ x. not (key x == k)) xs else filter (λ x. not (key x == k)) xs)
    by_test true here rest = rest
    by_test false here rest = (here, rest)

-- so many keys, and so many of each: no more in all. With 120 endpoints and 18 events of each these are 2,160
pub few_in_all : {A : Type 0} (key : A → ℕ) (most : ℕ) (ks : List ℕ) (xs : List A) → KeysIn key ks xs → ((k : ℕ) → length (filter (λ x. key x == k) xs) ≤ most) → length xs ≤ length ks * most
few_in_all key most [] [] a few = omega arith
few_in_all key most [] (x ∷ xs) a few = absurd cc
few_in_all key most (k ∷ ks) xs a few =
    let rest = few_in_all key most ks (filter (λ x. not (key x == k)) xs) (keys_left key k ks xs a) (λ j. omega (arith, fewer (λ x. key x == j) (λ x. not (key x == k)) xs, few j)) in
    omega (arith, split_length (λ x. key x == k) xs, few k, rest, suc-mul (length ks) most)

-- the TRBs of a line stand within so many places
pub row_span : (most : ℕ) (ys : List KeptTransfer) (end : ℕ) → InRow ys end → AllByRecursion (λ (y : KeptTransfer). length y.lengths ≤ most) ys → (first_place ys end ≤ end) × (end ≤ first_place ys end + length ys * most)
row_span most [] end row few = (omega arith, omega arith)
row_span most (y ∷ ys) end row few =
    let r = row_span most ys end row.1 few.1 in
    (omega (arith, r.0, row.0), omega (arith, r.1, row.0, few.0, suc-mul (length ys) most))

-- two places that are less than n apart differ in a ring of n
pub index_names : (n i j : ℕ) → 0 < n → i ≤ j → j < i + n → i % n ≡ j % n → i ≡ j
index_names n i j some le near same = by_test (nat_lt (i / n) (j / n)) refl
  where
    by_test : (b : Bool) → nat_lt (i / n) (j / n) ≡ b → i ≡ j
    by_test true e =
        let up : suc (i / n) * n ≤ j / n * n = mul-le-mul_right n (omega (arith, ltb-true (i / n) (j / n) e)) in
        absurd (omega (arith, up, suc-mul (i / n) n, div-add-mod' i n, div-add-mod' j n, same, near))
    by_test false e =
        let down : j / n * n ≤ i / n * n = mul-le-mul_right n (ltb-false (i / n) (j / n) e) in
        omega (arith, down, div-add-mod' i n, div-add-mod' j n, same, le)

-- a line of 16 places, and a dequeue place at most 5 before it, are within 85 places, of the 126 that a ring of 128 has
pub ring_fits : (ys : List KeptTransfer) (end dequeue : ℕ) → InRow ys end → AllByRecursion (λ (y : KeptTransfer). length y.lengths ≤ 5) ys → length ys ≤ 16 → first_place ys end ≤ dequeue + 5 → (end ≤ first_place ys end + 80) × (end ≤ dequeue + 85)
ring_fits ys end dequeue row few short near =
    let span = row_span 5 ys end row few in
    (omega (arith, span.1, short), omega (arith, span.1, short, near))

-- a transfer of at most 262,144 bytes has at most 5 TRBs
pub few_trbs : (extra : Bool) (n : ℕ) → n ≤ 262144 → length (lengths_of extra n) ≤ 5
few_trbs extra n le =
    omega (arith, length-append (replicate (full_trbs n) 65536) ((n - full_trbs n * 65536) ∷ (if extra then 0 ∷ [] else [])), length-replicate {A = ℕ} (full_trbs n) 65536, behind extra, whole)
  where
    behind : (b : Bool) → length {A = ℕ} (if b then 0 ∷ [] else []) ≤ 1
    behind true = omega arith
    behind false = omega arith

    whole : full_trbs n ≤ 3
    whole = omega (arith, div-mul-le_self (n - 1) 65536, le)
