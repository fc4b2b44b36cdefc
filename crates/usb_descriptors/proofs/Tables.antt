-- A table of endpoints never has more than 30: their places, told by number and direction, differ.
use Rattle.std.proofs.Common.{◌≡◌, ℕ, ◌+◌, ◌-◌, ◌*◌, ◌/◌, ◌%◌, ◌<◌, ◌≤◌, true, false, nat_eq, List, [], ◌∷◌, ◌++◌, length, map, refl, sym, ap, subst, inl, inr, arith, length-append}
use Rattle.std.proofs.lemmas.List.{length-map}
use Rattle.std.specs.List.{AllByRecursion, IsDistinct, list_any}
use Rattle.std.proofs.lemmas.Map.Steps.{length-le_from_distinct_below}
use Rattle.std.proofs.lemmas.Bool.{false≢true, or_parts, or_cases, eqb-true, eqb-false, ne_eqb}
use Rattle.usb_model.specs.declared.setup.EndpointInfo.{EndpointInfo}
use Rattle.proof_model.proofs.Lists.Parts.{each_append}
use Rattle.usb_descriptors.specs.Grammar.{is_bad_size}
use Rattle.usb_descriptors.specs.Table.{IsNumbered, IsTable, addresses}

-- numbers that differ, and one more that is none of them
IsDistinct-push : (ks : List ℕ) (k : ℕ) → IsDistinct nat_eq ks → AllByRecursion (λ y. nat_eq y k ≡ false) ks
    → IsDistinct nat_eq (ks ++ k ∷ [])
unfolding IsDistinct
IsDistinct-push [] k apart new = (tt, tt)
IsDistinct-push (y ∷ ks) k apart new = (each_append (λ z. nat_eq y z ≡ false) ks (k ∷ []) apart.0 (new.0, tt), IsDistinct-push ks k apart.1 new.1)

-- where no endpoint has the address, it is none of the addresses
new_address : (xs : List EndpointInfo) (a : ℕ) → list_any (λ y. nat_eq y.address a) xs ≡ false
    → AllByRecursion (λ b. nat_eq b a ≡ false) (addresses xs)
new_address [] a none = tt
new_address (x ∷ xs) a none =
    let parts = or_parts (nat_eq x.address a) (list_any (λ y. nat_eq y.address a) xs) none in (parts.0, new_address xs a parts.1)

-- the addresses of one more endpoint
addresses-push : (xs : List EndpointInfo) (x : EndpointInfo) → addresses (xs ++ x ∷ []) ≡ addresses xs ++ x.address ∷ []
addresses-push [] x = refl
addresses-push (y ∷ xs) x = ap (λ rest. y.address ∷ rest) (addresses-push xs x)

-- no endpoints are a table
pub IsTable-nil : IsTable []
unfolding IsDistinct
IsTable-nil = record { numbered = tt; distinct = tt; sized = tt }

-- a table with one more endpoint that has no fault beside it
pub IsTable-push : (xs : List EndpointInfo) (x : EndpointInfo) → IsTable xs → IsNumbered x.address
    → list_any (λ y. nat_eq y.address x.address) xs ≡ false → is_bad_size x ≡ false → IsTable (xs ++ x ∷ [])
IsTable-push xs x table numbered new sized =
    let address = sym (addresses-push xs x) in
    record {
      numbered = subst (AllByRecursion IsNumbered) address (each_append IsNumbered (addresses xs) (x.address ∷ []) table.numbered (numbered, tt));
      distinct = subst (IsDistinct nat_eq) address (IsDistinct-push (addresses xs) x.address table.distinct (new_address xs x.address new));
      sized = each_append (λ y. is_bad_size y ≡ false) xs (x ∷ []) table.sized (sized, tt);
    }

-- an address's place among 30: twice its number, one more for IN, less the two of number 0
abbrev place : ℕ → ℕ
place a = 2 * (a % 16) + a / 128 - 2

-- each has one of the 30
place-lt : (a : ℕ) → IsNumbered a → place a < 30
place-lt a n = omega (arith, n.byte, n.plain, n.number)

-- no two have the same
place-injective : (a b : ℕ) → IsNumbered a → IsNumbered b → place a ≡ place b → a ≡ b
place-injective a b n m same = omega (arith, n.byte, n.plain, n.number, m.byte, m.plain, m.number)

-- a number that is none of some addresses has a place that is none of theirs
places_differ : (a : ℕ) (bs : List ℕ) → IsNumbered a → AllByRecursion IsNumbered bs → AllByRecursion (λ b. nat_eq a b ≡ false) bs
    → AllByRecursion (λ p. nat_eq (place a) p ≡ false) (map place bs)
places_differ a [] n ns differ = tt
places_differ a (b ∷ bs) n ns differ =
    (ne_eqb (place a) (place b) (λ same. eqb-false a b differ.0 (place-injective a b n ns.0 same)), places_differ a bs n ns.1 differ.1)

-- addresses that differ have places that differ
places_distinct : (bs : List ℕ) → AllByRecursion IsNumbered bs → IsDistinct nat_eq bs → IsDistinct nat_eq (map place bs)
unfolding IsDistinct
places_distinct [] ns apart = tt
places_distinct (b ∷ bs) ns apart = (places_differ b bs ns.0 ns.1 apart.0, places_distinct bs ns.1 apart.1)

-- each place is one of 30
places_below : (bs : List ℕ) → AllByRecursion IsNumbered bs → (q : ℕ) → list_any (nat_eq q) (map place bs) ≡ true → q < 30
places_below [] ns q found = absurd (false≢true found)
places_below (b ∷ bs) ns q found = elim (or_cases (nat_eq q (place b)) (list_any (nat_eq q) (map place bs)) found) [
  | inl here ↦ rw (eqb-true q (place b) here) (place-lt b ns.0)
  | inr there ↦ places_below bs ns.1 q there
]

-- a table has 30 endpoints at most
IsTable-length : (xs : List EndpointInfo) → IsTable xs → length xs ≤ 30
IsTable-length xs table =
    let differ = places_distinct (addresses xs) table.numbered table.distinct in
    let below = places_below (addresses xs) table.numbered in
    let fits = length-le_from_distinct_below (map place (addresses xs)) 30 differ below in
    simp length-map at fits

-- so where one more makes a table, there was room
pub IsTable-room : (xs : List EndpointInfo) (x : EndpointInfo) → IsTable (xs ++ x ∷ []) → length xs < 30
IsTable-room xs x table = omega (arith, length-append xs (x ∷ []), IsTable-length (xs ++ x ∷ []) table)
