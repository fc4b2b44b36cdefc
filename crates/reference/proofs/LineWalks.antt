-- Searches in a line, in std's words.
use Rattle.std.proofs.Common.{◌≡◌, ℕ, ◌+◌, ◌<◌, ◌≤◌, suc, Bool, true, false, not, cond, ltb, List, [], ◌∷◌, length, get_or, drop, Some, None, refl, sym, ap, ◌∙◌, arith}
use Rattle.std.specs.List.{prefix_len, position_or_len, position}
use Rattle.std.proofs.Math.ListN.{set}
use Rattle.std.proofs.lemmas.Bool.{ltb-true, ltb-false}
use Rattle.usb_model.specs.declared.item.Item.{Item}
use Rattle.usb_model.specs.Endpoint.{is_waiting, is_blank, is_transfer, first_waiting, with_first, past_blanks, past_number}

-- at the first place that waits
set_first : (y : Item) (xs : List Item) → position_or_len is_waiting xs < length xs → set xs (position_or_len is_waiting xs) y ≡ with_first y xs
unfolding with_first
set_first y [] there = refl
set_first y (x ∷ xs) there = by_test (is_waiting x) there (set_first y xs)
  where
    by_test : (b : Bool) → cond (not b) (1 + position_or_len is_waiting xs) 0 < length (x ∷ xs)
        → (position_or_len is_waiting xs < length xs → set xs (position_or_len is_waiting xs) y ≡ with_first y xs)
        → set (x ∷ xs) (cond (not b) (1 + position_or_len is_waiting xs) 0) y ≡ cond b (y ∷ xs) (x ∷ with_first y xs)
    by_test true here rest = refl
    by_test false here rest =
        let one : 1 + position_or_len is_waiting xs ≡ suc (position_or_len is_waiting xs) = omega arith in
        ap (λ k. set (x ∷ xs) k y) one ∙ ap (λ l. x ∷ l) (rest (omega (arith, here)))

-- where none waits
set_nowhere : (y : Item) (xs : List Item) → length xs ≤ position_or_len is_waiting xs → xs ≡ with_first y xs
unfolding with_first
set_nowhere y [] there = refl
set_nowhere y (x ∷ xs) there = by_test (is_waiting x) there (set_nowhere y xs)
  where
    by_test : (b : Bool) → length (x ∷ xs) ≤ cond (not b) (1 + position_or_len is_waiting xs) 0
        → (length xs ≤ position_or_len is_waiting xs → xs ≡ with_first y xs)
        → x ∷ xs ≡ cond b (y ∷ xs) (x ∷ with_first y xs)
    by_test true here rest = absurd (omega (arith, here))
    by_test false here rest = ap (λ l. x ∷ l) (rest (omega (arith, here)))

-- behind the blanks at the beginning
pub blanks_are_skipped : (xs : List Item) → drop (prefix_len is_blank xs) xs ≡ past_blanks xs
unfolding past_blanks
blanks_are_skipped [] = refl
blanks_are_skipped (x ∷ xs) = by_test (is_blank x) (blanks_are_skipped xs)
  where
    by_test : (b : Bool) → drop (prefix_len is_blank xs) xs ≡ past_blanks xs
        → drop (cond b (1 + prefix_len is_blank xs) 0) (x ∷ xs) ≡ cond b (past_blanks xs) (x ∷ xs)
    by_test true rest =
        let one : 1 + prefix_len is_blank xs ≡ suc (prefix_len is_blank xs) = omega arith in
        ap (λ k. drop k (x ∷ xs)) one ∙ rest
    by_test false rest = refl

-- behind the transfer in progress
pub number_is_skipped : (n : ℕ) (xs : List Item) → drop 1 (drop (position_or_len (is_transfer n) xs) xs) ≡ past_number n xs
unfolding past_number
number_is_skipped n [] = refl
number_is_skipped n (x ∷ xs) = by_test (is_transfer n x) (number_is_skipped n xs)
  where
    by_test : (b : Bool) → drop 1 (drop (position_or_len (is_transfer n) xs) xs) ≡ past_number n xs
        → drop 1 (drop (cond (not b) (1 + position_or_len (is_transfer n) xs) 0) (x ∷ xs)) ≡ cond b xs (past_number n xs)
    by_test true rest = refl
    by_test false rest =
        let one : 1 + position_or_len (is_transfer n) xs ≡ suc (position_or_len (is_transfer n) xs) = omega arith in
        ap (λ k. drop 1 (drop k (x ∷ xs))) one ∙ rest

-- another item at the place of the first that waits
pub first_is_replaced : (y : Item) (xs : List Item) (i : ℕ) → position is_waiting xs ≡ Some i → (i < length xs) × (set xs i y ≡ with_first y xs)
first_is_replaced y xs i found = by_test (ltb (position_or_len is_waiting xs) (length xs)) refl found
  where
    by_test : (b : Bool) → ltb (position_or_len is_waiting xs) (length xs) ≡ b → cond b (Some (position_or_len is_waiting xs)) None ≡ Some i
        → (i < length xs) × (set xs i y ≡ with_first y xs)
    by_test true e f =
        let same : position_or_len is_waiting xs ≡ i = cc in
        let there : position_or_len is_waiting xs < length xs = ltb-true (position_or_len is_waiting xs) (length xs) e in
        (omega (arith, same, there), ap (λ k. set xs k y) (sym same) ∙ set_first y xs there)
    by_test false e f = absurd cc

-- where none waits, the line stays as it is
pub none_is_replaced : (y : Item) (xs : List Item) → position is_waiting xs ≡ None → xs ≡ with_first y xs
none_is_replaced y xs found = by_test (ltb (position_or_len is_waiting xs) (length xs)) refl found
  where
    by_test : (b : Bool) → ltb (position_or_len is_waiting xs) (length xs) ≡ b → cond b (Some (position_or_len is_waiting xs)) None ≡ None
        → xs ≡ with_first y xs
    by_test true e f = absurd cc
    by_test false e f = set_nowhere y xs (ltb-false (position_or_len is_waiting xs) (length xs) e)

-- the first that waits stands at its place
first_at : (xs : List Item) (d : Item) → position_or_len is_waiting xs < length xs → first_waiting xs ≡ Some (get_or xs (position_or_len is_waiting xs) d)
unfolding first_waiting
first_at [] d there = absurd (omega (arith, there))
first_at (x ∷ xs) d there = by_test (is_waiting x) there (first_at xs d)
  where
    by_test : (b : Bool) → cond (not b) (1 + position_or_len is_waiting xs) 0 < length (x ∷ xs)
        → (position_or_len is_waiting xs < length xs → first_waiting xs ≡ Some (get_or xs (position_or_len is_waiting xs) d))
        → cond b (Some x) (first_waiting xs) ≡ Some (get_or (x ∷ xs) (cond (not b) (1 + position_or_len is_waiting xs) 0) d)
    by_test true here rest = refl
    by_test false here rest =
        let one : 1 + position_or_len is_waiting xs ≡ suc (position_or_len is_waiting xs) = omega arith in
        rest (omega (arith, here)) ∙ ap (λ k. Some (get_or (x ∷ xs) k d)) (sym one)

-- none waits
first_nowhere : (xs : List Item) → length xs ≤ position_or_len is_waiting xs → first_waiting xs ≡ None
unfolding first_waiting
first_nowhere [] there = refl
first_nowhere (x ∷ xs) there = by_test (is_waiting x) there (first_nowhere xs)
  where
    by_test : (b : Bool) → length (x ∷ xs) ≤ cond (not b) (1 + position_or_len is_waiting xs) 0
        → (length xs ≤ position_or_len is_waiting xs → first_waiting xs ≡ None)
        → cond b (Some x) (first_waiting xs) ≡ None
    by_test true here rest = absurd (omega (arith, here))
    by_test false here rest = rest (omega (arith, here))

-- what stands in the place of the first that waits, waiting itself, is replaced as that would be
stands_in : (y p : Item) (xs : List Item) → is_waiting p ≡ true → with_first y (with_first p xs) ≡ with_first y xs
unfolding with_first
stands_in y p [] waits = refl
stands_in y p (x ∷ xs) waits = by_test (is_waiting x) refl (stands_in y p xs waits)
  where
    by_test : (b : Bool) → is_waiting x ≡ b → with_first y (with_first p xs) ≡ with_first y xs
        → with_first y (cond b (p ∷ xs) (x ∷ with_first p xs)) ≡ cond b (y ∷ xs) (x ∷ with_first y xs)
    by_test true e rest = ap (λ b. cond b (y ∷ xs) (p ∷ with_first y xs)) waits
    by_test false e rest = ap (λ b. cond b (y ∷ with_first p xs) (x ∷ with_first y (with_first p xs))) e ∙ ap (λ l. x ∷ l) rest

-- the first that waits is taken out, and what stands in its place is replaced as it would be
pub first_is_taken : (p d : Item) (xs : List Item) (i : ℕ) → position is_waiting xs ≡ Some i → is_waiting p ≡ true
    → (i < length xs) × (first_waiting xs ≡ Some (get_or xs i d)) × ((y : Item) → with_first y (set xs i p) ≡ with_first y xs)
first_is_taken p d xs i found waits = by_test (ltb (position_or_len is_waiting xs) (length xs)) refl found
  where
    by_test : (b : Bool) → ltb (position_or_len is_waiting xs) (length xs) ≡ b → cond b (Some (position_or_len is_waiting xs)) None ≡ Some i
        → (i < length xs) × (first_waiting xs ≡ Some (get_or xs i d)) × ((y : Item) → with_first y (set xs i p) ≡ with_first y xs)
    by_test true e f =
        let same : position_or_len is_waiting xs ≡ i = cc in
        let there : position_or_len is_waiting xs < length xs = ltb-true (position_or_len is_waiting xs) (length xs) e in
        let put = (first_is_replaced p xs i found).1 in (
          omega (arith, same, there),
          first_at xs d there ∙ ap (λ k. Some (get_or xs k d)) same,
          λ y. ap (with_first y) put ∙ stands_in y p xs waits,
        )
    by_test false e f = absurd cc

-- where none waits, there is none to take
pub none_is_taken : (xs : List Item) → position is_waiting xs ≡ None → first_waiting xs ≡ None
none_is_taken xs found = by_test (ltb (position_or_len is_waiting xs) (length xs)) refl found
  where
    by_test : (b : Bool) → ltb (position_or_len is_waiting xs) (length xs) ≡ b → cond b (Some (position_or_len is_waiting xs)) None ≡ None
        → first_waiting xs ≡ None
    by_test true e f = absurd cc
    by_test false e f = first_nowhere xs (ltb-false (position_or_len is_waiting xs) (length xs) e)
